-- What a command made of its input, or what stopped it, as its answer.
use Rattle.std.proofs.Common.{Bool, false, Result, Ok, Err, IfErr, String, string_bytes}
use Rattle.std.specs.Global.{Global}
use Rattle.ticketc_answers.specs.Answer.{Answer, done, refused, too_long}
use Rattle.ticketc_answers.specs.Inputs.{Answered, gives_up, takes}
use Rattle.ticketc_answers.specs.Stop.{IfTold, Tells}
use Rattle.ticketc_answers.specs.declared.stop.Stop.{Stop}
use Rattle.ticketc_answers.specs.declared.stop.Stop.TheVariants.{Refused, TooLong, Memory, Thread}

pub if_told : (is_run : Bool) (P Q : Answer → Type 0) → ((a : Answer) → P a → Q a) → (stop : Stop) → IfTold is_run P stop → IfTold is_run Q stop
if_told is_run P Q more (Refused refusal) held = more (refused refusal) held
if_told is_run P Q more TooLong held = more too_long held
if_told is_run P Q more Memory held = tt
if_told is_run P Q more Thread held = held

pub tells : (is_run : Bool) (P Q : Answer → Type 0) → ((a : Answer) → P a → Q a) → (result : Result (String Global) Stop)
    → Tells is_run P result → Tells is_run Q result
tells is_run P Q more (Ok text) held = more (done (string_bytes text)) held
tells is_run P Q more (Err stop) held = if_told is_run P Q more stop held

pub err_told : {T : Type 0} (r : Result T Stop) (P Q : Answer → Type 0) → ((a : Answer) → P a → Q a)
    → IfErr r (IfTold false P) → IfErr r (IfTold false Q)
err_told (Ok t) P Q more held = tt
err_told (Err stop) P Q more held = if_told false P Q more stop held

-- no want of a thread keeps an input from being taken
for_run : (is_run : Bool) (P : Answer → Type 0) (stop : Stop) → IfTold false P stop → IfTold is_run P stop
for_run is_run P (Refused refusal) held = held
for_run is_run P TooLong held = held
for_run is_run P Memory held = tt
for_run is_run P Thread held = absurd (cc)

module _ {T : Type 0} (is_run : Bool) (taken : T → Type 0) (refuses : Answer → Type 0) (by : T → Answer → Type 0) where
  -- the input is refused
  pub stopped : (stop : Stop) → IfTold false refuses stop → IfTold is_run (Answered taken refuses by) stop
  stopped stop held = if_told is_run refuses (Answered taken refuses by) (λ a told. gives_up told) stop (for_run is_run refuses stop held)

  -- what the input is taken for is answered
  pub answered : (it : T) → taken it → (result : Result (String Global) Stop) → Tells is_run (by it) result
      → Tells is_run (Answered taken refuses by) result
  answered it is result held = tells is_run (by it) (Answered taken refuses by) (λ a told. takes it is told) result held
