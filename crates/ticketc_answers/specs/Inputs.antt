-- What a command takes its input for, and what it answers where the input is refused.
use Rattle.std.specs.Prelude.{◌≡◌, ℕ, List}
use Rattle.base.specs.Plain.{Name, WholeProgram}
use Rattle.ticketc_refusals.specs.Refusals.{IsNoText, IsProgramRefused, ProgramIn, TextIn}
use Rattle.ticketc_refusals.specs.declared.refusal.Refusal.{Refusal}
use Rattle.ticketc_answers.specs.Answer.{Answer, refused}

-- It is taken for what `by` answers, or it is answered as a refused one.
pub data Answered {T : Type 0} (taken : T → Type 0) (refuses : Answer → Type 0) (by : T → Answer → Type 0) (a : Answer) : Type 0 where
  takes : (it : T) → taken it → by it a → Answered taken refuses by a
  gives_up : refuses a → Answered taken refuses by a

-- the one answer to what is taken
abbrev pub Is : {T : Type 0} → (T → Answer) → T → Answer → Type 0
Is answer it a = a ≡ answer it

-- the answer tells a refusal that there is
abbrev pub Refuses : (Refusal → Type 0) → Answer → Type 0
Refuses has a = (refusal : Refusal) × has refusal × (a ≡ refused refusal)

-- for a text
abbrev pub OnText : (List ℕ → Answer → Type 0) → List ℕ → Answer → Type 0
OnText by input = Answered (TextIn input) (Refuses (IsNoText input)) by

-- for an accepted program
abbrev pub OnProgram : (WholeProgram Name → Answer → Type 0) → List ℕ → Answer → Type 0
OnProgram by input = Answered (ProgramIn input) (Refuses (IsProgramRefused input)) by
