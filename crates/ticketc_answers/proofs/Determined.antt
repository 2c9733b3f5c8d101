-- Each command line but a run has one answer on each input, and all inputs that are too long have the same.
use Rattle.std.proofs.Common.{◌≡◌, ◌<◌, ◌∙◌, inl, inr, ℕ, false, List, length, Ok, Err, refl, subst, sym}
use Rattle.tick_syntax.specs.declared.fault.TextFault.TheVariants.{TextTooLong}
use Rattle.ticketc_refusals.specs.Refusals.{IsNoText, too_long, unread_code, unread_program}
use Rattle.ticketc_refusals.specs.declared.refusal.Refusal.TheVariants.{Text}
use Rattle.ticketc_refusals.proofs.Offered.{IsDecided, begins_or_not}
use Rattle.ticketc_line.specs.Asked.{Asked, PlainCommand, PlainRequest}
use Rattle.ticketc_line.specs.declared.command.Command.TheVariants.{Order, Check, Emit, Source, Code, Lift, Drop}
use Rattle.ticketc_line.specs.declared.command.Request.TheVariants.{Alone, Run}
use Rattle.ticketc_answers.specs.Answer.{Answer, refused}
use Rattle.ticketc_answers.specs.Codes.{IsNoCode, IsNotLowered, code_answer, emit_answer, no_code, no_program, not_lowered}
use Rattle.ticketc_answers.specs.Commands.{Answers, CommandAnswers, InputAnswers, asks_run, line_answer}
use Rattle.ticketc_answers.specs.Inputs.{Answered, Is, gives_up, takes}
use Rattle.ticketc_answers.specs.Maps.{carried_answer}
use Rattle.ticketc_answers.specs.Order.{order_answer}
use Rattle.ticketc_answers.specs.Programs.{check_answer, source_answer}
use Rattle.ticketc_answers.specs.declared.maps.Way.TheVariants.{Lift, Drop}
use Rattle.ticketc_answers.proofs.Decided.{codings, lowerings, programs, texts}

-- there is one, and no other
abbrev pub IsDetermined : (Answer → Type 0) → Type 0
IsDetermined allowed = ((a b : Answer) → allowed a → allowed b → a ≡ b) × ((a : Answer) × allowed a)

module _ {T : Type 0} (taken : T → Type 0) (refuses : Answer → Type 0) (is : IsDecided taken refuses) (answer : T → Answer) where
  abbrev Allowed : Answer → Type 0
  Allowed = Answered taken refuses (Is answer)

  one_answer : (a b : Answer) → Allowed a → Allowed b → a ≡ b
  one_answer a b (takes x h told) (takes y k same) =
      told ∙ subst (λ (z : T). answer x ≡ answer z) (is.one x y h k) refl ∙ sym same
  one_answer a b (takes x h told) (gives_up k) = absurd (is.never x b h k)
  one_answer a b (gives_up h) (takes y k same) = absurd (is.never y a k h)
  one_answer a b (gives_up h) (gives_up k) = is.one_refused a b h k

  some_answer : (a : Answer) × Allowed a
  some_answer = elim is.either [
    | inl found ↦ (answer found.0, takes found.0 found.1 refl)
    | inr found ↦ (found.0, gives_up found.1)
  ]

  determined : IsDetermined Allowed
  determined = (one_answer, some_answer)

by_command : (command : PlainCommand) (input : List ℕ) → IsDetermined (CommandAnswers command input)
by_command (Order n) input = determined _ _ (texts input) (order_answer n)
by_command Check input = determined _ _ (programs input) check_answer
by_command Emit input = determined _ _ (lowerings input) emit_answer
by_command (Source schedule) input = determined _ _ (programs input) (source_answer schedule)
by_command (Code schedule) input = determined _ _ (codings input) (code_answer schedule)
by_command (Lift schedule) input = determined _ _ (lowerings input) (carried_answer Lift schedule)
by_command (Drop schedule) input = determined _ _ (lowerings input) (carried_answer Drop schedule)

pub answers_determined : (asked : Asked) (input : List ℕ) → asks_run asked ≡ false → IsDetermined (Answers asked input)
answers_determined (Ok (Alone command)) input single = by_command command input
answers_determined (Ok (Run turns)) input single = absurd (cc)
answers_determined (Err fault) input single = (λ a b h k. h ∙ sym k, (line_answer fault, refl))

-- the answer to an input that is too long
abbrev long_answer : Answer
long_answer = refused (Text TextTooLong)

module _ (input : List ℕ) (long : 1000000 < length input) where
  no_text : IsNoText input (Text TextTooLong)
  no_text = too_long long refl

  not_lowered_long : IsNotLowered input long_answer
  not_lowered_long = no_program (Text TextTooLong, unread_program no_text, refl)

  no_code_long : IsNoCode input long_answer
  no_code_long = elim (begins_or_not input) [
    | inl begins ↦ no_code begins (Text TextTooLong, unread_code no_text, refl)
    | inr isnt ↦ not_lowered isnt not_lowered_long
  ]

-- where one input is refused as another is, it has its answers
as_other : {T : Type 0} (taken there : T → Type 0) (refuses refuses_there : Answer → Type 0) (by : T → Answer → Type 0) (told a : Answer)
    → IsDecided taken refuses → refuses told → refuses_there told → Answered taken refuses by a → Answered there refuses_there by a
as_other taken there refuses refuses_there by told a is h k (takes it t answers) = absurd (is.never it told t h)
as_other taken there refuses refuses_there by told a is h k (gives_up g) = gives_up (subst refuses_there (is.one_refused told a h g) k)

pub both_too_long : (request : PlainRequest) (read all : List ℕ) → 1000000 < length read → 1000000 < length all → (a : Answer)
    → InputAnswers request read a → InputAnswers request all a
both_too_long (Alone (Order n)) read all long longer a is =
    as_other _ _ _ _ _ long_answer a (texts read) (Text TextTooLong, no_text read long, refl) (Text TextTooLong, no_text all longer, refl) is
both_too_long (Alone Check) read all long longer a is =
    as_other _ _ _ _ _ long_answer a (programs read) (Text TextTooLong, unread_program (no_text read long), refl) (Text TextTooLong, unread_program (no_text all longer), refl) is
both_too_long (Alone Emit) read all long longer a is =
    as_other _ _ _ _ _ long_answer a (lowerings read) (not_lowered_long read long) (not_lowered_long all longer) is
both_too_long (Alone (Source schedule)) read all long longer a is =
    as_other _ _ _ _ _ long_answer a (programs read) (Text TextTooLong, unread_program (no_text read long), refl) (Text TextTooLong, unread_program (no_text all longer), refl) is
both_too_long (Alone (Code schedule)) read all long longer a is =
    as_other _ _ _ _ _ long_answer a (codings read) (no_code_long read long) (no_code_long all longer) is
both_too_long (Alone (Lift schedule)) read all long longer a is =
    as_other _ _ _ _ _ long_answer a (lowerings read) (not_lowered_long read long) (not_lowered_long all longer) is
both_too_long (Alone (Drop schedule)) read all long longer a is =
    as_other _ _ _ _ _ long_answer a (lowerings read) (not_lowered_long read long) (not_lowered_long all longer) is
both_too_long (Run turns) read all long longer a is =
    as_other _ _ _ _ _ long_answer a (codings read) (no_code_long read long) (no_code_long all longer) is
