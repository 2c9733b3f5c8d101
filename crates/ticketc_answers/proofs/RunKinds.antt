-- An answer to a run is of one kind or the other: an input that has a code isn't refused.
use Rattle.std.proofs.Common.{◌≡◌, ℕ, List, [], subst}
use Rattle.code_core.specs.Instructions.{StepCode}
use Rattle.ticketc_line.specs.declared.command.Command.TheVariants.{Code}
use Rattle.ticketc_line.specs.declared.command.Request.TheVariants.{Run}
use Rattle.ticketc_answers.specs.Answer.{Answer}
use Rattle.ticketc_answers.specs.Codes.{IsCodeOf}
use Rattle.ticketc_answers.specs.Commands.{CommandAnswers, InputAnswers}
use Rattle.ticketc_answers.specs.Inputs.{gives_up, takes}
use Rattle.ticketc_answers.specs.Laws.{RunOutcomeLaw, RunRefusalLaw}
use Rattle.ticketc_answers.specs.Runs.{IsOutcomeOf}
use Rattle.ticketc_answers.proofs.Decided.{never_code, one_code}
use Rattle.ticketc_answers.proofs.Reported.{no_code_status}

outcome_of : (turns : ℕ) (input : List ℕ) (c : StepCode) (a : Answer) → IsCodeOf input c → InputAnswers (Run turns) input a → IsOutcomeOf turns c a
outcome_of turns input c a is (takes d has run) = subst (λ (z : StepCode). IsOutcomeOf turns z a) (one_code input d c has is) run
outcome_of turns input c a is (gives_up h) = absurd (never_code input c a is h)

pub outcome_law : RunOutcomeLaw
outcome_law turns input c a is = (λ answers. outcome_of turns input c a is answers, λ run. takes c is run)

module _ (turns : ℕ) (input : List ℕ) (a : Answer) (none : (c : StepCode) → IsCodeOf input c → ⊥) where
  refusal_of : InputAnswers (Run turns) input a → CommandAnswers (Code []) input a × (a.status ≡ 1)
  refusal_of (takes c is run) = absurd (none c is)
  refusal_of (gives_up h) = (gives_up h, no_code_status input a h)

  run_refused : CommandAnswers (Code []) input a → InputAnswers (Run turns) input a
  run_refused (takes c is told) = absurd (none c is)
  run_refused (gives_up h) = gives_up h

pub refusal_law : RunRefusalLaw
refusal_law turns input a none = (λ runs. refusal_of turns input a none runs, λ refuses. run_refused turns input a none refuses.0)
