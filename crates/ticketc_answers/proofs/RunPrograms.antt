-- What a run on threads is answered on a program is an outcome of the program.
use Rattle.std.proofs.Common.{◌≡◌, ◌∙◌, ℕ, List, ap, subst}
use Rattle.base.specs.Plain.{Name, WholeProgram}
use Rattle.code_core.specs.Instructions.{StepCode}
use Rattle.threads_source.proofs.Offered.{threaded_source_law}
use Rattle.tick_kinds.specs.Resolution.{resolved}
use Rattle.tick_syntax.specs.RoundTrip.{IsTextOf}
use Rattle.tick_syntax.proofs.Offered.{one_program}
use Rattle.ticketc_refusals.proofs.Offered.{program_begins_otherwise}
use Rattle.ticketc_answers.specs.Answer.{Answer}
use Rattle.ticketc_answers.specs.Codes.{IsLowered, code_of, is_code, is_lowered}
use Rattle.ticketc_answers.specs.Inputs.{gives_up, takes}
use Rattle.ticketc_answers.specs.Laws.{RunProgramLaw}
use Rattle.ticketc_answers.specs.Runs.{IsOutcomeOf, IsProgramOutcome}
use Rattle.ticketc_answers.proofs.Reported.{no_code_status, not_both}

module _ (turns : ℕ) (input : List ℕ) (p : WholeProgram Name) (is : IsTextOf input p) where
  of_code : (a : Answer) → IsOutcomeOf turns (code_of p) a → IsProgramOutcome p turns a
  of_code a run = record {
    outcome = run.outcome;
    is_run = run.is_run;
    shows = threaded_source_law (resolved p) turns 10000 run.outcome run.is_run;
    told = run.told;
  }

  -- the input is a text of no other program
  of_lowered : (c : StepCode) (a : Answer) → IsLowered input c → IsOutcomeOf turns c a → IsProgramOutcome p turns a
  of_lowered c a low run =
      let same : c ≡ code_of p = low.code ∙ ap code_of (one_program input low.program.program p low.program.is_text is) in
      of_code a (subst (λ (z : StepCode). IsOutcomeOf turns z a) same run)

pub program_law : RunProgramLaw
program_law turns input p a is (takes c (is_code begins code) run) zero = absurd (program_begins_otherwise input p is begins)
program_law turns input p a is (takes c (is_lowered isnt low) run) zero = of_lowered turns input p is c a low run
program_law turns input p a is (gives_up h) zero = absurd (not_both a (no_code_status input a h) zero)
