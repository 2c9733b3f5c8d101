-- The tally of an input, and why there is none.
use Rattle.std.proofs.Common.{◌≡◌, ◌∙◌, ℕ, List, length, ap, subst}
use Rattle.base.specs.Observables.{RunObservables}
use Rattle.code_core.specs.Instructions.{StepCode}
use Rattle.searches_hunt.specs.Tallies.{AreCounted, AreRuns}
use Rattle.base.specs.Plain.{Name, WholeProgram}
use Rattle.searches_hunt.specs.declared.tallying.counting.Counted.{Counted}
use Rattle.ticklab_files.specs.Asking.{IsFileRefused, IsOf}
use Rattle.ticklab_files.specs.Codes.{HasCode, HasNoCode, program_code}
use Rattle.ticklab_verdicts.specs.Lines.{count_texts}
use Rattle.ticklab_files.specs.Stops.{IfRefused}
use Rattle.ticklab_verdicts.specs.Tallies.{IsTally, IsUncoded, RunsOf, no_code, no_file}
use Rattle.ticklab_files.specs.declared.stop.NoAnswer.{NoAnswer}
use Rattle.ticklab_files.proofs.Responding.{refused_as}

pub tally_by : {M : Type 0} (Ran : RunsOf M) (before after : M) (times turns : ℕ) (input : List ℕ) (a : WholeProgram Name)
    → IsOf input a → HasCode a → (code : StepCode) → code ≡ program_code a
    → (outcomes : List RunObservables) → length outcomes ≡ times → AreRuns (λ runner. Ran runner code turns 10000) before outcomes after
    → (counts : List Counted) → AreCounted outcomes counts
    → (out : List ℕ) → out ≡ count_texts times counts → IsTally Ran before after times turns input out
tally_by Ran before after times turns input a is has code made outcomes all runs counts counted out lines = record {
  is = is.0;
  has_code = subst HasCode is.1 has;
  outcomes = outcomes;
  all = all;
  runs = subst (λ c. AreRuns (λ runner. Ran runner c turns 10000) before outcomes after) (made ∙ ap program_code is.1) runs;
  counts = counts;
  counted = counted;
  lines = lines;
}

module _ {R : Type 0} (same : R) (name input : List ℕ) where
  pub file_uncoded : (stop : NoAnswer) → IfRefused stop (IsFileRefused name input)
      → IfRefused stop (λ report. IsUncoded name input report × R)
  file_uncoded stop = refused_as stop (λ report told. (no_file told, same))

  pub code_uncoded : (a : WholeProgram Name) → IsOf input a → (stop : NoAnswer) → IfRefused stop (HasNoCode name a)
      → IfRefused stop (λ report. IsUncoded name input report × R)
  code_uncoded a is stop = refused_as stop (λ report none. (no_code is.0 (subst (λ b. HasNoCode name b report) is.1 none), same))
