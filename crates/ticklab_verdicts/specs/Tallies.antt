-- What `hunt --threads` answers: how often each outcome of a program's code came on threads.
use Rattle.std.specs.Prelude.{◌≡◌, ℕ, List, length}
use Rattle.base.specs.Observables.{RunObservables}
use Rattle.code_core.specs.Instructions.{StepCode}
use Rattle.searches_hunt.specs.Tallies.{AreCounted, AreRuns}
use Rattle.searches_hunt.specs.declared.tallying.counting.Counted.{Counted}
use Rattle.ticklab_files.specs.Asking.{IsFileRefused, IsProgramFile}
use Rattle.ticklab_files.specs.Codes.{HasCode, HasNoCode, program_code}
use Rattle.ticklab_verdicts.specs.Lines.{count_texts}
use Rattle.ticklab_files.specs.Reading.{AfterFile, ReadsOf, ReadsInputOf}
use Rattle.ticklab_files.specs.Responses.{Gives, Refuses}
use Rattle.ticklab_files.specs.declared.response.Response.{Response}

-- the runs that a runner may make, as its trait has them
abbrev pub RunsOf : Type 0 → Type 1
RunsOf M = M → StepCode → ℕ → ℕ → RunObservables → M → Type 0

-- Outcomes of so many runs of the program's code, one after the other, in which each process makes at most
-- `turns` instructions and gives out at most 10,000 values: how often each came. The runner is `before` the
-- first of them and `after` the last.
pub record IsTally {M : Type 0} (Ran : RunsOf M) (before after : M) (times turns : ℕ) (input out : List ℕ) : Type 0 where
  pub is : IsProgramFile input
  pub has_code : HasCode is.program
  pub outcomes : List RunObservables
  pub all : length outcomes ≡ times
  pub runs : AreRuns (λ runner. Ran runner (program_code is.program) turns 10000) before outcomes after
  pub counts : List Counted
  pub counted : AreCounted outcomes counts
  pub lines : out ≡ count_texts times counts

-- The report of an input without a code: it is refused, or its code would be too long.
pub data IsUncoded (name input report : List ℕ) : Type 0 where
  no_file : IsFileRefused name input report → IsUncoded name input report
  no_code : (is : IsProgramFile input) → HasNoCode name is.program report → IsUncoded name input report

-- An input without a code is never run.
pub data IsTallied {M : Type 0} (Ran : RunsOf M) (before after : M) (name : List ℕ) (times turns : ℕ) (input : List ℕ) (response : Response) : Type 0 where
  tallied : Gives 0 (IsTally Ran before after times turns input) response → IsTallied Ran before after name times turns input response
  untallied : Refuses 1 (IsUncoded name input) response → after ≡ before → IsTallied Ran before after name times turns input response

-- the file is read, and the runs are those of the runner, which is `rested` before them and `ran` after them
abbrev pub Tallies : {F M : Type 0} → ReadsOf F → ReadsInputOf F → RunsOf M → F → F → M → M → List ℕ → ℕ → ℕ → Response → Type 0
Tallies Reads ReadsInput Ran before after rested ran file times turns response =
    AfterFile Reads ReadsInput before after file (λ input. IsTallied Ran rested ran file times turns input response)
