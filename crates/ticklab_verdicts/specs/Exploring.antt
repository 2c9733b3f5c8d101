-- What `explore` answers, and what a watch hears on the way.
use Rattle.std.specs.Prelude.{◌≡◌, ℕ, List, [], None, Some}
use Rattle.searches_states.specs.declared.limits.Limits.{Limits}
use Rattle.ticklab_line.specs.declared.commands.Steps.{Steps}
use Rattle.ticklab_files.specs.Asking.{AsksNever, IsUnexplored}
use Rattle.searches_explore.specs.declared.conditions.Conditions.{Conditions}
use Rattle.ticklab_check.specs.Checking.{asked_for}
use Rattle.ticklab_verdicts.specs.Ends.{IsEndsFound}
use Rattle.ticklab_verdicts.specs.Found.{IsFound}
use Rattle.ticklab_verdicts.specs.Hearing.{Heard, HearsOf, IsHeard}
use Rattle.ticklab_files.specs.Reading.{AfterFile, ReadsOf, ReadsInputOf}
use Rattle.ticklab_files.specs.Responses.{Refuses}
use Rattle.ticklab_verdicts.specs.Sought.{sought_of}
use Rattle.ticklab_line.specs.declared.asking.Output.{Output}
use Rattle.ticklab_files.specs.declared.response.Response.{Response}

-- The answer on an input, with these texts of a command line for what must never hold, and what a watch hears on the
-- way: nothing of an input that is refused. Where the lines `#! ends` of the file name somebody, ends are asked too.
pub data IsExplored (steps : Steps) (name : List ℕ) (texts : List (List ℕ)) (limits : Limits) (output : Output) (input : List ℕ) (response : Response) (heard : List Heard) : Type 0 where
  explored : (asks : AsksNever texts input) → asked_for asks.file.asked.ends ≡ None
      → IsFound (sought_of name texts output input asks) limits steps response heard
      → IsExplored steps name texts limits output input response heard
  ends_too : (asks : AsksNever texts input) (asked : Conditions) → asked_for asks.file.asked.ends ≡ Some asked
      → IsEndsFound (sought_of name texts output input asks) limits asked steps response heard
      → IsExplored steps name texts limits output input response heard
  unexplored : Refuses 1 (IsUnexplored name texts input) response → heard ≡ [] → IsExplored steps name texts limits output input response heard

-- the file is read, and the watch hears of the searches
abbrev pub Explores : {F W : Type 0} → ReadsOf F → ReadsInputOf F → HearsOf W → F → F → W → W → List ℕ → List (List ℕ) → Limits → Steps → Output → Response → Type 0
Explores Reads ReadsInput hears before after quiet heard file never limits steps output response =
    AfterFile Reads ReadsInput before after file (λ input. IsHeard hears quiet heard (IsExplored steps file never limits output input response))
