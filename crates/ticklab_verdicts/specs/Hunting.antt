-- What `hunt` answers without `--threads`.
use Rattle.std.specs.Prelude.{◌≤◌, ℕ, Bool, true, false, is_some, List, length}
use Rattle.tick_kinds.specs.Resolution.{resolved}
use Rattle.language_properties.specs.Values.{Valued}
use Rattle.searches_hunt.specs.Draws.{random_schedule}
use Rattle.searches_hunt.specs.Hunts.{IsPartOf}
use Rattle.searches_hunt.specs.Never.{IsFirstFault, IsMinimalBroken, IsMinimalTrapped, NoRunFaults}
use Rattle.searches_hunt.specs.declared.plan.Mode.{Mode}
use Rattle.searches_hunt.specs.declared.plan.Mode.TheVariants.{Bursts, Uniform}
use Rattle.searches_hunt.specs.declared.plan.Plan.{Plan}
use Rattle.ticklab_files.specs.Asking.{AsksNever}
use Rattle.ticklab_files.specs.Asking.{IsUnexplored}
use Rattle.ticklab_files.specs.Reading.{AfterFile, ReadsOf, ReadsInputOf}
use Rattle.ticklab_files.specs.Responses.{Refuses}
use Rattle.ticklab_check.specs.Checking.{asked_for}
use Rattle.ticklab_verdicts.specs.Shown.{ShowsEmptyHunt, ShowsHuntBroken, ShowsHuntTrap}
use Rattle.ticklab_verdicts.specs.Sought.{sought_of}
use Rattle.ticklab_line.specs.declared.asking.Output.{Output}
use Rattle.ticklab_files.specs.declared.response.Response.{Response}

abbrev pub mode_of : Bool → Mode
mode_of false = Bursts
mode_of true = Uniform

abbrev pub plan_of : ℕ → ℕ → ℕ → Bool → Plan
plan_of seed runs steps is_uniform = record { seed = seed; runs = runs; steps = steps; mode = mode_of is_uniform }

-- The random schedules of a plan from a run on, with these texts of a command line for what must never hold. The schedule
-- that is shown is a part of the first one under which a process traps or a line breaks. Where there is none, the answer
-- says so of lines `#! ends` that name somebody: a hunt doesn't ask it. What isn't explored isn't hunted through, for the
-- same reason.
pub data IsHunted (name : List ℕ) (texts : List (List ℕ)) (plan : Plan) (from : ℕ) (output : Output) (input : List ℕ) (response : Response) : Type 0 where
  nothing : (asks : AsksNever texts input) → NoRunFaults (resolved asks.file.program) asks.lines plan from
      → ShowsEmptyHunt output (length asks.lines) plan from (is_some (asked_for asks.file.asked.ends)) response → IsHunted name texts plan from output input response
  trapped : (asks : AsksNever texts input) (run : ℕ) (schedule : List ℕ)
      → IsFirstFault (resolved asks.file.program) asks.lines plan from run
      → IsPartOf schedule (random_schedule plan (resolved asks.file.program).processes run) → length schedule ≤ plan.steps
      → IsMinimalTrapped (resolved asks.file.program) asks.lines schedule
      → ShowsHuntTrap plan from (sought_of name texts output input asks) schedule response → IsHunted name texts plan from output input response
  broken : (asks : AsksNever texts input) (run : ℕ) (schedule : List ℕ) (line : ℕ) (v : Valued)
      → IsFirstFault (resolved asks.file.program) asks.lines plan from run
      → IsPartOf schedule (random_schedule plan (resolved asks.file.program).processes run) → length schedule ≤ plan.steps
      → IsMinimalBroken (resolved asks.file.program) asks.lines schedule line v
      → ShowsHuntBroken plan from (sought_of name texts output input asks) schedule line v response
      → IsHunted name texts plan from output input response
  unhunted : Refuses 1 (IsUnexplored name texts input) response → IsHunted name texts plan from output input response

abbrev pub Hunts : {F : Type 0} → ReadsOf F → ReadsInputOf F → F → F → List ℕ → List (List ℕ) → Plan → ℕ → Output → Response → Type 0
Hunts Reads ReadsInput before after file never plan from output response =
    AfterFile Reads ReadsInput before after file (λ input. IsHunted file never plan from output input response)
