-- What the answer of a hunt says, from what was found and what the answer shows of it.
use Rattle.std.proofs.Common.{◌≡◌, ◌≤◌, ◌<◌, ℕ, List, length, Option, Some, None, IfSome, IfNone, subst, is_some}
use Rattle.std.specs.List.{All}
use Rattle.base.specs.Plain.{WholeProgram}
use Rattle.tick_kinds.specs.Resolution.{resolved}
use Rattle.language_properties.specs.declared.property.Property.{Property}
use Rattle.searches_explore.specs.Lines.{lines_of}
use Rattle.searches_hunt.specs.Draws.{random_schedule}
use Rattle.searches_hunt.specs.Hunts.{IsPartOf}
use Rattle.searches_explore.specs.Never.{IfBreaks, IfTraps, schedule_of}
use Rattle.searches_explore.specs.declared.fault.Fault.{Fault}
use Rattle.searches_explore.specs.declared.fault.Fault.TheVariants.{Trapped, Broken}
use Rattle.searches_hunt.specs.Never.{IsFirstFault, IsMinimalBroken, IsMinimalTrapped, NoRunFaults}
use Rattle.searches_hunt.specs.declared.plan.Plan.{Plan}
use Rattle.ticklab_files.specs.Asking.{AsksNever, TextPlace, places_by}
use Rattle.ticklab_check.specs.Checking.{asked_for}
use Rattle.ticklab_verdicts.specs.Hunting.{IsHunted, broken, nothing, trapped}
use Rattle.ticklab_verdicts.specs.Shown.{ShowsEmptyHunt, ShowsHunt, ShowsHuntBroken}
use Rattle.ticklab_line.specs.declared.asking.Output.{Output}
use Rattle.ticklab_verdicts.specs.Sought.{sought_of}
use Rattle.ticklab_files.specs.declared.response.Response.{Response}
use Rattle.ticklab_verdicts.proofs.Within.{line_within}
use Rattle.ticklab_verdicts.proofs.Placed.{placed}

-- with what must never hold of the program of an input
pub hunted_by : (name : List ℕ) (texts : List (List ℕ)) (output : Output) (plan : Plan) (from : ℕ) (input : List ℕ) (asks : AsksNever texts input) (places : List TextPlace)
    → places ≡ places_by name input asks.file.asked texts → length places ≡ length asks.lines → (h : Option (ℕ × Fault)) (x : Response)
    → IfSome h (λ f. IsFirstFault (resolved asks.file.program) asks.lines plan from f.0)
    → IfSome h (λ f. IfTraps f.1 (IsMinimalTrapped (resolved asks.file.program) asks.lines))
    → IfSome h (λ f. IfBreaks f.1 (IsMinimalBroken (resolved asks.file.program) asks.lines))
    → IfSome h (λ f. IsPartOf (schedule_of f.1).items (random_schedule plan (resolved asks.file.program).processes f.0))
    → IfSome h (λ f. length (schedule_of f.1).items ≤ plan.steps)
    → IfNone h (NoRunFaults (resolved asks.file.program) asks.lines plan from)
    → ShowsHunt (placed (sought_of name texts output input asks) places) plan from (is_some (asked_for asks.file.asked.ends)) h x → IsHunted name texts plan from output input x
hunted_by name texts output plan from input asks places same many (Some (run, Trapped s)) x first traps breaks part short none shows =
    trapped asks run s.items first part short traps shows
hunted_by name texts output plan from input asks places same many (Some (run, Broken s line v)) x first traps breaks part short none shows =
    broken asks run s.items line v first part short breaks
    (subst (λ (at : List TextPlace). ShowsHuntBroken plan from (placed (sought_of name texts output input asks) at) s.items line v x) same shows)
hunted_by name texts output plan from input asks places same many None x first traps breaks part short none shows =
    nothing asks none (subst (λ (n : ℕ). ShowsEmptyHunt output n plan from (is_some (asked_for asks.file.asked.ends)) x) many shows)

-- what a schedule and a line that are found are at least
module _ (a : WholeProgram ℕ) (lines : List Property) where
  pub hunted_lawful : (h : Option (ℕ × Fault)) → IfSome h (λ f. IfTraps f.1 (IsMinimalTrapped a (lines_of lines)))
      → IfSome h (λ f. IfBreaks f.1 (IsMinimalBroken a (lines_of lines))) → IfSome h (λ f. All (λ p. p < a.processes) (schedule_of f.1).items)
  hunted_lawful (Some (run, Trapped schedule)) traps breaks = traps.lawful
  hunted_lawful (Some (run, Broken schedule line v)) traps breaks = breaks.broken.lawful
  hunted_lawful None traps breaks = tt

  pub hunted_within : (h : Option (ℕ × Fault)) → IfSome h (λ f. IfBreaks f.1 (IsMinimalBroken a (lines_of lines)))
      → IfSome h (λ f. IfBreaks f.1 (λ schedule line v. line < length lines))
  hunted_within (Some (run, Trapped schedule)) breaks = tt
  hunted_within (Some (run, Broken schedule line v)) breaks = line_within a lines _ line v breaks.broken.first
  hunted_within None breaks = tt
