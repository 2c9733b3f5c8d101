-- What a program and its code have in common under every schedule.
use Rattle.std.specs.Prelude.{◌≡◌, ℕ, ◌*◌, ◌≤◌, List, [], ◌∷◌, length, slice_get, Option, Some, None}
use Rattle.base.specs.declared.status.Status.{Status}
use Rattle.base.specs.declared.status.Status.TheVariants.{Running}
use Rattle.base.specs.Observables.{Observables}
use Rattle.base.specs.Plain.{WholeProgram}
use Rattle.tick_source.specs.Source as S
use Rattle.tick_source.specs.Source.{SourceProcess, SourceState}
use Rattle.code_machine.specs.Machine as C
use Rattle.tick_lower.specs.Lowered.{lowered, lowered_sizes}
use Rattle.tick_sim.specs.Maps.{dropped, lifted}

-- what others see of a program under a schedule
abbrev pub seen : WholeProgram ℕ → List ℕ → Observables
seen a schedule = S.observables (S.source a schedule)

-- what others see of its code under a schedule
abbrev pub seen_of_code : WholeProgram ℕ → List ℕ → Observables
seen_of_code a schedule = C.observables (C.run_of (lowered_sizes a) (lowered a) schedule)

-- Under every schedule the code shows what the program shows under the one that it stands for.
abbrev pub DropLaw : Type 0
DropLaw = (a : WholeProgram ℕ) (schedule : List ℕ) → seen_of_code a schedule ≡ seen a (dropped (lowered_sizes a) (lowered a) schedule)

-- Whatever a program shows under a schedule, its code shows under the schedule that leads through it.
abbrev pub LiftLaw : Type 0
LiftLaw = (a : WholeProgram ℕ) (schedule : List ℕ) → seen a schedule ≡ seen_of_code a (lifted (lowered_sizes a) (lowered a) schedule)

abbrev pub kept_as : ℕ → Status → List ℕ → List ℕ
kept_as p Running later = p ∷ later
kept_as p _ later = later

abbrev pub kept_of : ℕ → Option SourceProcess → List ℕ → List ℕ
kept_of p (Some q) later = kept_as p q.status later
kept_of p None later = later

-- the schedule without the items at which the process had stopped, where the program goes on from
-- this state
abbrev pub running_from : ℕ → List ℕ → SourceState → List ℕ
running_from n [] s = []
running_from n (p ∷ schedule) s = kept_of p (slice_get s.processes p) (running_from n schedule (S.source_step n p s))

abbrev pub running : WholeProgram ℕ → List ℕ → List ℕ
running a schedule = running_from a.processes schedule (S.source_start a)

-- A schedule of the program that leads through its code stands for itself, without the items at which
-- the process had stopped; and it is not longer than so many times the code.
pub record IsRound (a : WholeProgram ℕ) (schedule : List ℕ) : Type 0 where
  pub back : dropped (lowered_sizes a) (lowered a) (lifted (lowered_sizes a) (lowered a) schedule) ≡ running a schedule
  pub few : length (lifted (lowered_sizes a) (lowered a) schedule) ≤ length schedule * length (lowered a)

abbrev pub RoundLaw : Type 0
RoundLaw = (a : WholeProgram ℕ) (schedule : List ℕ) → IsRound a schedule
