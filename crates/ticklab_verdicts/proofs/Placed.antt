-- The parts of a program that is searched, and the same program with other places.
use Rattle.std.proofs.Common.{◌<◌, ℕ, List, length, subst}
use Rattle.base.specs.Plain.{WholeProgram}
use Rattle.language_properties.specs.declared.property.Property.{Property}
use Rattle.tick_kinds.specs.Resolution.{resolved}
use Rattle.searches_explore.specs.Never.{IfBroken}
use Rattle.searches_states.specs.declared.verdict.Verdict.{Verdict}
use Rattle.searches_explore.specs.declared.fault.Fault.{Fault}
use Rattle.ticklab_files.specs.Asking.{TextPlace}
use Rattle.ticklab_verdicts.specs.Sought.{IsSound, Sought}
use Rattle.ticklab_verdicts.specs.declared.search.Search.{Search}

abbrev pub program_of : Search → WholeProgram ℕ
program_of q = resolved q.spelled.now.program

abbrev pub held_of : Search → List Property
held_of q = q.lines.now.properties.items

abbrev pub placed : Sought → List TextPlace → Sought
placed s places = record { input = s.input; program = s.program; lines = s.lines; places = places; output = s.output }

-- a line that breaks has its place
pub within_places : {E : Type 0} (q : Search) → IsSound q → (e : Verdict Fault E) → IfBroken e (λ schedule line v. line < length (held_of q))
    → IfBroken e (λ schedule line v. line < length q.lines.now.places.items)
within_places q sound e within = subst (λ (count : ℕ). IfBroken e (λ schedule line v. line < count)) sound.as_many within
