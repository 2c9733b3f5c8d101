use Rattle.std.proofs.Common.{◌∙◌, ◌<◌, ℕ, false, List, ap, length, subst}
use Rattle.language_properties.specs.declared.property.Property.{Property}
use Rattle.language_properties.specs.Values.{Valued}
use Rattle.ticklab_verdicts.specs.Hearing.{hearing}
use Rattle.searches_explore.specs.Lines.{lines_of}
use Rattle.searches_explore.specs.Never.{IfBreaks, IfTraps}
use Rattle.searches_hunt.specs.Never.{IsMinimalBroken, IsMinimalTrapped}
use Rattle.searches_states.specs.declared.limits.Limits.{Limits}
use Rattle.searches_states.specs.declared.verdict.Verdict.TheVariants.{Found, Nowhere, Limit}
use Rattle.ticklab_verdicts.specs.BySteps.{break_line_by, line_by}
use Rattle.ticklab_verdicts.specs.Lines.{minimal_break_line_by, minimal_line_by}
use Rattle.ticklab_verdicts.specs.Shorter.{is_bounded, limits_within}
use Rattle.ticklab_verdicts.specs.Shown.{SaysFault}
use Rattle.ticklab_verdicts.specs.Sought.{IsLawful, sought_by}
use Rattle.ticklab_verdicts.specs.prover.Searches.{IsSearchedBy}
use Rattle.ticklab_files.proofs.Responding.{then_ok}
use Rattle.ticklab_verdicts.proofs.Placed.{held_of, program_of, within_places}
use Rattle.ticklab_verdicts.proofs.Searched.{minimal_within, of_line, searched_is, told_so}
use Rattle.ticklab_verdicts.proofs.Shortened.{minimal_as, shortest_as}
use Rattle.ticklab_verdicts.proofs.shorter.shorter_sought.Given as given
use Rattle.ticklab_verdicts.proofs.shorter.shorter_sought.Goals as goal
use Rattle.ticklab_verdicts.proofs.shorter.shorter_sought.Goals.{In_ok-explored}

single_search : (g : given.Over) (c : In_ok-explored g)
    → IsSearchedBy false (program_of c.args.task.now.search) (held_of c.args.task.now.search) (limits_within c.args.task.now.limits c.args.merged)
    (hearing g.W.Progress.begins g.W.Progress.finds g.W.Watch.hears) c.args.progress.now c.explore.new.watch c.in_ok-explored.explored
single_search g c =
    let q = c.args.task.now.search in
    subst (λ (l : Limits). IsSearchedBy false (program_of q) (held_of q) l (hearing g.W.Progress.begins g.W.Progress.finds g.W.Watch.hears)
    c.args.progress.now c.explore.new.watch c.in_ok-explored.explored) c.limits_within-within.ensures
    (told_so g.W.Progress.begins g.W.Progress.finds g.W.Watch.hears _ _ _ (program_of q) c.as_slice-properties.result.now _
    c.as_slice-properties.ensures.value c.limits_within-within.result c.in_ok-explored.explored false c.begin.ensures c.in_ok-explored.ensures)

pub fault_said-requires-clause-line : goal.fault_said-requires-clause-line
fault_said-requires-clause-line g c =
    let q = c.args.task.now.search in
    of_line (λ (schedule : List ℕ) (line : ℕ) (v : Valued). line < length q.lines.now.places.items) c.in_ok-explored.explored c.in-Found.states c.in-Found.fault c.in-Found.is
    (within_places q c.requires.sound c.in_ok-explored.explored (single_search g (goal.at.fault_said-requires-clause-line g c).In_ok-explored).known.within)

pub fault_said-requires-in-Limit-clause-line : goal.fault_said-requires-in-Limit-clause-line
fault_said-requires-in-Limit-clause-line g c =
    let q = c.args.task.now.search in
    let k = c.in_ok-minimal-in-Limit.minimal in
    subst (λ (count : ℕ). IfBreaks k (λ schedule line v. line < count)) c.requires.sound.as_many
    (minimal_within (program_of q) (held_of q) k
    (subst (λ (lines : List Property). IfBreaks k (IsMinimalBroken (program_of q) (lines_of lines))) c.as_slice-properties.ensures.value
    c.in_ok-minimal-in-Limit.ensures.broken))

pub returns-in-Found : goal.returns-in-Found
returns-in-Found g c =
    let q = c.args.task.now.search in
    let limits = c.args.task.now.limits in
    let H = hearing g.W.Progress.begins g.W.Progress.finds g.W.Watch.hears in
    let f = c.in-Found.fault in
    then_ok c.fault_said.result (λ x shows. shortest_as q limits H _ _ c.args.merged c.in-Found.states f x
    (searched_is q (limits_within limits c.args.merged) H false _ _ _ (Found c.in-Found.states f) c.in-Found.is (single_search g (goal.at.returns-in-Found g c).In_ok-explored))
    (subst (λ (trap : List ℕ). SaysFault trap (break_line_by false) (sought_by q) f x) c.trap_line.ensures
    (subst (λ (breaks : List ℕ). SaysFault c.trap_line.result.now breaks (sought_by q) f x) c.break_line.ensures shows))) c.fault_said.ensures

pub returns-in_ok-minimal-in-Limit : goal.returns-in_ok-minimal-in-Limit
returns-in_ok-minimal-in-Limit g c =
    let q = c.args.task.now.search in
    let limits = c.args.task.now.limits in
    let H = hearing g.W.Progress.begins g.W.Progress.finds g.W.Watch.hears in
    let value = c.as_slice-properties.ensures.value in
    let k = c.in_ok-minimal-in-Limit.minimal in
    let states = c.in-Limit.states in
    let bounded = c.is_bounded-bounded.ensures in
    then_ok c.fault_said-in-Limit.result (λ x shows. minimal_as q limits H _ _ c.args.merged states k x
    (searched_is q (limits_within limits c.args.merged) H false _ _ _ (Limit states) c.in-Limit.is
    (single_search g (goal.at.returns-in_ok-minimal-in-Limit g c).In_ok-explored))
    (subst (λ (lines : List Property). IfTraps k (IsMinimalTrapped (program_of q) (lines_of lines))) value c.in_ok-minimal-in-Limit.ensures.trapped)
    (subst (λ (lines : List Property). IfBreaks k (IsMinimalBroken (program_of q) (lines_of lines))) value c.in_ok-minimal-in-Limit.ensures.broken)
    (subst (λ (trap : List ℕ). SaysFault trap (minimal_break_line_by (is_bounded limits c.args.merged states)) (sought_by q) k x)
    (c.minimal_line-trap.ensures ∙ ap minimal_line_by bounded)
    (subst (λ (breaks : List ℕ). SaysFault c.minimal_line-trap.result.now breaks (sought_by q) k x)
    (c.minimal_break_line.ensures ∙ ap minimal_break_line_by bounded) shows))) c.fault_said-in-Limit.ensures
