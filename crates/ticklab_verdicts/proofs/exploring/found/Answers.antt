-- What is shown stands on what the first search tells, which is by steps of the kind that is asked for.
use Rattle.std.proofs.Common.{◌≡◌, ◌∙◌, ℕ, true, false, List, ap}
use Rattle.tick_source.specs.Source.{source}
use Rattle.searches_explore.specs.Lines.{is_fault, lines_of}
use Rattle.searches_states.specs.declared.verdict.Verdict.TheVariants.{Found, Nowhere, Limit}
use Rattle.ticklab_line.specs.declared.commands.Steps.{Steps}
use Rattle.ticklab_line.specs.declared.commands.Steps.TheVariants.{MergedFirst, Single, Merged}
use Rattle.ticklab_verdicts.specs.BySteps.{begins_merged}
use Rattle.ticklab_verdicts.specs.Hearing.{hearing}
use Rattle.ticklab_verdicts.specs.Sought.{IsLawful}
use Rattle.ticklab_verdicts.specs.prover.Searches.{IsSearchedBy}
use Rattle.ticklab_files.proofs.Responding.{then_ok}
use Rattle.ticklab_verdicts.proofs.Placed.{held_of, program_of, within_places}
use Rattle.ticklab_verdicts.proofs.Searched.{fault_by, found_as, limit_first, of_fault, safe_first, searched_is, told_by_steps}
use Rattle.ticklab_verdicts.proofs.Shortened.{both_first}
use Rattle.ticklab_verdicts.proofs.exploring.found.Given as given
use Rattle.ticklab_verdicts.proofs.exploring.found.Goals as goal
use Rattle.ticklab_verdicts.proofs.exploring.found.Goals.{In_ok-explored}

first_search : (g : given.Over) (c : In_ok-explored g) (steps : Steps) → c.args.steps ≡ steps
    → IsSearchedBy (begins_merged steps) (program_of c.args.task.now.search) (held_of c.args.task.now.search) c.args.task.now.limits
    (hearing g.W.Progress.begins g.W.Progress.finds g.W.Watch.hears) c.args.progress.now c.explore.new.watch c.in_ok-explored.explored
first_search g c steps is =
    told_by_steps g.W.Progress.begins g.W.Progress.finds g.W.Watch.hears _ _ _ (program_of c.args.task.now.search) c.as_slice-properties.result.now _
    c.as_slice-properties.ensures.value c.args.task.now.limits c.in_ok-explored.explored steps c.begins_merged-is_merged.result c.kind_of-kind.result
    (c.begins_merged-is_merged.ensures ∙ ap begins_merged is) c.kind_of-kind.ensures c.begin.ensures c.in_ok-explored.ensures

pub shown-requires-clause-schedule : goal.shown-requires-clause-schedule
shown-requires-clause-schedule g c = (first_search g (goal.at.shown-requires-clause-schedule g c).In_ok-explored Single c.in-Single.is).known.lawful

pub shown-requires-clause-line : goal.shown-requires-clause-line
shown-requires-clause-line g c =
    within_places c.args.task.now.search c.requires.sound c.in_ok-explored.explored
    (first_search g (goal.at.shown-requires-clause-line g c).In_ok-explored Single c.in-Single.is).known.within

pub returns-in-Single : goal.returns-in-Single
returns-in-Single g c =
    rw c.in-Single.is (then_ok c.shown.result (λ x shows. found_as c.args.task.now.search c.args.task.now.limits
    (hearing g.W.Progress.begins g.W.Progress.finds g.W.Watch.hears) _ _ false c.in_ok-explored.explored x
    (first_search g (goal.at.returns-in-Single g c).In_ok-explored Single c.in-Single.is) shows) c.shown.ensures)

pub shown-requires-in-Merged-clause-schedule : goal.shown-requires-in-Merged-clause-schedule
shown-requires-in-Merged-clause-schedule g c =
    (first_search g (goal.at.shown-requires-in-Merged-clause-schedule g c).In_ok-explored Merged c.in-Merged.is).known.lawful

pub shown-requires-in-Merged-clause-line : goal.shown-requires-in-Merged-clause-line
shown-requires-in-Merged-clause-line g c =
    within_places c.args.task.now.search c.requires.sound c.in_ok-explored.explored
    (first_search g (goal.at.shown-requires-in-Merged-clause-line g c).In_ok-explored Merged c.in-Merged.is).known.within

pub returns-in-Merged : goal.returns-in-Merged
returns-in-Merged g c =
    rw c.in-Merged.is (then_ok c.shown-in-Merged.result (λ x shows. found_as c.args.task.now.search c.args.task.now.limits
    (hearing g.W.Progress.begins g.W.Progress.finds g.W.Watch.hears) _ _ true c.in_ok-explored.explored x
    (first_search g (goal.at.returns-in-Merged g c).In_ok-explored Merged c.in-Merged.is) shows) c.shown-in-Merged.ensures)

pub shorter_found-requires-clause-lawful : goal.shorter_found-requires-clause-lawful
shorter_found-requires-clause-lawful g c =
    of_fault (IsLawful c.args.task.now.search) c.in_ok-explored.explored c.in-Found.states c.in-Found.found c.in-Found.is
    (first_search g (goal.at.shorter_found-requires-clause-lawful g c).In_ok-explored MergedFirst c.in-MergedFirst.is).known.lawful

pub shorter_found-requires-clause-fault : goal.shorter_found-requires-clause-fault
shorter_found-requires-clause-fault g c =
    let a = program_of c.args.task.now.search in
    let props = held_of c.args.task.now.search in
    of_fault (λ (schedule : List ℕ). is_fault (lines_of props) (source a schedule) ≡ true) c.in_ok-explored.explored c.in-Found.states c.in-Found.found c.in-Found.is
    (fault_by a props true c.args.task.now.limits c.in_ok-explored.explored
    (first_search g (goal.at.shorter_found-requires-clause-fault g c).In_ok-explored MergedFirst c.in-MergedFirst.is).known)

pub returns-in-Found : goal.returns-in-Found
returns-in-Found g c =
    let q = c.args.task.now.search in
    let H = hearing g.W.Progress.begins g.W.Progress.finds g.W.Watch.hears in
    rw c.in-MergedFirst.is (then_ok c.shorter_found.result (λ x told. both_first q c.args.task.now.limits H _ _ _ c.in-Found.states c.in-Found.found x
    (searched_is q c.args.task.now.limits H true _ _ _ (Found c.in-Found.states c.in-Found.found) c.in-Found.is
    (first_search g (goal.at.returns-in-Found g c).In_ok-explored MergedFirst c.in-MergedFirst.is)) told) c.shorter_found.ensures)

pub returns-in-Nowhere : goal.returns-in-Nowhere
returns-in-Nowhere g c =
    let q = c.args.task.now.search in
    let H = hearing g.W.Progress.begins g.W.Progress.finds g.W.Watch.hears in
    rw c.in-MergedFirst.is (then_ok c.safe_shown.result (λ x shows. safe_first q c.args.task.now.limits H _ _ c.in-Nowhere.states _ x
    (searched_is q c.args.task.now.limits H true _ _ _ (Nowhere c.in-Nowhere.states _) c.in-Nowhere.is
    (first_search g (goal.at.returns-in-Nowhere g c).In_ok-explored MergedFirst c.in-MergedFirst.is)) shows) c.safe_shown.ensures)

pub returns-in-Limit : goal.returns-in-Limit
returns-in-Limit g c =
    let q = c.args.task.now.search in
    let H = hearing g.W.Progress.begins g.W.Progress.finds g.W.Watch.hears in
    rw c.in-MergedFirst.is (then_ok c.limit_shown.result (λ x shows. limit_first q c.args.task.now.limits H _ _ c.in-Limit.states x
    (searched_is q c.args.task.now.limits H true _ _ _ (Limit c.in-Limit.states) c.in-Limit.is
    (first_search g (goal.at.returns-in-Limit g c).In_ok-explored MergedFirst c.in-MergedFirst.is)) shows) c.limit_shown.ensures)
