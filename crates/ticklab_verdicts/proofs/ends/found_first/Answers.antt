use Rattle.std.proofs.Common.{◌≡◌, ℕ, true, List}
use Rattle.ticklab_verdicts.specs.Hearing.{hearing}
use Rattle.tick_source.specs.Source.{source}
use Rattle.searches_explore.specs.Lines.{is_fault, lines_of}
use Rattle.searches_states.specs.declared.verdict.Verdict.TheVariants.{Found, Nowhere, Limit}
use Rattle.ticklab_verdicts.specs.Sought.{IsLawful}
use Rattle.ticklab_files.proofs.Responding.{then_ok}
use Rattle.ticklab_verdicts.proofs.EndsSearched.{ends_searched_is, fault_first, quiet_first, showable, unknown_first}
use Rattle.ticklab_verdicts.proofs.Placed.{held_of, program_of}
use Rattle.ticklab_verdicts.proofs.Searched.{fault_by, of_fault}
use Rattle.ticklab_verdicts.proofs.ends.found_first.Goals as goal

pub shorter_found-requires-clause-lawful : goal.shorter_found-requires-clause-lawful
shorter_found-requires-clause-lawful g c =
    of_fault (IsLawful c.args.task.now.search) c.in_ok-explored.explored c.in-Found.states c.in-Found.found c.in-Found.is c.in_ok-explored.ensures.searched.known.lawful

pub shorter_found-requires-clause-fault : goal.shorter_found-requires-clause-fault
shorter_found-requires-clause-fault g c =
    let a = program_of c.args.task.now.search in
    let props = held_of c.args.task.now.search in
    let e = c.in_ok-explored.explored in
    of_fault (λ (schedule : List ℕ). is_fault (lines_of props) (source a schedule) ≡ true) e c.in-Found.states c.in-Found.found c.in-Found.is
    (fault_by a props true c.args.task.now.limits e c.in_ok-explored.ensures.searched.known)

pub returns-in-Found : goal.returns-in-Found
returns-in-Found g c =
    let q = c.args.task.now.search in
    let H = hearing g.W.Progress.begins g.W.Progress.finds g.W.Watch.hears in
    then_ok c.shorter_found.result (λ x told. fault_first q c.args.task.now.limits c.args.asked H _ _ _ c.in-Found.states c.in-Found.found x
    (ends_searched_is q c.args.task.now.limits c.args.asked H _ _ true _ (Found c.in-Found.states c.in-Found.found) c.in-Found.is c.in_ok-explored.ensures) told)
    c.shorter_found.ensures

pub known_shown-requires-clause-shown : goal.known_shown-requires-clause-shown
known_shown-requires-clause-shown g c =
    let q = c.args.task.now.search in
    let H = hearing g.W.Progress.begins g.W.Progress.finds g.W.Watch.hears in
    showable q c.args.asked true c.in-Nowhere.known
    (ends_searched_is q c.args.task.now.limits c.args.asked H _ _ true _ (Nowhere c.in-Nowhere.states c.in-Nowhere.known) c.in-Nowhere.is
    c.in_ok-explored.ensures).known

pub returns-in-Nowhere : goal.returns-in-Nowhere
returns-in-Nowhere g c =
    let q = c.args.task.now.search in
    let H = hearing g.W.Progress.begins g.W.Progress.finds g.W.Watch.hears in
    then_ok c.known_shown.result (λ x shows. quiet_first q c.args.task.now.limits c.args.asked H _ _ c.in-Nowhere.states c.in-Nowhere.known x
    (ends_searched_is q c.args.task.now.limits c.args.asked H _ _ true _ (Nowhere c.in-Nowhere.states c.in-Nowhere.known) c.in-Nowhere.is
    c.in_ok-explored.ensures) shows) c.known_shown.ensures

pub returns-in-Limit : goal.returns-in-Limit
returns-in-Limit g c =
    let q = c.args.task.now.search in
    let H = hearing g.W.Progress.begins g.W.Progress.finds g.W.Watch.hears in
    then_ok c.limit_shown.result (λ x shows. unknown_first q c.args.task.now.limits c.args.asked H _ _ c.in-Limit.states x
    (ends_searched_is q c.args.task.now.limits c.args.asked H _ _ true _ (Limit c.in-Limit.states) c.in-Limit.is c.in_ok-explored.ensures) shows)
    c.limit_shown.ensures
