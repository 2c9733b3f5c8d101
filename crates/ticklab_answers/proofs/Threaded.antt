-- A run on threads ends as the program does under some schedule.
use Rattle.std.proofs.Common.{◌≡◌, ℕ, true, List, ap, sym, ◌∙◌, true≢false, Some}
use Rattle.std.specs.Prelude.{slice_get}
use Rattle.std.specs.List.{list_any}
use Rattle.std.proofs.lemmas.List.Folds.{list_any_at}
use Rattle.std.proofs.lemmas.Option.{slice_get_within, get_or_from_slice_get}
use Rattle.base.specs.declared.status.Status.{Status}
use Rattle.base.specs.declared.status.Status.TheVariants as S
use Rattle.tick_lower.specs.Lowered.{lowered, lowered_sizes}
use Rattle.tick_sim.specs.Maps.{dropped}
use Rattle.searches_explore.specs.Explored.{is_trap}
use Rattle.threads_source.proofs.Offered.{threaded_source_law}
use Rattle.ticklab_answers.specs.Laws.{ThreadsLaw}

-- where one has trapped, some process has
some_trapped : (statuses : List Status) (p : ℕ) (status : Status) → slice_get statuses p ≡ Some status → is_trap status ≡ true
    → list_any is_trap statuses ≡ true
some_trapped statuses p status there trapped =
    list_any_at is_trap statuses p status (slice_get_within statuses p status there)
    (ap is_trap (get_or_from_slice_get statuses p status status there) ∙ trapped)

pub threads_law : ThreadsLaw
threads_law a never turns outs o run p trap ends =
    let schedule = dropped (lowered_sizes a) (lowered a) run.schedule in
    let shown = threaded_source_law a turns outs o run in
    true≢false (sym (some_trapped _ p (S.Trapped trap) (shown.ends p _ ends) (λ i. true)) ∙ never schedule)
