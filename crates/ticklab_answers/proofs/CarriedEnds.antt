-- The code can end where the program can, and is stuck where the program is.
use Rattle.std.proofs.Common.{◌≡◌, ◌∙◌, ◌&&◌, ◌++◌, ℕ, zero, suc, Bool, true, ap, if◌then◌else◌, refl, slice_index_or, sym}
use Rattle.base.specs.declared.status.Status.{Status}
use Rattle.base.specs.declared.status.Status.TheVariants as T
use Rattle.tick_source.specs.Source.{SourceState, source, statuses_of}
use Rattle.tick_sim.specs.Ends as S
use Rattle.tick_sim.proofs.Offered.{ends_law}
use Rattle.searches_states.specs.Ending.{has_ended, is_asked}
use Rattle.searches_states.specs.declared.must_stop.MustStop.{MustStop}
use Rattle.searches_explore.specs.Explored.{has_stopped, is_stop}
use Rattle.ticklab_answers.specs.Laws.{CodeEndsLaw}

stop_same : (status : Status) → is_stop status ≡ S.is_stop status
stop_same T.Running = refl
stop_same T.Ended = refl
stop_same (T.Trapped trap) = refl

-- both say that those who are asked for have stopped
ended_same : (asked : MustStop) (s : SourceState) (n : ℕ) → has_ended n has_stopped asked s ≡ S.have_stopped (is_asked asked) n (statuses_of s)
ended_same asked s zero = refl
ended_same asked s (suc n) =
    ap (λ (b : Bool). b && (if is_asked asked n then has_stopped n s else true)) (ended_same asked s n)
    ∙ ap (λ (b : Bool). S.have_stopped (is_asked asked) n (statuses_of s) && (if is_asked asked n then b else true)) (stop_same (slice_index_or (statuses_of s) n T.Ended))

pub code_ends_law : CodeEndsLaw
code_ends_law = record {
  always = λ a asked can.
      (ends_law.always a (is_asked asked)).0 (λ schedule.
      ((can schedule).0, (can schedule).1, sym (ended_same asked (source a (schedule ++ (can schedule).0)) a.processes) ∙ (can schedule).2));
  stuck = λ a asked schedule stuck.
      (ends_law.lifted a (is_asked asked) schedule).stuck.0 (λ more.
      sym (ended_same asked (source a (schedule ++ more)) a.processes) ∙ stuck more);
}
