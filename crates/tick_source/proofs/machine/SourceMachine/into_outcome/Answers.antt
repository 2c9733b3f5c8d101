use Rattle.std.proofs.Common.{◌≡◌, ap, ◌∙◌, sym, arith, map, take, length}
use Rattle.std.proofs.Math.Seq.{take-length}
use Rattle.tick_source.specs.Source.{observables, statuses_of}
use Rattle.tick_source.specs.prover.Machine.{state_of}
use Rattle.tick_source.proofs.StandsFor.{statuses_held}
use Rattle.tick_source.proofs.machine.SourceMachine.into_outcome.Goals as goal

pub returns : goal.returns
returns c =
    let m = c.self.inside in
    let qs = c.deref-process-items.result.now in
    let done : c.loop-process.process-index ≡ length qs = omega arith in
    let statuses : c.loop-process.statuses.items ≡ statuses_of (state_of m) =
    c.loop-process.invariant ∙ ap (λ k. map (λ q. q.status) (take k qs)) done
    ∙ ap (map (λ q. q.status)) (take-length qs ∙ c.deref-process-items.ensures.value)
    ∙ sym (statuses_held m.processes.items) in
    (λ i. record { events = m.shared.events.items; rows = c.into_rows.ensures i; statuses = statuses i })
    ∙ ap observables c.self.view_is
