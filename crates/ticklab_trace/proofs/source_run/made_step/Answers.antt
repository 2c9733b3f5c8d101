use Rattle.std.proofs.Common.{ap, ◌∙◌, length}
use Rattle.std.specs.Prelude.{slice_get, option_map}
use Rattle.ticklab_trace.specs.Shown.{shown}
use Rattle.ticklab_trace.proofs.Followed.{step_is}
use Rattle.ticklab_trace.proofs.source_run.made_step.Goals as goal

pub returns-clause-step : goal.returns-clause-step
returns-clause-step c =
    let s = c.args.machine.now in
    let after = c.step.new.self in
    λ body table at.
    step_is body c.args.links.now table c.args.number (length s.processes) c.args.p s after c.status.result c.link_at-link.result c.number_of-number.result
    c.act_after-act.result c.written-written.result c.scanned-scanned.result c.shown-tickets.result at c.status.ensures c.in_ok-step.ensures.ok c.link_at-link.ensures c.number_of-number.ensures
    (c.act_after-act.ensures ∙ λ i. option_map (λ e. e.act) (slice_get (c.events.ensures i) (length (c.events-told.ensures i))))
    c.written-written.ensures c.scanned-scanned.ensures (c.shown-tickets.ensures ∙ ap (shown c.act_after-act.result) c.tickets.ensures)
