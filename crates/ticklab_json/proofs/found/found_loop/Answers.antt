use Rattle.std.proofs.Common.{map}
use Rattle.serde_json.specs.View.{view}
use Rattle.ticklab_trace.specs.Places.{told_standing}
use Rattle.ticklab_json.proofs.Exact.{loop_told}
use Rattle.ticklab_json.proofs.found.found_loop.Goals as goal

pub one_line-requires : goal.one_line-requires
one_line-requires c =
    loop_told c.args.answer.now c.args.says.now c.args.program.now (map told_standing c.args.spots.now)
    c.args.looped.schedule.now c.args.looped.lead_in.now c.args.looped.cycle.now c.args.steps.now
    (map view c.in_ok-trace.trace.items) (view c.in_ok-value.value) c.in_ok-trace.ensures c.in_ok-value.ensures
