use Rattle.std.proofs.Common.{map, option_map}
use Rattle.serde_json.specs.View.{view}
use Rattle.ticklab_trace.specs.Places.{told_standing}
use Rattle.ticklab_json.specs.Steps.{broken_line}
use Rattle.ticklab_json.proofs.Exact.{run_told}
use Rattle.ticklab_json.proofs.found.found_run.Goals as goal

pub one_line-requires : goal.one_line-requires
one_line-requires c =
    run_told c.args.head c.args.program.now (map told_standing c.args.spots.now) c.args.schedule.now c.args.steps.now
    (option_map broken_line c.args.broken) (map view c.in_ok-trace.trace.items) (view c.in_ok-value.value)
    c.in_ok-trace.ensures c.in_ok-value.ensures
