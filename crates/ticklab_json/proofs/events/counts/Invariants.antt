use Rattle.std.proofs.Common.{◌≡◌, ◌++◌, drop, map}
use Rattle.serde_json.specs.View.{view}
use Rattle.ticklab_json.specs.Members.{count}
use Rattle.ticklab_json.proofs.events.counts.Given as goal

abbrev pub invariant-loop-number : goal.invariant-loop-number
invariant-loop-number l = map view l.values.items ++ map count (drop l.number-index l.told) ≡ map count l.told
