use Rattle.std.proofs.Common.{◌≡◌, ◌++◌, drop, map}
use Rattle.serde_json.specs.View.{view}
use Rattle.ticklab_json.specs.Checks.{file_list}
use Rattle.ticklab_json.proofs.checks.file_values.Given as goal

abbrev pub invariant-loop-place : goal.invariant-loop-place
invariant-loop-place l =
    map view l.values.items ++ file_list (drop l.place l.sources) (drop l.place l.files) ≡ file_list l.sources l.files
