use Rattle.std.proofs.Common.{◌≡◌, ◌≤◌, drop}
use Rattle.ticklab_draw.specs.Pictures.{file_name, name_from}
use Rattle.ticklab_draw.proofs.page.file_name.Given as goal

abbrev pub invariant-loop-at : goal.invariant-loop-at
invariant-loop-at l = record {
  within : l.start ≤ l.at;
  same : name_from (drop l.start l.path) (drop l.at l.path) ≡ file_name l.path;
}
