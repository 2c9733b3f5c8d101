use Rattle.std.proofs.Common.{◌≡◌, drop, map, string_bytes, false}
use Rattle.ticklab_line.specs.Slips.{lacks_behind}
use Rattle.ticklab_line.proofs.slips.lacks_number.Given as goal

abbrev pub invariant-loop-word : goal.invariant-loop-word
invariant-loop-word l =
    lacks_behind l.is_behind l.name (map string_bytes (drop l.word-index l.words)) ≡ lacks_behind false l.name (map string_bytes l.words)
