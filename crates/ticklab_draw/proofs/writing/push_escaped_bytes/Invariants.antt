use Rattle.std.proofs.Common.{◌≡◌, ◌++◌, drop}
use Rattle.std.specs.List.{flat_map}
use Rattle.ticklab_draw.specs.Escapes.{escaped_byte}
use Rattle.ticklab_draw.proofs.writing.push_escaped_bytes.Given as goal

abbrev pub invariant-loop-byte : goal.invariant-loop-byte
invariant-loop-byte l =
    l.out.items ++ flat_map escaped_byte (drop l.byte-index l.bytes) ≡ l.fn.out.items ++ flat_map escaped_byte l.bytes
