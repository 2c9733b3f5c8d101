use Rattle.std.proofs.Common.{◌≡◌, ◌++◌, drop}
use Rattle.std.specs.List.{flat_map}
use Rattle.ticklab_explain.specs.Pictures.{shown_byte}
use Rattle.ticklab_explain.proofs.picture.push_plain.Given as goal

abbrev pub invariant-loop-byte : goal.invariant-loop-byte
invariant-loop-byte l =
    l.out.items ++ flat_map shown_byte (drop l.byte-index l.bytes) ≡ l.fn.out.items ++ flat_map shown_byte l.bytes
