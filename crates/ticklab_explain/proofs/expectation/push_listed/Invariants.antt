use Rattle.std.proofs.Common.{◌≡◌, ◌++◌, drop, length, string_bytes}
use Rattle.ticklab_explain.specs.Following.{listed}
use Rattle.ticklab_explain.proofs.expectation.push_listed.Given as goal

abbrev pub invariant-loop-index : goal.invariant-loop-index
invariant-loop-index l =
    string_bytes l.text ++ listed l.index (length l.wanted) (drop l.index l.wanted)
    ≡ string_bytes l.fn.text ++ listed 0 (length l.wanted) l.wanted
