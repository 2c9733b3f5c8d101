use Rattle.std.proofs.Common.{◌≡◌, ◌++◌, drop, string_bytes, true, false}
use Rattle.ticklab_explain.specs.Hints.{declared_in}
use Rattle.ticklab_explain.proofs.declared.push_declared.Given as goal

abbrev pub invariant-loop-token : goal.invariant-loop-token
invariant-loop-token l =
    string_bytes l.text ++ declared_in l.bytes l.is_first l.is_next (drop l.token-index l.tokens)
    ≡ string_bytes l.fn.text ++ declared_in l.bytes true false l.tokens
