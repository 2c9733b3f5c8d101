use Rattle.std.proofs.Common.{◌≡◌, ◌++◌, drop, string_bytes}
use Rattle.ticklab_explain.specs.Parts.{first_byte, spelled}
use Rattle.ticklab_explain.proofs.part.push_spelled.Given as goal

abbrev pub invariant-loop-token : goal.invariant-loop-token
invariant-loop-token l =
    string_bytes l.text ++ spelled l.bytes l.end (drop l.token-index l.tokens)
    ≡ string_bytes l.fn.text ++ spelled l.bytes (first_byte l.tokens) l.tokens
