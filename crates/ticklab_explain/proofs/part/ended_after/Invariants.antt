use Rattle.std.proofs.Common.{◌≡◌, drop}
use Rattle.ticklab_explain.specs.Parts.{ended_after}
use Rattle.ticklab_explain.proofs.part.ended_after.Given as goal

abbrev pub invariant-loop-index : goal.invariant-loop-index
invariant-loop-index l =
    ended_after l.text l.index (drop l.index l.tokens) ≡ ended_after l.text 0 l.tokens
