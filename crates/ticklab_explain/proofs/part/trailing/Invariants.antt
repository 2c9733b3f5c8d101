use Rattle.std.proofs.Common.{◌≡◌, drop}
use Rattle.ticklab_explain.specs.Parts.{trailing}
use Rattle.ticklab_explain.proofs.part.trailing.Given as goal

abbrev pub invariant-loop-start : goal.invariant-loop-start
invariant-loop-start l =
    trailing l.text (drop l.start l.tokens) ≡ trailing l.text l.tokens
