use Rattle.std.proofs.Common.{◌≡◌, drop}
use Rattle.ticklab_explain.specs.Hints.{first_written}
use Rattle.ticklab_explain.proofs.scene.first_written.Given as goal

abbrev pub invariant-loop-token : goal.invariant-loop-token
invariant-loop-token l = first_written l.text l.name (drop l.token-index l.tokens) ≡ first_written l.text l.name l.tokens
