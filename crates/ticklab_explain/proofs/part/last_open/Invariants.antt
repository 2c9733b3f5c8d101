use Rattle.std.proofs.Common.{◌≡◌, [], drop}
use Rattle.ticklab_explain.specs.Parts.{last_open}
use Rattle.ticklab_explain.proofs.part.last_open.Given as goal

abbrev pub invariant-loop-start : goal.invariant-loop-start
invariant-loop-start l =
    last_open l.text l.found (drop l.start l.tokens) ≡ last_open l.text [] l.tokens
