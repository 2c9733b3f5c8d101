use Rattle.std.proofs.Common.{◌≡◌, ◌+◌, drop}
use Rattle.ticklab_explain.specs.Settings.{index_from}
use Rattle.ticklab_explain.proofs.setting.index_from.Given as goal

abbrev pub invariant-loop-index : goal.invariant-loop-index
invariant-loop-index l = l.index + index_from l.start (drop l.index l.tokens) ≡ index_from l.start l.tokens
