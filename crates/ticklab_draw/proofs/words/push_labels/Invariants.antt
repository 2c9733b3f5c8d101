use Rattle.std.proofs.Common.{◌≡◌, ◌++◌, drop, map}
use Rattle.base.specs.Lines.{spaced}
use Rattle.ticklab_draw.specs.Words.{label_text}
use Rattle.ticklab_draw.proofs.words.push_labels.Given as goal

abbrev pub invariant-loop-process : goal.invariant-loop-process
invariant-loop-process l = l.out.items ++ spaced (map label_text (drop l.process l.word)) ≡ l.fn.out.items ++ spaced (map label_text l.word)
