use Rattle.std.proofs.Common.{◌≡◌, ◌-◌, ◌++◌, length, take, replicate}
use Rattle.word_core.specs.Stamps.{present}
use Rattle.word_core.specs.Order.{label_ranks}
use Rattle.word_core.proofs.words.LabelWord.ranks_from.Given as goal

-- the ranks so far, 0 past them, and how many of those so far are present
abbrev pub invariant-loop-i : goal.invariant-loop-i
invariant-loop-i l = record {
  ranks : l.ranks ≡ take l.i (label_ranks l.self) ++ replicate (6 - l.i) 0;
  place : l.place ≡ length (present (take l.i l.self));
}
