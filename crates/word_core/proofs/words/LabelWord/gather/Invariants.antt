use Rattle.std.proofs.Common.{◌≡◌, ◌-◌, ◌≤◌, ◌++◌, [], length, take, replicate}
use Rattle.word_core.specs.Stamps.{present}
use Rattle.word_core.proofs.words.LabelWord.gather.Given as goal

-- the labels of those so far that are present, and empty ones past them
abbrev pub invariant-loop-i : goal.invariant-loop-i
invariant-loop-i l = record {
  row : l.row ≡ present (take l.i l.self) ++ replicate (6 - l.count) [];
  count : l.count ≡ length (present (take l.i l.self));
  few : l.count ≤ l.i;
}
