use Rattle.std.proofs.Common.{◌≡◌, ◌-◌, ◌*◌, ◌^◌, ◌++◌, length, take, drop}
use Rattle.label_core.specs.Labels.{choice, label_number}
use Rattle.label_core.proofs.Reaching.{reach}
use Rattle.label_core.proofs.choosing.choice.Given as goal

-- the digits so far are the choice's, and the rest is the choice beside those that share them
abbrev pub invariant-loop-at : goal.invariant-loop-at
invariant-loop-at l = record {
  chosen : choice l.top l.labels ≡ take l.at l.top ++ choice (drop l.at l.top) (reach (take l.at l.top) l.labels);
  before : l.before ≡ label_number (take l.at l.top) * 3 ^ (length l.top - l.at);
}
