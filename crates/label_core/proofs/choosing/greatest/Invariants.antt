use Rattle.std.proofs.Common.{drop}
use Rattle.label_core.proofs.Scanning.{Scanning}
use Rattle.label_core.proofs.choosing.greatest.Given as goal

-- the greatest is among the labels to come, or kept
abbrev pub invariant-loop-label : goal.invariant-loop-label
invariant-loop-label l = Scanning l.labels (drop l.label-index l.labels) l.top
