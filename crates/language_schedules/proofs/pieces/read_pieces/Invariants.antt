use Rattle.language_schedules.proofs.ScheduleLemmas.{HasStepsTo}
use Rattle.language_schedules.proofs.pieces.read_pieces.Given as goal

abbrev pub invariant-loop-place : goal.invariant-loop-place
invariant-loop-place g l = HasStepsTo (g.S.Spelled.with l.n) l.bytes l.read.items l.start l.place
