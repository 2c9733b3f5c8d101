use Rattle.ticklab_draw.proofs.labels.FrameLemmas.{HasMade}
use Rattle.ticklab_draw.proofs.labels.run.frames.Given as goal

abbrev pub invariant-loop-made : goal.invariant-loop-made
invariant-loop-made l = HasMade l.n l.moves l.frames.items l.frame.labels l.made-index
