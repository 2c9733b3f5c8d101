use Rattle.ticklab_draw.proofs.labels.FrameLemmas.{frames_law}
use Rattle.ticklab_draw.proofs.laws.law_frames.Goals as goal

pub returns : goal.returns
returns c = frames_law
