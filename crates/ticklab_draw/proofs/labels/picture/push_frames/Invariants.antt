use Rattle.std.proofs.Common.{◌≡◌, ◌++◌, drop}
use Rattle.ticklab_draw.specs.labels.Pictures.{frames_text}
use Rattle.ticklab_draw.proofs.labels.picture.push_frames.Given as goal

abbrev pub invariant-loop-at : goal.invariant-loop-at
invariant-loop-at l =
    l.out.items ++ frames_text l.at (drop l.at l.frames) ≡ l.fn.out.items ++ frames_text 0 l.frames
