use Rattle.std.proofs.Common.{◌≡◌, ◌++◌, drop, length}
use Rattle.ticklab_draw.specs.labels.Figures.{figures_text}
use Rattle.ticklab_draw.proofs.labels.frame_text.push_figures.Given as goal

abbrev pub invariant-loop-process : goal.invariant-loop-process
invariant-loop-process l =
    l.out.items ++ figures_text (length l.labels) l.made l.process (drop l.process l.labels)
    ≡ l.fn.out.items ++ figures_text (length l.labels) l.made 0 l.labels
