use Rattle.std.proofs.Common.{◌≡◌, ◌++◌, drop}
use Rattle.ticklab_draw.specs.labels.Figures.{place_text}
use Rattle.ticklab_draw.proofs.labels.cycles.push_steps.Given as goal

abbrev pub invariant-loop-level : goal.invariant-loop-level
invariant-loop-level l =
    l.out.items ++ place_text l.n l.level (drop l.level l.label) ≡ l.fn.out.items ++ place_text l.n 0 l.label
