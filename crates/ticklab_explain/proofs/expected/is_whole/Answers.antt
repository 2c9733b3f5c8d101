use Rattle.base.specs.View.{tree_of}
use Rattle.ticklab_explain.proofs.expected.is_whole.Goals as goal

pub returns-in-Ok : goal.returns-in-Ok
returns-in-Ok c = (tree_of c.in-Ok._tree, (c.in-Ok.ensures.limits.0, c.in-Ok.ensures.tree, c.in-Ok.ensures.limits.1))
