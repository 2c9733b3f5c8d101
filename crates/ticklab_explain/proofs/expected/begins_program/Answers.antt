use Rattle.std.proofs.Common.{inl}
use Rattle.std.proofs.lemmas.Result.{IfOk-weaker}
use Rattle.base.specs.View.{tree_of}
use Rattle.ticklab_explain.proofs.Begun.{tested}
use Rattle.ticklab_explain.proofs.expected.begins_program.Goals as goal

pub returns-in-Ok : goal.returns-in-Ok
returns-in-Ok c = inl (tree_of c.in-Ok._tree, (c.in-Ok.ensures.limits.0, c.in-Ok.ensures.tree, c.in-Ok.ensures.limits.1))

pub returns-in-Err : goal.returns-in-Err
returns-in-Err c =
    IfOk-weaker c.is_at_end.result _ _
    (λ b h. tested c.args.text.now c.in-Err.fault b h.0 h.1 (c.in-Err.ensures.refused h.0) c.in-Err.ensures.accepted c.in-Err.ensures.first)
    c.is_at_end.ensures
