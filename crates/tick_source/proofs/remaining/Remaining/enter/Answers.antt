use Rattle.std.proofs.Common.{ap, ◌∙◌, sym, subst}
use Rattle.tick_source.specs.prover.Remaining.{joined, IsUndone}
use Rattle.tick_source.proofs.Open.{joined_more, undone_more, more_of}
use Rattle.tick_kinds.specs.Resolved.{resolved_block}
use Rattle.base.specs.Plain.{onto}
use Rattle.tick_source.proofs.remaining.Remaining.enter.Goals as goal

pub invariant_of-self : goal.invariant_of-self
invariant_of-self c =
    subst IsUndone (sym c.in_ok-push.ensures.items) (undone_more c.self.inside.blocks.items c.args.block c.self.invariant (more_of _ (sym c.if-not-is_empty.ensures)))

pub returns-in_ok-push-clause-ok : goal.returns-in_ok-push-clause-ok
returns-in_ok-push-clause-ok c =
    ap joined c.in_ok-push.ensures.items ∙ joined_more c.self.inside.blocks.items c.args.block
    ∙ ap (λ r. onto (resolved_block c.args.block.now) r) c.self.view_is
