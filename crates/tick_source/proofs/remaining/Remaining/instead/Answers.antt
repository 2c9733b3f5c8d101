use Rattle.std.proofs.Common.{ap, ◌∙◌, sym, arith, refl}
use Rattle.tick_source.specs.prover.Remaining.{after_first}
use Rattle.tick_source.proofs.Open.{joined_both, undone_both, joined_instead, undone_set, long_rest, more_of}
use Rattle.tick_kinds.specs.Resolved.{resolved_block}
use Rattle.base.specs.Plain.{onto}
use Rattle.tick_source.proofs.remaining.Remaining.instead.Goals as goal

pub invariant_of-self-then-open-gt1 : goal.invariant_of-self-then-open-gt1
invariant_of-self-then-open-gt1 c =
    undone_both c.self.inside.blocks.items c.in-Some.last c.index-open.result.now (omega (arith, c.self.inside.blocks.ok, c.in-Some.ensures)) c.index-open.ensures
    _ c.args.block _ c.in_ok-push.ensures.items (long_rest _ c.if-open-gt1.true) (more_of _ (sym c.if-is_empty.ensures)) c.self.invariant

pub invariant_of-self-else-open-gt1 : goal.invariant_of-self-else-open-gt1
invariant_of-self-else-open-gt1 c =
    undone_set c.self.inside.blocks.items c.in-Some.last c.index-open.result.now (omega (arith, c.self.inside.blocks.ok, c.in-Some.ensures)) c.index-open.ensures
    c.args.block (more_of _ (sym c.if-is_empty.ensures)) c.self.invariant

pub returns-in_ok-push-clause-ok : goal.returns-in_ok-push-clause-ok
returns-in_ok-push-clause-ok c =
    joined_both c.self.inside.blocks.items c.in-Some.last c.index-open.result.now (omega (arith, c.self.inside.blocks.ok, c.in-Some.ensures)) c.index-open.ensures
    c.self.invariant _ c.args.block _ c.in_ok-push.ensures.items refl
    ∙ ap (λ r. onto (resolved_block c.args.block.now) (after_first r)) c.self.view_is

pub returns-else-open-gt1-clause-ok : goal.returns-else-open-gt1-clause-ok
returns-else-open-gt1-clause-ok c =
    joined_instead c.self.inside.blocks.items c.in-Some.last c.index-open.result.now (omega (arith, c.self.inside.blocks.ok, c.in-Some.ensures)) c.index-open.ensures
    c.self.invariant c.if-open-gt1.false c.args.block
    ∙ ap (λ r. onto (resolved_block c.args.block.now) (after_first r)) c.self.view_is
