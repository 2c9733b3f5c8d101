use Rattle.std.proofs.Common.{ap, ◌∙◌, sym, arith, subst, refl}
use Rattle.tick_source.specs.prover.Remaining.{after_first, joined, IsUndone}
use Rattle.tick_source.proofs.Open.{joined_set, undone_set, joined_take, undone_take, long_rest}
use Rattle.tick_source.proofs.remaining.Remaining.advance.Goals as goal

pub invariant_of-self : goal.invariant_of-self
invariant_of-self c =
    undone_set c.self.inside.blocks.items c.in-Some.last c.index-block.result.now (omega (arith, c.self.inside.blocks.ok, c.in-Some.ensures)) c.index-block.ensures _
    (long_rest _ c.if-block-gt1.true) c.self.invariant

pub invariant_of-self-else-block-gt1 : goal.invariant_of-self-else-block-gt1
invariant_of-self-else-block-gt1 c =
    subst IsUndone (sym c.truncate.ensures.items)
    (undone_take c.self.inside.blocks.items c.in-Some.last c.index-block.result.now (omega (arith, c.self.inside.blocks.ok, c.in-Some.ensures)) c.index-block.ensures c.self.invariant)

pub returns-then-block-gt1 : goal.returns-then-block-gt1
returns-then-block-gt1 c =
    joined_set c.self.inside.blocks.items c.in-Some.last c.index-block.result.now (omega (arith, c.self.inside.blocks.ok, c.in-Some.ensures)) c.index-block.ensures c.self.invariant _ refl
    ∙ ap after_first c.self.view_is

pub returns-else-block-gt1 : goal.returns-else-block-gt1
returns-else-block-gt1 c =
    ap joined c.truncate.ensures.items
    ∙ joined_take c.self.inside.blocks.items c.in-Some.last c.index-block.result.now (omega (arith, c.self.inside.blocks.ok, c.in-Some.ensures)) c.index-block.ensures c.self.invariant c.if-block-gt1.false
    ∙ ap after_first c.self.view_is
