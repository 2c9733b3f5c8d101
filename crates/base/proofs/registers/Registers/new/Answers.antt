use Rattle.std.proofs.Common.{◌≡◌, ap, ◌∙◌, arith, replicate, map}
use Rattle.base.proofs.Offered.{made_more}
use Rattle.base.proofs.registers.Registers.new.Goals as goal

pub loop-init : goal.loop-init
loop-init c = ap (map (λ row. row.items)) c.in_ok-all.ensures.items

pub loop-preserved : goal.loop-preserved
loop-preserved c =
    made_more (λ row. row.items) c.loop.all.items _ c.in_ok-row.row (replicate c.args.processes 0) c.loop.counter
    c.in_ok-push.ensures.items (c.in_ok-row.ensures.items_if_clones_equal (λ y e. e) ∙ ap (λ k. replicate k 0) c.from-in-loop.ensures) c.loop.invariant

pub returns : goal.returns
returns c =
    let all : c.loop.counter ≡ c.args.rows = omega arith in
    c.loop.invariant ∙ ap (λ k. replicate k (replicate c.args.processes 0)) all
