use Rattle.std.proofs.Common.{◌∙◌}
use Rattle.ticklab_explain.proofs.Tails.{to_end, trailing_next}
use Rattle.ticklab_explain.proofs.part.trailing.Goals as goal

pub loop-start-preserved : goal.loop-start-preserved
loop-start-preserved c =
    let tokens = c.args.tokens.now in
    let start = c.loop-start.start in
    let differs = rw (to_end tokens start) at (rw c.leading.ensures at c.if-leading-rest.false) in
    trailing_next c.args.text.now tokens start c.loop-start-test.true differs ∙ c.loop-start.invariant
