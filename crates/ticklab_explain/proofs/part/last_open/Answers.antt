use Rattle.std.proofs.Common.{◌∙◌, ◌+◌, List, ap, drop}
use Rattle.tick_syntax.specs.declared.token.Token.{Token}
use Rattle.ticklab_explain.specs.Parts.{last_open}
use Rattle.ticklab_explain.proofs.Tails.{last_open_next, to_end}
use Rattle.ticklab_explain.proofs.part.last_open.Goals as goal

pub loop-start-preserved : goal.loop-start-preserved
loop-start-preserved c =
    let text = c.args.text.now in
    let tokens = c.args.tokens.now in
    let start = c.loop-start.start in
    let found = rw (to_end tokens start) at c.later_open-found.ensures in
    ap (λ (f : List Token). last_open text f (drop (start + 1) tokens)) found
    ∙ (last_open_next text c.loop-start.found.now tokens start c.loop-start-test.true ∙ c.loop-start.invariant)
