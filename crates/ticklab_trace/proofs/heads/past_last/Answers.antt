use Rattle.std.proofs.Common.{ap, ◌∙◌, drop, length, refl}
use Rattle.tick_syntax.specs.Grammar.{expression_tokens}
use Rattle.base.specs.View.{expression_of}
use Rattle.ticklab_trace.proofs.HeadTokens.{past_two}
use Rattle.ticklab_trace.proofs.heads.past_last.Goals as goal

pub returns : goal.returns
returns c =
    c.past.ensures ∙ ap (drop 1) c.past_expression.ensures
    ∙ past_two (length (expression_tokens (expression_of c.args.e.now))) 1 _ c.args.tokens.now refl
