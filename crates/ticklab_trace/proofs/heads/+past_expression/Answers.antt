use Rattle.std.proofs.Common.{◌+◌, ap, ◌∙◌, sym, drop, length, refl}
use Rattle.tick_syntax.specs.Grammar.{expression_tokens}
use Rattle.base.specs.View.{expression_of}
use Rattle.ticklab_trace.proofs.HeadTokens.{binary_long, past_two}
use Rattle.ticklab_trace.proofs.heads.+past_expression.Goals as goal

pub returns-in-Bin : goal.returns-in-Bin
returns-in-Bin t c =
    let tokens = c.args.tokens.now in
    let left = expression_of c.deref.result.now in
    let right = expression_of c.deref-in-Bin.result.now in
    let i = length (expression_tokens left) in
    let j = length (expression_tokens right) in
    let long = ap (λ x. length (expression_tokens (expression_of x))) c.in-Bin.is
    ∙ binary_long (expression_of c.in-Bin.left.value) c.in-Bin.field-1 (expression_of c.in-Bin.right.value)
    ∙ ap (λ x. 1 + length (expression_tokens (expression_of x)) + 1 + length (expression_tokens (expression_of c.in-Bin.right.value)) + 1) (sym c.deref.ensures)
    ∙ ap (λ x. 1 + i + 1 + length (expression_tokens (expression_of x)) + 1) (sym c.deref-in-Bin.ensures) in
    c.past-in-Bin-2.ensures ∙ ap (drop 1) (c.past_expression.ensures ∙ ap (drop j) (c.past-in-Bin.ensures
    ∙ ap (drop 1) (c.past_expression-between.ensures ∙ ap (drop i) c.past.ensures ∙ past_two 1 i (1 + i) tokens refl)
    ∙ past_two (1 + i) 1 (1 + i + 1) tokens refl) ∙ past_two (1 + i + 1) j (1 + i + 1 + j) tokens refl)
    ∙ past_two (1 + i + 1 + j) 1 (length (expression_tokens (expression_of c.args.e.now))) tokens (sym long)
