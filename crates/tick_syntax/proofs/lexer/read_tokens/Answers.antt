use Rattle.std.proofs.Common.{rules}
use Rattle.std.proofs.lemmas.Result.{err_from_is_err_and}
use Rattle.tick_syntax.proofs.TokensSoFar.{read_all, read_fault, first_token, read_more}
use Rattle.tick_syntax.proofs.lexer.read_tokens.Goals as goal

pub returns-then-start-bytes-clause-ok : goal.returns-then-start-bytes-clause-ok
returns-then-start-bytes-clause-ok c =
    read_all c.args.bytes.now c.tokens.tokens.items c.tokens.end c.gap_end-start.result c.tokens.invariant c.gap_end-start.ensures.end c.if-start-bytes.true

pub returns-in_err-token-clause-err : goal.returns-in_err-token-clause-err
returns-in_err-token-clause-err c =
    let p = err_from_is_err_and c.from_residual.result c.from_residual.ensures.1 in
    rw (p.1, p.2) (λ differs. read_fault c.args.bytes.now c.tokens.tokens.items c.tokens.end c.gap_end-start.result c.in_err-token.field-0.0 c.tokens.invariant c.gap_end-start.ensures.end c.in_err-token.ensures)

pub tokens-preserved : goal.tokens-preserved
tokens-preserved c =
    let more = read_more c.args.bytes.now c.tokens.tokens.items c.tokens.end c.gap_end-start.result c.in_ok-token.token c.tokens.invariant c.gap_end-start.ensures.end c.in_ok-token.ensures in
    search (rules, more)

pub returns-in_err-push-clause-memory : goal.returns-in_err-push-clause-memory
returns-in_err-push-clause-memory c = λ none.
    first_token c.args.bytes.now c.tokens.tokens.items c.tokens.end c.gap_end-start.result c.in_ok-token.token c.tokens.invariant c.gap_end-start.ensures.end c.in_ok-token.ensures
