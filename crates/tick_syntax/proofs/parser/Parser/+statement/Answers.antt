use Rattle.std.proofs.Common.{◌≡◌, ◌∙◌, ap, sym, Ok, drop}
use Rattle.std.proofs.lemmas.Result.{err_from_is_err_and}
use Rattle.base.specs.Plain.{nil, cons, onto, statement_of, block_of}
use Rattle.base.proofs.Blocks.{statement_of_branch, statement_of_repeat}
use Rattle.tick_syntax.proofs.Loops.{statements_none, statements_fail, statements_last, statements_more, block_more}
use Rattle.tick_syntax.proofs.Statements.{statement_shorter, branch_gives, repeat_gives}
use Rattle.tick_syntax.proofs.parser.Parser.+statement.Goals as goal

pub branch-returns : goal.branch-returns
branch-returns t c =
    branch_gives c.args.self.now.end _ _ _ _ _ _ _ _ _ _ c.in_ok-value.ensures c.in_ok-first.ensures c.in_ok-at.ensures c.in_ok-second.ensures
    ∙ ap (λ z. Ok (z, drop c.in_ok-second.at c.args.self.now.tokens.now)) (sym (statement_of_branch _ _ _))

pub repeat-returns : goal.repeat-returns
repeat-returns t c =
    repeat_gives c.args.self.now.end _ _ _ _ _ _ _ c.in_ok-value.ensures c.in_ok-body.ensures
    ∙ ap (λ z. Ok (z, drop c.in_ok-body.at c.args.self.now.tokens.now)) (sym (statement_of_repeat _ _))

pub statements-returns-in_err-token : goal.statements-returns-in_err-token
statements-returns-in_err-token t c =
    let p = err_from_is_err_and c.from_residual.result c.from_residual.ensures.1 in
    rw (p.1, p.2) (statements_none c.args.self.now.end _ _ _ _ _ _ c.loop-statements.invariant c.in_err-token.ensures)

pub statements-returns-then-ends : goal.statements-returns-then-ends
statements-returns-then-ends t c =
    statements_last c.args.self.now.end _ _ _ _ _ _ c.loop-statements.invariant c.in_ok-token.ensures (sym c.ends.ensures ∙ c.if-ends.true)

pub statements-returns-in_err-statement : goal.statements-returns-in_err-statement
statements-returns-in_err-statement t c =
    let p = err_from_is_err_and c.from_residual-in_err-statement.result c.from_residual-in_err-statement.ensures.1 in
    rw (p.1, p.2) (statements_fail c.args.self.now.end _ _ _ _ _ _ _ c.loop-statements.invariant c.in_ok-token.ensures
    (sym c.ends.ensures ∙ c.if-ends.false) c.in_err-statement.ensures)

pub statements-loop-statements-smaller : goal.statements-loop-statements-smaller
statements-loop-statements-smaller t c = statement_shorter c.args.self.now.end _ _ _ _ c.in_ok-statement.ensures

pub statements-loop-statements-preserved : goal.statements-loop-statements-preserved
statements-loop-statements-preserved t c =
    let e : block_of c.push.new.self.items ≡ onto (block_of c.loop-statements.statements.items) (cons (statement_of c.in_ok-statement.statement) nil) =
    rw c.in_ok-push.ensures.items (block_more c.args.self.now.end c.loop-statements.statements.items c.in_ok-statement.statement) in
    rw e (sym (statements_more c.args.self.now.end _ _ _ _ _ _ _ c.in_ok-token.ensures (sym c.ends.ensures ∙ c.if-ends.false) c.in_ok-statement.ensures)
    ∙ c.loop-statements.invariant)
