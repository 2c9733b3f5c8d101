-- The lists of statements in a declared statement are plain blocks; and what is left of a list from a statement on.
use Rattle.std.proofs.Common.{◌≡◌, ◌<◌, ◌≤◌, ◌+◌, ℕ, suc, List, length, drop, drop-cons, get_or, add-one, Vec, Global, refl, sym, ◌∙◌, ap}
use Rattle.std.proofs.Math.ListN.{drop_of_length-le}
use Rattle.base.specs.declared.tree.Expr.{Expr}
use Rattle.base.specs.declared.tree.Stmt.{Stmt, Row_of-Stmt, end_of-Stmt, more_of-Stmt}
use Rattle.base.specs.declared.tree.Stmt.TheVariants as S
use Rattle.base.specs.declared.tree.Stmt.TheBlock.{items-the_row-Stmt, hidden-the_row-Stmt-0, items_hidden-the_row-Stmt-0}
use Rattle.base.specs.Plain.{branch, repeat, nil, cons, expression_of, statement_of, row_of, block_of}

row_block : {n : _} → (k : Row_of-Stmt n) → row_of k ≡ block_of (items-the_row-Stmt n k)
row_block end_of-Stmt = refl
row_block (more_of-Stmt s r) = ap (cons (statement_of s)) (row_block r)

pub held : (a : Vec Stmt Global) → row_of (hidden-the_row-Stmt-0 a) ≡ block_of a.items
held a = row_block (hidden-the_row-Stmt-0 a) ∙ ap block_of (items_hidden-the_row-Stmt-0 a)

pub statement_of_branch : (e : Expr) (a b : Vec Stmt Global)
    → statement_of (S.If e a b) ≡ branch (expression_of e) (block_of a.items) (block_of b.items)
statement_of_branch e a b = ap (λ z. branch (expression_of e) z (row_of (hidden-the_row-Stmt-0 b))) (held a)
    ∙ ap (λ z. branch (expression_of e) (block_of a.items) z) (held b)

pub statement_of_repeat : (e : Expr) (a : Vec Stmt Global) → statement_of (S.While e a) ≡ repeat (expression_of e) (block_of a.items)
statement_of_repeat e a = ap (repeat (expression_of e)) (held a)

-- the statements of a list from one on, and past its end
pub next_statement : (ss : List Stmt) (k : ℕ) (s : Stmt) → k < length ss → s ≡ get_or ss k s
    → block_of (drop k ss) ≡ cons (statement_of s) (block_of (drop (k + 1) ss))
next_statement ss k s inside is =
    ap block_of (drop-cons ss k s inside)
    ∙ ap (λ x. cons (statement_of x) (block_of (drop (suc k) ss))) (sym is)
    ∙ ap (λ j. cons (statement_of s) (block_of (drop j ss))) (sym (add-one k))

pub no_statement : (ss : List Stmt) (k : ℕ) → length ss ≤ k → block_of (drop k ss) ≡ nil
no_statement ss k past = ap block_of (drop_of_length-le ss past)
