-- What the crates above may cite: which programs are accepted, and that a statement which holds blocks is
-- the plain one over its blocks.
use Rattle.std.proofs.Common.{◌≡◌, List, refl, ap, ◌∙◌, sym, Vec, Global}
use Rattle.tick_kinds.specs.declared.resolved.Expression as DeclaredExpression
use Rattle.tick_kinds.specs.declared.resolved.Statement as DeclaredStatement
use Rattle.tick_kinds.specs.declared.resolved.Statement.{Row_of-Statement, end_of-Statement, more_of-Statement}
use Rattle.tick_kinds.specs.declared.resolved.Statement.TheBlock.{items-the_row-Statement, hidden-the_row-Statement-0, items_hidden-the_row-Statement-0}
use Rattle.tick_kinds.specs.declared.resolved.Statement.TheVariants as S
use Rattle.tick_kinds.specs.Resolved.{resolved_expression, resolved_statement, resolved_row, resolved_block}
use Rattle.base.specs.Plain.{branch, repeat, cons}
use Rattle.tick_kinds.specs.Laws.{AcceptanceLaw, WithinLaw}
use Rattle.tick_kinds.proofs.Acceptance.{accepted_unless_refused, accepted_within}

pub acceptance_law : AcceptanceLaw
acceptance_law = accepted_unless_refused

pub within_law : WithinLaw
within_law = accepted_within

row_block : {n : _} → (k : Row_of-Statement n) → resolved_row k ≡ resolved_block (items-the_row-Statement n k)
row_block end_of-Statement = refl
row_block (more_of-Statement s r) = ap (λ b. cons (resolved_statement s) b) (row_block r)

held : (a : Vec DeclaredStatement.Statement Global) → resolved_row (hidden-the_row-Statement-0 a) ≡ resolved_block a.items
held a = row_block (hidden-the_row-Statement-0 a) ∙ ap resolved_block (items_hidden-the_row-Statement-0 a)

pub resolved_branch : (e : DeclaredExpression.Expression) (a b : Vec DeclaredStatement.Statement Global)
    → resolved_statement (S.If e a b) ≡ branch (resolved_expression e) (resolved_block a.items) (resolved_block b.items)
resolved_branch e a b = λ i. branch (resolved_expression e) (held a i) (held b i)

pub resolved_repeat : (e : DeclaredExpression.Expression) (a : Vec DeclaredStatement.Statement Global)
    → resolved_statement (S.While e a) ≡ repeat (resolved_expression e) (resolved_block a.items)
resolved_repeat e a = ap (λ x. repeat (resolved_expression e) x) (held a)

-- the same of a statement that was matched, where the blocks are lent as slices
pub branch_lent : (s : DeclaredStatement.Statement) (e : DeclaredExpression.Expression) (a b : Vec DeclaredStatement.Statement Global) (x y : List DeclaredStatement.Statement)
    → s ≡ S.If e a b → x ≡ a.items → y ≡ b.items
    → resolved_statement s ≡ branch (resolved_expression e) (resolved_block x) (resolved_block y)
branch_lent s e a b x y is first second =
    ap resolved_statement is ∙ resolved_branch e a b
    ∙ λ i. branch (resolved_expression e) (resolved_block (sym first i)) (resolved_block (sym second i))

pub repeat_lent : (s : DeclaredStatement.Statement) (e : DeclaredExpression.Expression) (a : Vec DeclaredStatement.Statement Global) (x : List DeclaredStatement.Statement)
    → s ≡ S.While e a → x ≡ a.items → resolved_statement s ≡ repeat (resolved_expression e) (resolved_block x)
repeat_lent s e a x is first =
    ap resolved_statement is ∙ resolved_repeat e a ∙ ap (λ r. repeat (resolved_expression e) (resolved_block r)) (sym first)
