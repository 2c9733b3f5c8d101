-- The plain tree over numbers of a resolved tree that the code declares.
use Rattle.std.specs.Prelude.{ℕ, List, [], ◌∷◌}
use Rattle.tick_kinds.specs.declared.resolved.Expression as DeclaredExpression
use Rattle.tick_kinds.specs.declared.resolved.Expression.TheVariants as E
use Rattle.tick_kinds.specs.declared.resolved.Statement.{Row_of-Statement, end_of-Statement, more_of-Statement}
use Rattle.tick_kinds.specs.declared.resolved.Statement as DeclaredStatement
use Rattle.tick_kinds.specs.declared.resolved.Statement.TheVariants as S
use Rattle.base.specs.Plain.{Expression, number, named, me, count, binary, Statement, assign, get, put, stamp, clear, scan, copy, older, held, out, branch, repeat, Block, nil, cons}

abbrev pub resolved_expression : DeclaredExpression.Expression → Expression ℕ
resolved_expression (E.Number v) = number v
resolved_expression (E.Variable x) = named x
resolved_expression E.Me = me
resolved_expression E.Count = count
resolved_expression (E.Binary' p a op q b) = binary (resolved_expression a) op (resolved_expression b)

abbrev mutual
  pub resolved_statement : DeclaredStatement.Statement → Statement ℕ
  resolved_statement (S.Assign x e) = assign x (resolved_expression e)
  resolved_statement (S.Get x r e) = get x r (resolved_expression e)
  resolved_statement (S.Put r e) = put r (resolved_expression e)
  resolved_statement S.Stamp = stamp
  resolved_statement S.Clear = clear
  resolved_statement (S.Scan s) = scan s
  resolved_statement (S.Copy t s) = copy t s
  resolved_statement (S.Older x s a b) = older x s (resolved_expression a) (resolved_expression b)
  resolved_statement (S.Held x s e) = held x s (resolved_expression e)
  resolved_statement (S.Out e) = out (resolved_expression e)
  resolved_statement (S.If' e p a q b) = branch (resolved_expression e) (resolved_row a) (resolved_row b)
  resolved_statement (S.While' e p a) = repeat (resolved_expression e) (resolved_row a)

  pub resolved_row : {m : _} → Row_of-Statement m → Block ℕ
  resolved_row end_of-Statement = nil
  resolved_row (more_of-Statement s r) = cons (resolved_statement s) (resolved_row r)

abbrev pub resolved_block : List DeclaredStatement.Statement → Block ℕ
resolved_block [] = nil
resolved_block (s ∷ ss) = cons (resolved_statement s) (resolved_block ss)
