-- The names that a program uses, in order of the text, each with the kind that its place wants; and that every
-- number of a resolved block names something that is declared.
use Rattle.std.specs.Prelude.{ℕ, ◌<◌, List, [], ◌∷◌, ◌++◌}
use Rattle.tick_kinds.specs.declared.kind.Kind.{Kind}
use Rattle.tick_kinds.specs.declared.kind.Kind.TheVariants as K
use Rattle.base.specs.Plain.{Name, Expression, number, named, me, count, binary, Statement, assign, get, put, stamp, clear, scan, copy, older, held, out, branch, repeat, Block, nil, cons}

pub record Use : Type 0 where
  pub wanted : Kind
  pub name : Name

abbrev pub a_variable : Name → Use
a_variable x = record { wanted = K.Variable; name = x }

abbrev pub a_scan : Name → Use
a_scan s = record { wanted = K.Scan; name = s }

abbrev pub a_register : Name → Use
a_register r = record { wanted = K.Register; name = r }

abbrev pub expression_uses : Expression Name → List Use
expression_uses (number v) = []
expression_uses (named x) = a_variable x ∷ []
expression_uses me = []
expression_uses count = []
expression_uses (binary a op b) = expression_uses a ++ expression_uses b

abbrev mutual
  pub statement_uses : Statement Name → List Use
  statement_uses (assign x e) = a_variable x ∷ expression_uses e
  statement_uses (get x r e) = a_variable x ∷ a_register r ∷ expression_uses e
  statement_uses (put r e) = a_register r ∷ expression_uses e
  statement_uses stamp = []
  statement_uses clear = []
  statement_uses (scan s) = a_scan s ∷ []
  statement_uses (copy t s) = a_scan t ∷ a_scan s ∷ []
  statement_uses (older x s a b) = a_variable x ∷ a_scan s ∷ (expression_uses a ++ expression_uses b)
  statement_uses (held x s e) = a_variable x ∷ a_scan s ∷ expression_uses e
  statement_uses (out e) = expression_uses e
  statement_uses (branch e a b) = expression_uses e ++ (block_uses a ++ block_uses b)
  statement_uses (repeat e a) = expression_uses e ++ block_uses a

  pub block_uses : Block Name → List Use
  block_uses nil = []
  block_uses (cons s b) = statement_uses s ++ block_uses b

-- the number of a variable is below the number of variables, and so for scans and register rows
module _ (variables scans registers : ℕ) where
  abbrev pub IsExpressionWithin : Expression ℕ → Type 0
  IsExpressionWithin (number _) = Unit {0}
  IsExpressionWithin (named x) = x < variables
  IsExpressionWithin me = Unit {0}
  IsExpressionWithin count = Unit {0}
  IsExpressionWithin (binary a _ b) = IsExpressionWithin a × IsExpressionWithin b

  abbrev mutual
    pub IsStatementWithin : Statement ℕ → Type 0
    IsStatementWithin (assign x e) = (x < variables) × IsExpressionWithin e
    IsStatementWithin (get x r e) = (x < variables) × (r < registers) × IsExpressionWithin e
    IsStatementWithin (put r e) = (r < registers) × IsExpressionWithin e
    IsStatementWithin stamp = Unit {0}
    IsStatementWithin clear = Unit {0}
    IsStatementWithin (scan s) = s < scans
    IsStatementWithin (copy t s) = (t < scans) × (s < scans)
    IsStatementWithin (older x s a b) =
        (x < variables) × (s < scans) × IsExpressionWithin a × IsExpressionWithin b
    IsStatementWithin (held x s e) = (x < variables) × (s < scans) × IsExpressionWithin e
    IsStatementWithin (out e) = IsExpressionWithin e
    IsStatementWithin (branch e a b) = IsExpressionWithin e × IsWithin a × IsWithin b
    IsStatementWithin (repeat e a) = IsExpressionWithin e × IsWithin a

    pub IsWithin : Block ℕ → Type 0
    IsWithin nil = Unit {0}
    IsWithin (cons s b) = IsStatementWithin s × IsWithin b
