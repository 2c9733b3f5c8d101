-- Programs as plain trees. `A` is the type of names: the letters of a name with their place in the text, or a
-- number once names are resolved. The plain tree of a tree that the code declares stands here too.
use Rattle.std.specs.Prelude.{ℕ, List, [], ◌∷◌, map, string_bytes}
use Rattle.base.specs.declared.span.Span.{Span}
use Rattle.base.specs.declared.operator.Op.{Op}
use Rattle.base.specs.declared.tree.Named.{Named}
use Rattle.base.specs.declared.tree.Expr.{Expr}
use Rattle.base.specs.declared.tree.Expr.TheVariants as E
use Rattle.base.specs.declared.tree.Stmt.{Stmt, Row_of-Stmt, end_of-Stmt, more_of-Stmt}
use Rattle.base.specs.declared.tree.Stmt.TheVariants as S
use Rattle.base.specs.declared.tree.Tree.{Tree}

-- a span that is no place of a text
abbrev pub nowhere : Span
nowhere = record { start = 0; end = 0 }

-- a name as it stands in a text
pub record Name : Type 0 where
  pub letters : List ℕ
  pub span : Span

pub data Expression (A : Type 0) : Type 0 where
  number : ℕ → Expression A
  named : A → Expression A
  me : Expression A
  count : Expression A
  binary : Expression A → Op → Expression A → Expression A

-- In order: `x = e;`, `x = get r e;`, `put r e;`, `stamp;`, `clear;`, `s = scan;`, `t = copy s;`,
-- `x = older s e f;`, `x = held s e;`, `out e;`, `if e {..} else {..}`, `while e {..}`.
mutual
  pub data Statement (A : Type 0) : Type 0 where
    assign : A → Expression A → Statement A
    get : A → A → Expression A → Statement A
    put : A → Expression A → Statement A
    stamp : Statement A
    clear : Statement A
    scan : A → Statement A
    copy : A → A → Statement A
    older : A → A → Expression A → Expression A → Statement A
    held : A → A → Expression A → Statement A
    out : Expression A → Statement A
    branch : Expression A → Block A → Block A → Statement A
    repeat : Expression A → Block A → Statement A

  pub data Block (A : Type 0) : Type 0 where
    nil : Block A
    cons : Statement A → Block A → Block A

-- The whole program. The span is where the number of processes stands.
pub record WholeProgram (A : Type 0) : Type 0 where
  pub processes : ℕ
  pub span : Span
  pub variables : List A
  pub scans : List A
  pub registers : List A
  pub body : Block A

-- one block, then the other
abbrev pub onto : {A : Type 0} → Block A → Block A → Block A
onto nil b = b
onto (cons s a) b = cons s (onto a b)

-- The same tree with each name changed by f.
module _ {A B : Type 0} (f : A → B) where
  abbrev pub map_expression : Expression A → Expression B
  map_expression (number v) = number v
  map_expression (named x) = named (f x)
  map_expression me = me
  map_expression count = count
  map_expression (binary a op b) = binary (map_expression a) op (map_expression b)

  abbrev mutual
    pub map_statement : Statement A → Statement B
    map_statement (assign x e) = assign (f x) (map_expression e)
    map_statement (get x r e) = get (f x) (f r) (map_expression e)
    map_statement (put r e) = put (f r) (map_expression e)
    map_statement stamp = stamp
    map_statement clear = clear
    map_statement (scan s) = scan (f s)
    map_statement (copy t s) = copy (f t) (f s)
    map_statement (older x s a b) = older (f x) (f s) (map_expression a) (map_expression b)
    map_statement (held x s e) = held (f x) (f s) (map_expression e)
    map_statement (out e) = out (map_expression e)
    map_statement (branch e a b) = branch (map_expression e) (map_block a) (map_block b)
    map_statement (repeat e a) = repeat (map_expression e) (map_block a)

    pub map_block : Block A → Block B
    map_block nil = nil
    map_block (cons s b) = cons (map_statement s) (map_block b)

-- The program without its places in a text: what two texts share that differ in blanks, comments and
-- leading zeros alone.
abbrev pub without_spans : WholeProgram Name → WholeProgram (List ℕ)
without_spans p = record {
  processes = p.processes;
  span = nowhere;
  variables = map (λ x. x.letters) p.variables;
  scans = map (λ x. x.letters) p.scans;
  registers = map (λ x. x.letters) p.registers;
  body = map_block (λ x. x.letters) p.body;
}

-- the plain tree of a declared one
abbrev pub name_of : Named → Name
name_of x = record { letters = string_bytes x.name; span = x.span }

abbrev pub expression_of : Expr → Expression Name
expression_of (E.Num v) = number v
expression_of (E.Name x) = named (name_of x)
expression_of E.Me = me
expression_of E.Count = count
expression_of (E.Bin' p a op q b) = binary (expression_of a) op (expression_of b)

abbrev mutual
  pub statement_of : Stmt → Statement Name
  statement_of (S.Assign x e) = assign (name_of x) (expression_of e)
  statement_of (S.Get x r e) = get (name_of x) (name_of r) (expression_of e)
  statement_of (S.Put r e) = put (name_of r) (expression_of e)
  statement_of S.Stamp = stamp
  statement_of S.Clear = clear
  statement_of (S.Scan s) = scan (name_of s)
  statement_of (S.Copy t s) = copy (name_of t) (name_of s)
  statement_of (S.Older x s a b) = older (name_of x) (name_of s) (expression_of a) (expression_of b)
  statement_of (S.Held x s e) = held (name_of x) (name_of s) (expression_of e)
  statement_of (S.Out e) = out (expression_of e)
  statement_of (S.If' e p a q b) = branch (expression_of e) (row_of a) (row_of b)
  statement_of (S.While' e p a) = repeat (expression_of e) (row_of a)

  pub row_of : {m : _} → Row_of-Stmt m → Block Name
  row_of end_of-Stmt = nil
  row_of (more_of-Stmt s r) = cons (statement_of s) (row_of r)

abbrev pub block_of : List Stmt → Block Name
block_of [] = nil
block_of (s ∷ ss) = cons (statement_of s) (block_of ss)

abbrev pub tree_of : Tree → WholeProgram Name
tree_of t = record {
  processes = t.processes;
  span = t.processes_span;
  variables = map name_of t.variables.items;
  scans = map name_of t.scans.items;
  registers = map name_of t.registers.items;
  body = block_of t.body.items;
}
