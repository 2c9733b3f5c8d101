-- The grammar: the tokens of a program, in their order, and how deeply its brackets are nested. A list of tokens
-- is a program if it says exactly these.
use Rattle.std.specs.Prelude.{◌≡◌, ℕ, suc, List, [], ◌∷◌, ◌++◌, max}
use Rattle.base.specs.declared.span.Span.{Span}
use Rattle.tick_syntax.specs.declared.terminals.Terminal.{Terminal}
use Rattle.tick_syntax.specs.declared.terminals.Terminal.TheVariants as T
use Rattle.tick_syntax.specs.declared.token.Token.{Token}
use Rattle.tick_syntax.specs.Lexeme.{Lexeme, a_name, a_number, a_terminal, lexemes}
use Rattle.base.specs.Plain.{nowhere, Name, Expression, number, named, me, count, binary, Statement, assign, get, put, stamp, clear, scan, copy, older, held, out, branch, repeat, Block, nil, cons, WholeProgram}

-- NUM, NAME, `me`, `n`, or two expressions about an operator, all in brackets
abbrev pub expression_tokens : Expression Name → List Lexeme
expression_tokens (number v) = a_number v ∷ []
expression_tokens (named x) = a_name x ∷ []
expression_tokens me = a_terminal T.Me ∷ []
expression_tokens count = a_terminal T.Count ∷ []
expression_tokens (binary a op b) =
    a_terminal T.Open ∷ (expression_tokens a ++ (a_terminal (T.Operator op) ∷ (expression_tokens b ++ a_terminal T.Close ∷ [])))

abbrev pub in_braces : List Lexeme → List Lexeme
in_braces ts = a_terminal T.OpenBrace ∷ (ts ++ a_terminal T.CloseBrace ∷ [])

abbrev mutual
  pub statement_tokens : Statement Name → List Lexeme
  statement_tokens (assign x e) = a_name x ∷ a_terminal T.Becomes ∷ (expression_tokens e ++ a_terminal T.Semicolon ∷ [])
  statement_tokens (get x r e) =
      a_name x ∷ a_terminal T.Becomes ∷ a_terminal T.Get ∷ a_name r ∷ (expression_tokens e ++ a_terminal T.Semicolon ∷ [])
  statement_tokens (put r e) = a_terminal T.Put ∷ a_name r ∷ (expression_tokens e ++ a_terminal T.Semicolon ∷ [])
  statement_tokens stamp = a_terminal T.Stamp ∷ a_terminal T.Semicolon ∷ []
  statement_tokens clear = a_terminal T.Clear ∷ a_terminal T.Semicolon ∷ []
  statement_tokens (scan s) = a_name s ∷ a_terminal T.Becomes ∷ a_terminal T.Scan ∷ a_terminal T.Semicolon ∷ []
  statement_tokens (copy t s) = a_name t ∷ a_terminal T.Becomes ∷ a_terminal T.Copy ∷ a_name s ∷ a_terminal T.Semicolon ∷ []
  statement_tokens (older x s a b) =
      a_name x ∷ a_terminal T.Becomes ∷ a_terminal T.Older ∷ a_name s
      ∷ (expression_tokens a ++ (expression_tokens b ++ a_terminal T.Semicolon ∷ []))
  statement_tokens (held x s e) =
      a_name x ∷ a_terminal T.Becomes ∷ a_terminal T.Held ∷ a_name s ∷ (expression_tokens e ++ a_terminal T.Semicolon ∷ [])
  statement_tokens (out e) = a_terminal T.Out ∷ (expression_tokens e ++ a_terminal T.Semicolon ∷ [])
  statement_tokens (branch e a b) =
      a_terminal T.If ∷ (expression_tokens e ++ (in_braces (block_tokens a) ++ a_terminal T.Else ∷ in_braces (block_tokens b)))
  statement_tokens (repeat e a) = a_terminal T.While ∷ (expression_tokens e ++ in_braces (block_tokens a))

  pub block_tokens : Block Name → List Lexeme
  block_tokens nil = []
  block_tokens (cons s b) = statement_tokens s ++ block_tokens b

-- the deepest `(` and `{` of a tree: how many are open at once where most are
module _ {A : Type 0} where
  abbrev pub expression_nesting : Expression A → ℕ
  expression_nesting (number v) = 0
  expression_nesting (named x) = 0
  expression_nesting me = 0
  expression_nesting count = 0
  expression_nesting (binary a op b) = suc (max (expression_nesting a) (expression_nesting b))

  abbrev mutual
    pub statement_nesting : Statement A → ℕ
    statement_nesting (assign x e) = expression_nesting e
    statement_nesting (get x r e) = expression_nesting e
    statement_nesting (put r e) = expression_nesting e
    statement_nesting stamp = 0
    statement_nesting clear = 0
    statement_nesting (scan s) = 0
    statement_nesting (copy t s) = 0
    statement_nesting (older x s a b) = max (expression_nesting a) (expression_nesting b)
    statement_nesting (held x s e) = expression_nesting e
    statement_nesting (out e) = expression_nesting e
    statement_nesting (branch e a b) = max (expression_nesting e) (suc (max (block_nesting a) (block_nesting b)))
    statement_nesting (repeat e a) = max (expression_nesting e) (suc (block_nesting a))

    pub block_nesting : Block A → ℕ
    block_nesting nil = 0
    block_nesting (cons s b) = max (statement_nesting s) (block_nesting b)

abbrev pub nesting : {A : Type 0} → WholeProgram A → ℕ
nesting p = block_nesting p.body

-- names with a comma between two
abbrev pub names_tokens : Name → List Name → List Lexeme
names_tokens x [] = a_name x ∷ []
names_tokens x (y ∷ ys) = a_name x ∷ a_terminal T.Comma ∷ names_tokens y ys

-- a section of declarations, which is left out where it has no names
abbrev pub section_tokens : Terminal → List Name → List Lexeme
section_tokens terminal [] = []
section_tokens terminal (x ∷ xs) = a_terminal terminal ∷ (names_tokens x xs ++ a_terminal T.Semicolon ∷ [])

abbrev pub program_tokens : WholeProgram Name → List Lexeme
program_tokens p =
    a_terminal T.Processes ∷ a_number p.processes ∷ a_terminal T.Semicolon
    ∷ (section_tokens T.Var p.variables ++ (section_tokens T.Scan p.scans ++ (section_tokens T.Reg p.registers
    ++ (a_terminal T.Begin ∷ (block_tokens p.body ++ a_terminal T.End ∷ [])))))

-- where the second of these stands, which of a program is the number of processes
abbrev pub second_span : List Token → Span
second_span (first ∷ second ∷ more) = second.span
second_span _ = nowhere

-- the tokens are this program: they say its tokens, and its number of processes stands where it says
abbrev pub Derives : List ℕ → List Token → WholeProgram Name → Type 0
Derives text tokens p = (lexemes text tokens ≡ program_tokens p) × (second_span tokens ≡ p.span)
