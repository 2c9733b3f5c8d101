-- What each function of the parser gives: a program is read from the front of a list of tokens, step by step.
-- Proofs show that these definitions read the programs of the grammar.
use Rattle.std.specs.Prelude.{◌≡◌, ℕ, zero, suc, Bool, true, false, List, [], ◌∷◌, ◌++◌, drop, length, Option, Some, None, Result, Ok, Err}
use Rattle.base.specs.declared.span.Span.{Span}
use Rattle.tick_syntax.specs.declared.fault.TextFault.{TextFault}
use Rattle.tick_syntax.specs.declared.fault.TextFault.TheVariants as F
use Rattle.tick_syntax.specs.declared.valued_token.ValuedToken.{ValuedToken}
use Rattle.tick_syntax.specs.declared.valued_token.Ending.{Ending}
use Rattle.tick_syntax.specs.declared.valued_token.Ending.TheVariants as N
use Rattle.tick_syntax.specs.declared.valued_token.Section.{Section}
use Rattle.tick_syntax.specs.declared.valued_token.Section.TheVariants as C
use Rattle.tick_syntax.specs.declared.valued_token.Meaning.{Meaning}
use Rattle.tick_syntax.specs.declared.valued_token.Meaning.TheVariants as M
use Rattle.base.specs.declared.operator.Op.{Op}
use Rattle.tick_syntax.specs.Lexeme.{Lexeme, a_name, a_number, a_terminal}
use Rattle.base.specs.Refusing.{◌>>=◌, FailsBut, GivesBut}
use Rattle.tick_syntax.specs.declared.terminals.Terminal.{Terminal}
use Rattle.tick_syntax.specs.declared.terminals.Terminal.TheVariants as T
use Rattle.base.specs.Plain.{Name, Expression, number, named, me, count, binary, Statement, assign, get, put, stamp, clear, scan, copy, older, held, out, branch, repeat, Block, nil, cons, WholeProgram}

-- what was read and the tokens after it, or a refusal
abbrev pub Reading : Type 0 → Type 0
Reading V = Result (V × List ValuedToken) TextFault

-- whether a refusal is of memory
abbrev pub is_memory : TextFault → Bool
is_memory F.NoMemory = true
is_memory _ = false

-- A function gives what reading gives, seen by view, unless memory was refused. It answers the place at
-- which the tokens go on.
abbrev pub Fails : {V : Type 0} → TextFault → Result V TextFault → Type 0
Fails e reading = FailsBut is_memory e reading

abbrev pub Gives : {X V : Type 0} → (X → V) → List ValuedToken → Result (X × ℕ) TextFault → Reading V → Type 0
Gives view tokens result reading = GivesBut is_memory (λ x. (view x.0, drop x.1 tokens)) result reading

-- The same of a function that takes no memory.
abbrev pub GivesAlways : {X V : Type 0} → (X → V) → List ValuedToken → Result (X × ℕ) TextFault → Reading V → Type 0
GivesAlways view tokens (Ok x) reading = reading ≡ Ok (view x.0, drop x.1 tokens)
GivesAlways view tokens (Err e) reading = reading ≡ Err e

abbrev pub GivesWhole : {X V : Type 0} → (X → V) → Result X TextFault → Result V TextFault → Type 0
GivesWhole view result reading = GivesBut is_memory view result reading

-- The answer is so, unless memory was refused.
abbrev pub IsOkUnlessMemory : {X : Type 0} → (X → Type 0) → Result X TextFault → Type 0
IsOkUnlessMemory P (Ok x) = P x
IsOkUnlessMemory P (Err e) = e ≡ F.NoMemory

unfoldable pub next_at : ℕ → List ValuedToken → Reading ValuedToken
next_at end [] = Err (F.Unexpected (record { start = end; end = end }))
next_at end (i ∷ is) = Ok (i, is)

-- One token.

-- this terminal, of those that a rule has alone
abbrev pub terminal_by : Terminal → Meaning → Span → List ValuedToken → Reading (Unit {0})
terminal_by T.Processes (M.Terminal T.Processes) span rest = Ok (tt, rest)
terminal_by T.Begin (M.Terminal T.Begin) span rest = Ok (tt, rest)
terminal_by T.Else (M.Terminal T.Else) span rest = Ok (tt, rest)
terminal_by T.Semicolon (M.Terminal T.Semicolon) span rest = Ok (tt, rest)
terminal_by T.Becomes (M.Terminal T.Becomes) span rest = Ok (tt, rest)
terminal_by T.Close (M.Terminal T.Close) span rest = Ok (tt, rest)
terminal_by _ _ span rest = Err (F.Unexpected span)

-- `{`, where so many brackets may still be opened
abbrev pub brace_by : Meaning → ℕ → Span → List ValuedToken → Reading (Unit {0})
brace_by (M.Terminal T.OpenBrace) zero span rest = Err (F.TooDeep span)
brace_by (M.Terminal T.OpenBrace) (suc room) span rest = Ok (tt, rest)
brace_by _ room span rest = Err (F.Unexpected span)

abbrev pub operator_by : Meaning → Span → List ValuedToken → Reading Op
operator_by (M.Terminal (T.Operator op)) span rest = Ok (op, rest)
operator_by _ span rest = Err (F.Unexpected span)

abbrev pub name_by : Meaning → Span → List ValuedToken → Reading Name
name_by (M.Name letters) span rest = Ok (record { letters = letters.now; span = span }, rest)
name_by _ span rest = Err (F.Unexpected span)

abbrev pub number_by : Meaning → Span → List ValuedToken → Reading (ℕ × Span)
number_by (M.Number v) span rest = Ok ((v, span), rest)
number_by _ span rest = Err (F.Unexpected span)

abbrev pub ends : Ending → Meaning → Bool
ends N.Program (M.Terminal T.End) = true
ends N.Braces (M.Terminal T.CloseBrace) = true
ends _ _ = false

abbrev pub begins : Section → Meaning → Bool
begins C.Variables (M.Terminal T.Var) = true
begins C.Scans (M.Terminal T.Scan) = true
begins C.Registers (M.Terminal T.Reg) = true
begins _ _ = false

module _ (end : ℕ) where
  unfoldable pub terminal_at : Terminal → List ValuedToken → Reading (Unit {0})
  terminal_at terminal is = next_at end is >>= λ x. terminal_by terminal x.0.meaning x.0.span x.1

  unfoldable pub brace_at : ℕ → List ValuedToken → Reading (Unit {0})
  brace_at room is = next_at end is >>= λ x. brace_by x.0.meaning room x.0.span x.1

  unfoldable pub operator_at : List ValuedToken → Reading Op
  operator_at is = next_at end is >>= λ x. operator_by x.0.meaning x.0.span x.1

  unfoldable pub name_at : List ValuedToken → Reading Name
  name_at is = next_at end is >>= λ x. name_by x.0.meaning x.0.span x.1

  unfoldable pub number_at : List ValuedToken → Reading (ℕ × Span)
  number_at is = next_at end is >>= λ x. number_by x.0.meaning x.0.span x.1

  abbrev pub expression_by : Meaning → Span → List ValuedToken → Reading (Expression Name) → Reading (Expression Name)
  expression_by (M.Number v) span rest brackets = Ok (number v, rest)
  expression_by (M.Name letters) span rest brackets = Ok (named (record { letters = letters.now; span = span }), rest)
  expression_by (M.Terminal T.Me) span rest brackets = Ok (me, rest)
  expression_by (M.Terminal T.Count) span rest brackets = Ok (count, rest)
  expression_by (M.Terminal T.Open) span rest brackets = brackets
  expression_by _ span rest brackets = Err (F.Unexpected span)

  -- two expressions about an operator, and the bracket that closes them
  unfoldable pub pair_at : (List ValuedToken → Reading (Expression Name)) → List ValuedToken → Reading (Expression Name)
  pair_at expression is = do
    a ← expression is
    op ← operator_at a.1
    b ← expression op.1
    c ← terminal_at T.Close b.1
    Ok (binary a.0 op.0 b.0, c.1)

  -- what stands after the bracket at this place, where so many may be opened with it
  unfoldable pub brackets_at : ℕ → Span → List ValuedToken → Reading (Expression Name)
  brackets_at zero span is = Err (F.TooDeep span)
  brackets_at (suc room) span is =
      pair_at (λ js. next_at end js >>= λ x. expression_by x.0.meaning x.0.span x.1 (brackets_at room x.0.span x.1)) is

  -- an expression, where so many brackets may still be opened
  unfoldable pub expression_at : ℕ → List ValuedToken → Reading (Expression Name)
  expression_at room is =
      next_at end is >>= λ x. expression_by x.0.meaning x.0.span x.1 (brackets_at room x.0.span x.1)

  -- an expression and the `;` after it
  unfoldable pub last_at : ℕ → List ValuedToken → Reading (Expression Name)
  last_at room is = do
    e ← expression_at room is
    s ← terminal_at T.Semicolon e.1
    Ok (e.0, s.1)

  -- the `;` after a statement of which all else was read
  unfoldable pub ended_at : Statement Name → List ValuedToken → Reading (Statement Name)
  ended_at s is = do
    e ← terminal_at T.Semicolon is
    Ok (s, e.1)

  -- a name, an expression and the `;`, of which a statement is made
  unfoldable pub named_last_at : (Name → Expression Name → Statement Name) → ℕ → List ValuedToken → Reading (Statement Name)
  named_last_at make room is = do
    x ← name_at is
    e ← last_at room x.1
    Ok (make x.0 e.0, e.1)

  unfoldable pub copy_at : Name → List ValuedToken → Reading (Statement Name)
  copy_at x is = do
    n ← name_at is
    s ← terminal_at T.Semicolon n.1
    Ok (copy x n.0, s.1)

  unfoldable pub older_at : ℕ → Name → List ValuedToken → Reading (Statement Name)
  older_at room x is = do
    s ← name_at is
    a ← expression_at room s.1
    b ← last_at room a.1
    Ok (older x s.0 a.0 b.0, b.1)

  unfoldable pub plain_at : ℕ → Name → List ValuedToken → Reading (Statement Name)
  plain_at room x is = do
    e ← last_at room is
    Ok (assign x e.0, e.1)

  -- the right-hand side from its first token on, which stands before rest
  abbrev pub right_by : Meaning → ℕ → Name → List ValuedToken → List ValuedToken → Reading (Statement Name)
  right_by (M.Terminal T.Get) room x is rest = named_last_at (get x) room rest
  right_by (M.Terminal T.Held) room x is rest = named_last_at (held x) room rest
  right_by (M.Terminal T.Scan) room x is rest = ended_at (scan x) rest
  right_by (M.Terminal T.Copy) room x is rest = copy_at x rest
  right_by (M.Terminal T.Older) room x is rest = older_at room x rest
  right_by _ room x is rest = plain_at room x is

  unfoldable pub right_at : ℕ → Name → List ValuedToken → Reading (Statement Name)
  right_at room x is = next_at end is >>= λ i. right_by i.0.meaning room x is i.1

  -- the rest of a statement that begins with a name
  unfoldable pub assignment_at : ℕ → Name → List ValuedToken → Reading (Statement Name)
  assignment_at room x is = terminal_at T.Becomes is >>= λ b. right_at room x b.1

  unfoldable pub out_at : ℕ → List ValuedToken → Reading (Statement Name)
  out_at room is = do
    e ← last_at room is
    Ok (out e.0, e.1)

  unfoldable pub branch_at : (List ValuedToken → Reading (Block Name)) → ℕ → List ValuedToken → Reading (Statement Name)
  branch_at block room is = do
    e ← expression_at room is
    a ← block e.1
    o ← terminal_at T.Else a.1
    b ← block o.1
    Ok (branch e.0 a.0 b.0, b.1)

  unfoldable pub repeat_at : (List ValuedToken → Reading (Block Name)) → ℕ → List ValuedToken → Reading (Statement Name)
  repeat_at block room is = do
    e ← expression_at room is
    a ← block e.1
    Ok (repeat e.0 a.0, a.1)

  abbrev pub statement_by : Meaning → Span → (List ValuedToken → Reading (Block Name)) → ℕ → List ValuedToken → Reading (Statement Name)
  statement_by (M.Name letters) span block room rest = assignment_at room (record { letters = letters.now; span = span }) rest
  statement_by (M.Terminal T.Put) span block room rest = named_last_at put room rest
  statement_by (M.Terminal T.Stamp) span block room rest = ended_at stamp rest
  statement_by (M.Terminal T.Clear) span block room rest = ended_at clear rest
  statement_by (M.Terminal T.Out) span block room rest = out_at room rest
  statement_by (M.Terminal T.If) span block room rest = branch_at block room rest
  statement_by (M.Terminal T.While) span block room rest = repeat_at block room rest
  statement_by _ span block room rest = Err (F.Unexpected span)

  -- a statement, where block reads one in braces
  unfoldable pub statement_with : (List ValuedToken → Reading (Block Name)) → ℕ → List ValuedToken → Reading (Statement Name)
  statement_with block room is = next_at end is >>= λ x. statement_by x.0.meaning x.0.span block room x.1

  -- the end of a block, or one statement more and then the rest of the block
  abbrev pub block_by : Bool → List ValuedToken → Reading (Statement Name) → (List ValuedToken → Reading (Block Name)) → Reading (Block Name)
  block_by true rest one more = Ok (nil, rest)
  block_by false rest one more = do
    s ← one
    b ← more s.1
    Ok (cons s.0 b.0, b.1)

  -- at most so many statements, and the terminal that ends them
  unfoldable pub statements_with : (List ValuedToken → Reading (Statement Name)) → Ending → ℕ → List ValuedToken → Reading (Block Name)
  statements_with one ending zero is = Err F.NoMemory
  statements_with one ending (suc most) is =
      next_at end is >>= λ x. block_by (ends ending x.0.meaning) x.1 (one is) (statements_with one ending most)

  -- a block in braces, where so many brackets may still be opened
  unfoldable pub block_at : ℕ → List ValuedToken → Reading (Block Name)
  block_at zero is = brace_at zero is >>= λ x. Ok (nil, x.1)
  block_at (suc room) is =
      brace_at (suc room) is
      >>= λ x. statements_with (statement_with (block_at room) room) N.Braces (suc (length x.1)) x.1

  unfoldable pub statement_at : ℕ → List ValuedToken → Reading (Statement Name)
  statement_at room is = statement_with (block_at room) room is

  unfoldable pub statements_at : ℕ → Ending → List ValuedToken → Reading (Block Name)
  statements_at room ending is = statements_with (statement_at room) ending (suc (length is)) is

  -- one name more, or the end of a list of names
  abbrev pub names_by : Meaning → Span → List ValuedToken → Name → Reading (List Name) → Reading (List Name)
  names_by (M.Terminal T.Comma) span rest x more = more >>= λ xs. Ok (x ∷ xs.0, xs.1)
  names_by (M.Terminal T.Semicolon) span rest x more = Ok (x ∷ [], rest)
  names_by _ span rest x more = Err (F.Unexpected span)

  -- names with a comma between two, and the `;` after them
  unfoldable pub names_at : List ValuedToken → Reading (List Name)
  names_at [] = next_at end [] >>= λ x. Ok ([], x.1)
  names_at (i ∷ []) = name_by i.meaning i.span [] >>= λ x. next_at end [] >>= λ y. Ok ([], y.1)
  names_at (i ∷ j ∷ is) = name_by i.meaning i.span is >>= λ x. names_by j.meaning j.span is x.0 (names_at is)

  abbrev pub section_by : Bool → List ValuedToken → List ValuedToken → Reading (List Name)
  section_by true is rest = names_at rest
  section_by false is rest = Ok ([], is)

  unfoldable pub section_at : Section → List ValuedToken → Reading (List Name)
  section_at section is = next_at end is >>= λ x. section_by (begins section x.0.meaning) is x.1

  abbrev pub nothing_after : {V : Type 0} → V → List ValuedToken → Result V TextFault
  nothing_after v [] = Ok v
  nothing_after v (i ∷ is) = Err (F.Unexpected i.span)

  -- the body of the program
  unfoldable pub body_at : ℕ → List ValuedToken → Reading (Block Name)
  body_at room is = terminal_at T.Begin is >>= λ b. statements_at room N.Program b.1

  -- the sections and the body of a program, whose number of processes stands at a place
  unfoldable pub sections_at : ℕ → ℕ × Span → List ValuedToken → Reading (WholeProgram Name)
  sections_at room processes is = do
    variables ← section_at C.Variables is
    scans ← section_at C.Scans variables.1
    registers ← section_at C.Registers scans.1
    body ← body_at room registers.1
    Ok (
      record {
        processes = processes.0;
        span = processes.1;
        variables = variables.0;
        scans = scans.0;
        registers = registers.0;
        body = body.0;
      },
      body.1,
    )

  -- a program after its first word
  unfoldable pub headed_at : ℕ → List ValuedToken → Reading (WholeProgram Name)
  headed_at room is = do
    n ← number_at is
    s ← terminal_at T.Semicolon n.1
    sections_at room n.0 s.1

  -- a program, where so many brackets may be open at once
  unfoldable pub whole_at : ℕ → List ValuedToken → Reading (WholeProgram Name)
  whole_at room is = terminal_at T.Processes is >>= λ p. headed_at room p.1

  -- a program and nothing after it
  unfoldable pub program_at : ℕ → List ValuedToken → Result (WholeProgram Name) TextFault
  program_at room is = whole_at room is >>= λ x. nothing_after x.0 x.1

-- What may still come, as symbols: those that stand in the place of an expression, of the right-hand side of an
-- assignment or of a statement once its first token was read. Proofs tie the reader to them.
pub data Symbol : Type 0 where
  s_program : Symbol
  s_number : Symbol
  s_semicolon : Symbol
  s_variables : Symbol
  s_scans : Symbol
  s_registers : Symbol
  s_begin : Symbol
  s_names : Symbol
  s_more : Symbol
  s_name : Symbol
  s_becomes : Symbol
  s_else : Symbol
  s_close : Symbol
  s_operator : Symbol
  s_expression : Symbol
  s_right : Symbol
  s_block : Symbol
  s_statement : Symbol
  s_until : Ending → Symbol

abbrev pub after : Option (List Symbol) → Symbol → Option (List Symbol)
after None s = None
after (Some ss) s = Some (ss ++ s ∷ [])

abbrev pub expression_step : Lexeme → Option (List Symbol)
expression_step (a_number v) = Some []
expression_step (a_name x) = Some []
expression_step (a_terminal T.Me) = Some []
expression_step (a_terminal T.Count) = Some []
expression_step (a_terminal T.Open) = Some (s_expression ∷ s_operator ∷ s_expression ∷ s_close ∷ [])
expression_step _ = None

abbrev pub right_step : Lexeme → Option (List Symbol)
right_step (a_terminal T.Get) = Some (s_name ∷ s_expression ∷ s_semicolon ∷ [])
right_step (a_terminal T.Scan) = Some (s_semicolon ∷ [])
right_step (a_terminal T.Copy) = Some (s_name ∷ s_semicolon ∷ [])
right_step (a_terminal T.Older) = Some (s_name ∷ s_expression ∷ s_expression ∷ s_semicolon ∷ [])
right_step (a_terminal T.Held) = Some (s_name ∷ s_expression ∷ s_semicolon ∷ [])
right_step x = after (expression_step x) s_semicolon

abbrev pub statement_step : Lexeme → Option (List Symbol)
statement_step (a_name x) = Some (s_becomes ∷ s_right ∷ [])
statement_step (a_terminal T.Put) = Some (s_name ∷ s_expression ∷ s_semicolon ∷ [])
statement_step (a_terminal T.Stamp) = Some (s_semicolon ∷ [])
statement_step (a_terminal T.Clear) = Some (s_semicolon ∷ [])
statement_step (a_terminal T.Out) = Some (s_expression ∷ s_semicolon ∷ [])
statement_step (a_terminal T.If) = Some (s_expression ∷ s_block ∷ s_else ∷ s_block ∷ [])
statement_step (a_terminal T.While) = Some (s_expression ∷ s_block ∷ [])
statement_step _ = None
