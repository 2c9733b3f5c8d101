-- The code that a program is compiled to.
use Rattle.std.specs.Prelude.{ℕ, ◌+◌, List, [], ◌∷◌, ◌++◌, length}
use Rattle.code_core.specs.declared.instr.Instr.{Instr}
use Rattle.code_core.specs.declared.instr.Instr.TheVariants as I
use Rattle.code_core.specs.Instructions.{CodeSizes, sizes}
use Rattle.base.specs.Plain.{Expression, number, named, me, count, binary, Statement, assign, get, put, stamp, clear, scan, copy, older, held, out, branch, repeat, Block, nil, cons, WholeProgram}

-- How many instructions an expression, a statement or a block becomes.
abbrev pub expression_length : Expression ℕ → ℕ
expression_length (number v) = 1
expression_length (named x) = 1
expression_length me = 1
expression_length count = 1
expression_length (binary a op b) = expression_length a + expression_length b + 1

abbrev mutual
  pub statement_length : Statement ℕ → ℕ
  statement_length (assign x e) = expression_length e + 1
  statement_length (get x r e) = expression_length e + 1
  statement_length (put r e) = expression_length e + 1
  statement_length stamp = 3
  statement_length clear = 1
  statement_length (scan s) = 1
  statement_length (copy t s) = 1
  statement_length (older x s e f) = expression_length e + expression_length f + 1
  statement_length (held x s e) = expression_length e + 1
  statement_length (out e) = expression_length e + 1
  statement_length (branch e a b) = expression_length e + block_length a + block_length b + 2
  statement_length (repeat e a) = expression_length e + block_length a + 2

  pub block_length : Block ℕ → ℕ
  block_length nil = 0
  block_length (cons s b) = statement_length s + block_length b

-- The instructions of an expression leave its value on the stack.
abbrev pub expression_code : Expression ℕ → List Instr
expression_code (number v) = I.Push v ∷ []
expression_code (named x) = I.Load x ∷ []
expression_code me = I.Me ∷ []
expression_code count = I.Count ∷ []
expression_code (binary a op b) = expression_code a ++ (expression_code b ++ I.Bin op ∷ [])

-- The instructions of a statement that stand at place `k` of the code, and of a block.
abbrev mutual
  pub statement_code : ℕ → Statement ℕ → List Instr
  statement_code k (assign x e) = expression_code e ++ I.Store x ∷ []
  statement_code k (get x r e) = expression_code e ++ I.Get r x ∷ []
  statement_code k (put r e) = expression_code e ++ I.Put r ∷ []
  statement_code k stamp = I.LoadWord ∷ I.Next ∷ I.Exchange k ∷ []
  statement_code k clear = I.Clear ∷ []
  statement_code k (scan s) = I.Scan s ∷ []
  statement_code k (copy t s) = I.Copy s t ∷ []
  statement_code k (older x s e f) = expression_code e ++ (expression_code f ++ I.Older s x ∷ [])
  statement_code k (held x s e) = expression_code e ++ I.Held s x ∷ []
  statement_code k (out e) = expression_code e ++ I.Out ∷ []
  statement_code k (branch e a b) =
      let first = k + expression_length e + 1 in
      let second = first + block_length a + 1 in
      expression_code e ++ I.JumpZero second ∷ (block_code first a ++ I.Jump (second + block_length b) ∷ block_code second b)
  statement_code k (repeat e a) =
      let first = k + expression_length e + 1 in
      expression_code e ++ I.JumpZero (first + block_length a + 1) ∷ (block_code first a ++ I.Jump k ∷ [])

  pub block_code : ℕ → Block ℕ → List Instr
  block_code k nil = []
  block_code k (cons s b) = statement_code k s ++ block_code (k + statement_length s) b

-- The code of a program ends the process after its body.
abbrev pub lowered : WholeProgram ℕ → List Instr
lowered p = block_code 0 p.body ++ I.Halt ∷ []

abbrev pub lowered_length : WholeProgram ℕ → ℕ
lowered_length p = block_length p.body + 1

abbrev pub lowered_sizes : WholeProgram ℕ → CodeSizes
lowered_sizes p = sizes p.processes (length p.variables) (length p.scans) (length p.registers)
