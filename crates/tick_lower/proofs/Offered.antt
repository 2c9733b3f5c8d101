-- What the crates above may cite: how long codes are, and which instructions stand at the places of a
-- code; and small programs as examples.
use Rattle.std.proofs.Common.{◌≡◌, ℕ, suc, ◌+◌, List, [], ◌∷◌, ◌++◌, refl, ap, ◌∙◌, subst, length, arith, Some}
use Rattle.std.specs.Prelude.{slice_get}
use Rattle.std.proofs.lemmas.List.{length-append, append_assoc}
use Rattle.code_core.specs.declared.instr.Instr.{Instr}
use Rattle.code_core.specs.declared.instr.Instr.TheVariants as I
use Rattle.base.specs.Plain.{Expression, number, named, me, count, binary, Statement, assign, get, put, stamp, clear, scan, copy, older, held, out, branch, repeat, Block, nil, cons, WholeProgram}
pub use Rattle.tick_lower.proofs.Examples.{program, stamps_and_compares, gives_up, counts_to_two}
use Rattle.tick_lower.specs.Lowered.{expression_length, statement_length, block_length, expression_code, statement_code, block_code, lowered, lowered_length}

pub expression_long : (e : Expression ℕ) → length (expression_code e) ≡ expression_length e
expression_long (number v) = refl
expression_long (named x) = refl
expression_long me = refl
expression_long count = refl
expression_long (binary a op b) =
    omega (arith, length-append (expression_code a) (expression_code b ++ I.Bin op ∷ []), length-append (expression_code b) (I.Bin op ∷ []), expression_long a, expression_long b)

-- an expression and one instruction more
then_long : (e : Expression ℕ) (i : Instr) → length (expression_code e ++ i ∷ []) ≡ expression_length e + 1
then_long e i = omega (arith, length-append (expression_code e) (i ∷ []), expression_long e)

mutual
  pub statement_long : (s : Statement ℕ) (k : ℕ) → length (statement_code k s) ≡ statement_length s
  statement_long (assign x e) k = then_long e (I.Store x)
  statement_long (get x r e) k = then_long e (I.Get r x)
  statement_long (put r e) k = then_long e (I.Put r)
  statement_long stamp k = refl
  statement_long clear k = refl
  statement_long (scan s) k = refl
  statement_long (copy t s) k = refl
  statement_long (older x s e f) k = omega (arith, length-append (expression_code e) (expression_code f ++ I.Older s x ∷ []), expression_long e, then_long f (I.Older s x))
  statement_long (held x s e) k = then_long e (I.Held s x)
  statement_long (out e) k = then_long e I.Out
  statement_long (branch e a b) k =
      let first : ℕ = k + expression_length e + 1 in
      let second : ℕ = first + block_length a + 1 in
      let jump : Instr = I.Jump (second + block_length b) in
      omega (
        arith,
        length-append (expression_code e) (I.JumpZero second ∷ (block_code first a ++ jump ∷ block_code second b)),
        length-append (block_code first a) (jump ∷ block_code second b),
        expression_long e,
        block_long a first,
        block_long b second,
      )
  statement_long (repeat e a) k =
      let first : ℕ = k + expression_length e + 1 in
      omega (
        arith,
        length-append (expression_code e) (I.JumpZero (first + block_length a + 1) ∷ (block_code first a ++ I.Jump k ∷ [])),
        length-append (block_code first a) (I.Jump k ∷ []),
        expression_long e,
        block_long a first,
      )

  pub block_long : (b : Block ℕ) (k : ℕ) → length (block_code k b) ≡ block_length b
  block_long nil k = refl
  block_long (cons s b) k = omega (arith, length-append (statement_code k s) (block_code (k + statement_length s) b), statement_long s k, block_long b (k + statement_length s))

pub lowered_long : (p : WholeProgram ℕ) → length (lowered p) ≡ lowered_length p
lowered_long p = omega (arith, length-append (block_code 0 p.body) (I.Halt ∷ []), block_long p.body 0)

-- These instructions stand in the code from place `k` on.
abbrev pub HasAt : List Instr → ℕ → List Instr → Type 0
HasAt code k [] = Unit {0}
HasAt code k (i ∷ is) = (slice_get code k ≡ Some i) × HasAt code (k + 1) is

pub has_front : (code : List Instr) (k : ℕ) (a b : List Instr) → HasAt code k (a ++ b) → HasAt code k a
has_front code k [] b has = tt
has_front code k (i ∷ a) b has = (has.0, has_front code (k + 1) a b has.1)

pub has_back : (code : List Instr) (k q : ℕ) (a b : List Instr) → k + length a ≡ q → HasAt code k (a ++ b) → HasAt code q b
has_back code k q [] b at has = let same : k ≡ q = omega arith in subst (λ x. HasAt code x b) same has
has_back code k q (i ∷ a) b at has = has_back code (k + 1) q a b (omega arith) has.1

pub has_join : (code : List Instr) (k q : ℕ) (a b : List Instr) → k + length a ≡ q → HasAt code k a → HasAt code q b → HasAt code k (a ++ b)
has_join code k q [] b at has more = let same : q ≡ k = omega arith in subst (λ x. HasAt code x b) same more
has_join code k q (i ∷ a) b at has more = (has.0, has_join code (k + 1) q a b (omega arith) has.1 more)

get_past : (xs ys : List Instr) (k : ℕ) → slice_get (xs ++ ys) (length xs + k) ≡ slice_get ys k
get_past [] ys k = let same : 0 + k ≡ k = omega arith in ap (slice_get ys) same
get_past (x ∷ xs) ys k = let same : suc (length xs) + k ≡ suc (length xs + k) = omega arith in ap (slice_get (x ∷ xs ++ ys)) same ∙ get_past xs ys k

-- a list of instructions stands in itself, after any others
has_after : (before is : List Instr) → HasAt (before ++ is) (length before) is
has_after before [] = tt
has_after before (i ∷ is) =
    let here : length before ≡ length before + 0 = omega arith in (
      ap (slice_get (before ++ i ∷ is)) here ∙ get_past before (i ∷ is) 0,
      subst (λ q. HasAt (before ++ i ∷ is) q is) (length-append before (i ∷ []))
          (subst (λ code. HasAt code (length (before ++ i ∷ [])) is) (append_assoc before (i ∷ []) is) (has_after (before ++ i ∷ []) is)),
    )

pub has_all : (code : List Instr) → HasAt code 0 code
has_all code = has_after [] code

-- the body of a program stands at the front of its code, and the end of the process after it
pub lowered_body : (p : WholeProgram ℕ) → HasAt (lowered p) 0 (block_code 0 p.body)
lowered_body p = has_front (lowered p) 0 (block_code 0 p.body) (I.Halt ∷ []) (has_all (lowered p))

pub lowered_halt : (p : WholeProgram ℕ) → slice_get (lowered p) (block_length p.body) ≡ Some I.Halt
lowered_halt p =
    (has_back (lowered p) 0 (block_length p.body) (block_code 0 p.body) (I.Halt ∷ []) (omega (arith, block_long p.body 0)) (has_all (lowered p))).0
