-- The code of a program is fine at each place.
--
-- The idea. Whether a code has a fault depends on the height of the stack at each place, and `placed` finds that
-- by going through the whole code and remembering what each jump leaves. The code of a program is simpler: every
-- jump leaves the stack empty, and goes to a place where it is empty. So the height of a place follows from the
-- instruction before it alone (`paired`, `Along`), and only facts of single places are left to show: that operands
-- are there, that slots exist, that stamps are whole, that jumps go where they may. `Fine.antt` has the record of
-- these facts, and that a code which is fine at each place has no fault.
--
-- First the heights: an expression leaves one value more, a statement and a block leave what there was
-- (`expression_height`, `statement_height`, `block_height`), by induction on the tree.
--
-- Then the facts, by the same induction. `Stands k h is` says that the instructions `is` stand in the code from
-- place `k` on, with heights from `h` on; `AreFine k h is` says that each of them is fine there. Where a list
-- stands, its front and its back do (`along_front`, `along_back`); a list is fine where its front is and its back,
-- at the height that the front leaves (`along_join`).
--
-- Jumps are what keeps this from being local. A branch jumps to its second block and past its end, a loop past its
-- end and back to its own beginning. So a place to which jumps may go is a record of its own (`Starts`): its
-- height is 0, and it is not the second or third place of a stamp. Where a statement begins there is such a place
-- (`statement_starts`, `block_starts`); that there is one after it is a premise (`Starts all q`), which is handed
-- down the tree. And that is why the whole code has to stand before any part is shown fine: a jump speaks of a
-- place that another part fills.
--
-- The whole code stands in itself (`paired_stand`), and after its body comes `Halt`, a place to which jumps may
-- go. There the induction begins (`body_verified`).
use Rattle.std.proofs.Common.{◌≡◌, ℕ, append_assoc, ◌+◌, ◌<◌, ◌≤◌, true, false, not, List, [], ◌∷◌, ◌++◌, refl, ap, ◌∙◌, sym, subst, length, arith, Some, None, add-one}
use Rattle.std.specs.Prelude.{◌==◌, ◌&&◌, ◌||◌, slice_get}
use Rattle.std.proofs.lemmas.Bool.{lt-ltb, eq-eqb, ne_eqb, and_from, and_right}
use Rattle.std.proofs.lemmas.List.{length-append, length-map}
use Rattle.std.proofs.lemmas.Option.{same_Some, none-some}
use Rattle.code_core.specs.declared.instr.Instr.{Instr}
use Rattle.code_core.specs.declared.instr.Instr.TheVariants as I
use Rattle.code_core.specs.Instructions.{CodeSizes, pops, left, target, goes_on, fits}
use Rattle.code_core.specs.Heights.{Placed, placed}
use Rattle.code_core.specs.Verified.{is_load, is_next, is_exchange, before, bad_stamp, IsVerified}
use Rattle.code_core.proofs.Offered.{get_seam}
use Rattle.tick_kinds.specs.Declarations.{declarations, slot_in}
use Rattle.tick_kinds.specs.Resolution.{resolved, slot_number}
use Rattle.tick_kinds.specs.Within.{IsExpressionWithin, IsStatementWithin, IsWithin}
use Rattle.base.specs.Plain.{Name, Expression, number, named, me, count, binary, Statement, assign, get, put, stamp, clear, scan, copy, older, held, out, branch, repeat, Block, nil, cons, WholeProgram}
use Rattle.tick_lower.specs.Lowered.{expression_length, statement_length, block_length, expression_code, statement_code, block_code, lowered, lowered_length, lowered_sizes}
use Rattle.tick_lower.specs.prover.Paired.{after, paired}
use Rattle.tick_lower.proofs.Along.{height_after, height_after-append, Along, along_as, along_front, along_back, along_join}
use Rattle.tick_lower.proofs.Fine.{Starts, Fine, Inside, paired_get, fine_verified}
use Rattle.tick_lower.proofs.Offered.{expression_long, statement_long, block_long}

-- An expression leaves one value more, a statement and a block leave what there was.
expression_height : (e : Expression ℕ) (h : ℕ) → height_after h (expression_code e) ≡ h + 1
expression_height (number v) h = omega arith
expression_height (named x) h = omega arith
expression_height me h = omega arith
expression_height count h = omega arith
expression_height (binary a op b) h =
    height_after-append (expression_code a) (expression_code b ++ I.Bin op ∷ []) h
    ∙ ap (λ g. height_after g (expression_code b ++ I.Bin op ∷ [])) (expression_height a h)
    ∙ height_after-append (expression_code b) (I.Bin op ∷ []) (h + 1)
    ∙ ap (λ g. height_after g (I.Bin op ∷ [])) (expression_height b (h + 1))
    ∙ omega arith

-- an expression from an empty stack, and what follows
follows : (e : Expression ℕ) (is : List Instr) → height_after 0 (expression_code e ++ is) ≡ height_after 1 is
follows e is = height_after-append (expression_code e) is 0 ∙ ap (λ g. height_after g is) (expression_height e 0)

mutual
  statement_height : (s : Statement ℕ) (k : ℕ) → height_after 0 (statement_code k s) ≡ 0
  statement_height (assign x e) k = follows e (I.Store x ∷ [])
  statement_height (get x r e) k = follows e (I.Get r x ∷ [])
  statement_height (put r e) k = follows e (I.Put r ∷ [])
  statement_height stamp k = refl
  statement_height clear k = refl
  statement_height (scan s) k = refl
  statement_height (copy t s) k = refl
  statement_height (older x s e f) k =
      follows e (expression_code f ++ I.Older s x ∷ [])
      ∙ height_after-append (expression_code f) (I.Older s x ∷ []) 1 ∙ ap (λ g. height_after g (I.Older s x ∷ []))
      (expression_height f 1)
  statement_height (held x s e) k = follows e (I.Held s x ∷ [])
  statement_height (out e) k = follows e (I.Out ∷ [])
  statement_height (branch e a b) k =
      let first : ℕ = k + expression_length e + 1 in
      let second : ℕ = first + block_length a + 1 in
      let jump : Instr = I.Jump (second + block_length b) in
      follows e (I.JumpZero second ∷ (block_code first a ++ jump ∷ block_code second b))
      ∙ height_after-append (block_code first a) (jump ∷ block_code second b) 0
      ∙ block_height b second
  statement_height (repeat e a) k =
      let first : ℕ = k + expression_length e + 1 in
      follows e (I.JumpZero (first + block_length a + 1) ∷ (block_code first a ++ I.Jump k ∷ []))
      ∙ height_after-append (block_code first a) (I.Jump k ∷ []) 0

  block_height : (b : Block ℕ) (k : ℕ) → height_after 0 (block_code k b) ≡ 0
  block_height nil k = refl
  block_height (cons s b) k =
      let next : ℕ = k + statement_length s in
      height_after-append (statement_code k s) (block_code next b) 0
      ∙ ap (λ g. height_after g (block_code next b)) (statement_height s k) ∙ block_height b next

module _ (z : CodeSizes) (code : List Instr) where
  abbrev all : List Placed
  all = paired 0 code

  -- these instructions stand in the code, with these heights
  abbrev Stands : ℕ → ℕ → List Instr → Type 0
  Stands = Along (λ k h i. slice_get all k ≡ Some (i, h))

  abbrev IsFine : ℕ → ℕ → Instr → Type 0
  IsFine = Fine z code all

  abbrev AreFine : ℕ → ℕ → List Instr → Type 0
  AreFine = Along IsFine

  code_get : (k h : ℕ) (i : Instr) → slice_get all k ≡ Some (i, h) → slice_get code k ≡ Some i
  code_get k h i at = paired_get code 0 k i h at

  -- An instruction that neither jumps nor is part of a stamp.
  plain : (k h : ℕ) (i : Instr) → target i ≡ None → bad_stamp code k i ≡ false → fits z i ≡ true → pops i ≤ h
      → IsFine k h i
  plain k h i nowhere apart slots enough =
      record { slots = slots; enough = enough; stamp = apart; jumps = λ l to. absurd (none-some l (sym nowhere ∙ to)) }

  -- One that jumps, and leaves an empty stack to where it may.
  jump_fine : (k h : ℕ) (i : Instr) (l : ℕ) → Starts all l → target i ≡ Some l → left i h ≡ 0
      → bad_stamp code k i ≡ (is_next (slice_get code l) || is_exchange (slice_get code l)) → fits z i ≡ true
      → pops i ≤ h → IsFine k h i
  jump_fine k h i l start to empty looks slots enough = record {
    slots = slots;
    enough = enough;
    stamp = looks ∙ ap (λ o. is_next o || is_exchange o) (code_get l 0 start.instr start.at) ∙ start.apart;
    jumps = λ q there. (empty, subst (Starts all) (same_Some l q (sym to ∙ there)) start);
  }

  stamp_fine : (k : ℕ) → Stands k 0 (statement_code k stamp) → AreFine k 0 (statement_code k stamp)
  stamp_fine k stands =
      let load : slice_get code k ≡ Some I.LoadWord = code_get k 0 I.LoadWord stands.0 in
      let next : slice_get code (k + 1) ≡ Some I.Next = code_get (k + 1) 0 I.Next stands.1.0 in
      let exchange : slice_get code (k + 1 + 1) ≡ Some (I.Exchange k) =
      code_get (k + 1 + 1) 0 (I.Exchange k) stands.1.1.0 in
      let load_before : before code (k + 1) ≡ Some I.LoadWord = ap (before code) (add-one k) ∙ load in
      let next_before : before code (k + 1 + 1) ≡ Some I.Next = ap (before code) (add-one (k + 1)) ∙ next in
      let goes_back : (k + 2 == k + 1 + 1) ≡ true = eq-eqb (k + 2) (k + 1 + 1) (omega arith) in
      let load_fine : IsFine k 0 I.LoadWord = plain k 0 I.LoadWord refl (ap (λ o. not (is_next o)) next) refl
      (omega arith) in
      let next_fine : IsFine (k + 1) 0 I.Next =
      plain (k + 1) 0 I.Next refl
      (ap (λ o. not (is_load o && is_exchange (slice_get code (k + 1 + 1)))) load_before
      ∙ ap (λ o. not (is_exchange o)) exchange) refl (omega arith) in
      let exchange_fine : IsFine (k + 1 + 1) 0 (I.Exchange k) =
      plain (k + 1 + 1) 0 (I.Exchange k) refl
      (ap (λ o. not (is_next o && (k + 2 == k + 1 + 1))) next_before ∙ ap not goes_back) refl (omega arith) in
      (load_fine, (next_fine, (exchange_fine, tt)))

  expression_fine : (e : Expression ℕ) (k h : ℕ) → IsExpressionWithin z.variables z.scans z.rows e
      → AreFine k h (expression_code e)
  expression_fine (number v) k h within = (plain k h (I.Push v) refl refl refl (omega arith), tt)
  expression_fine (named x) k h within =
      (plain k h (I.Load x) refl refl (lt-ltb x z.variables within) (omega arith), tt)
  expression_fine me k h within = (plain k h I.Me refl refl refl (omega arith), tt)
  expression_fine count k h within = (plain k h I.Count refl refl refl (omega arith), tt)
  expression_fine (binary a op b) k h within =
      let second : ℕ = k + length (expression_code a) in
      along_join IsFine k second h (h + 1) (expression_code a) (expression_code b ++ I.Bin op ∷ []) refl
      (expression_height a h) (expression_fine a k h within.0)
      (along_join IsFine second (second + length (expression_code b)) (h + 1) (h + 1 + 1) (expression_code b)
      (I.Bin op ∷ []) refl (expression_height b (h + 1)) (expression_fine b second (h + 1) within.1)
      (plain _ (h + 1 + 1) (I.Bin op) refl refl refl (omega arith), tt))

  -- an expression from an empty stack, then one that is fine over its value
  then_fine : (e : Expression ℕ) (k : ℕ) (is : List Instr) → IsExpressionWithin z.variables z.scans z.rows e
      → AreFine (k + expression_length e) 1 is → AreFine k 0 (expression_code e ++ is)
  then_fine e k is within fine =
      along_join IsFine k (k + expression_length e) 0 1 (expression_code e) is (omega (arith, expression_long e))
      (expression_height e 0) (expression_fine e k 0 within) fine

  after_expression : (e : Expression ℕ) (k : ℕ) (is : List Instr) → Stands k 0 (expression_code e ++ is)
      → Stands (k + expression_length e) 1 is
  after_expression e k is stands =
      along_back (λ k h i. slice_get all k ≡ Some (i, h)) k (k + expression_length e) 0 1 (expression_code e) is
      (omega (arith, expression_long e)) (expression_height e 0) stands

  expression_front : (e : Expression ℕ) (k : ℕ) (is : List Instr) → Stands k 0 (expression_code e ++ is)
      → Stands k 0 (expression_code e)
  expression_front e k is stands = along_front (λ k h i. slice_get all k ≡ Some (i, h)) k 0
      (expression_code e) is stands

  expression_starts : (e : Expression ℕ) (k : ℕ) → Stands k 0 (expression_code e) → Starts all k
  expression_starts (number v) k stands = record { instr = I.Push v; at = stands.0; apart = refl }
  expression_starts (named x) k stands = record { instr = I.Load x; at = stands.0; apart = refl }
  expression_starts me k stands = record { instr = I.Me; at = stands.0; apart = refl }
  expression_starts count k stands = record { instr = I.Count; at = stands.0; apart = refl }
  expression_starts (binary a op b) k stands =
      expression_starts a k (expression_front a k (expression_code b ++ I.Bin op ∷ []) stands)

  from_expression : (e : Expression ℕ) (k : ℕ) (is : List Instr) → Stands k 0 (expression_code e ++ is) → Starts all k
  from_expression e k is stands = expression_starts e k (expression_front e k is stands)

  statement_starts : (s : Statement ℕ) (k : ℕ) → Stands k 0 (statement_code k s) → Starts all k
  statement_starts (assign x e) k stands = from_expression e k (I.Store x ∷ []) stands
  statement_starts (get x r e) k stands = from_expression e k (I.Get r x ∷ []) stands
  statement_starts (put r e) k stands = from_expression e k (I.Put r ∷ []) stands
  statement_starts stamp k stands = record { instr = I.LoadWord; at = stands.0; apart = refl }
  statement_starts clear k stands = record { instr = I.Clear; at = stands.0; apart = refl }
  statement_starts (scan s) k stands = record { instr = I.Scan s; at = stands.0; apart = refl }
  statement_starts (copy t s) k stands = record { instr = I.Copy s t; at = stands.0; apart = refl }
  statement_starts (older x s e f) k stands = from_expression e k (expression_code f ++ I.Older s x ∷ []) stands
  statement_starts (held x s e) k stands = from_expression e k (I.Held s x ∷ []) stands
  statement_starts (out e) k stands = from_expression e k (I.Out ∷ []) stands
  statement_starts (branch e a b) k stands = from_expression e k _ stands
  statement_starts (repeat e a) k stands = from_expression e k _ stands

  block_starts : (b : Block ℕ) (k q : ℕ) → k + block_length b ≡ q → Stands k 0 (block_code k b) → Starts all q
      → Starts all k
  block_starts nil k q ends stands start = let same : q ≡ k = omega arith in subst (Starts all) same start
  block_starts (cons s b) k q ends stands start =
      statement_starts s k (along_front (λ k h i. slice_get all k ≡ Some (i, h)) k 0 (statement_code k s)
      (block_code (k + statement_length s) b) stands)

  mutual
    -- where the instructions of a statement stand, and the place after it is one to which jumps may go
    statement_fine : (s : Statement ℕ) (k q : ℕ) → k + statement_length s ≡ q
        → IsStatementWithin z.variables z.scans z.rows s
        → Stands k 0 (statement_code k s) → Starts all q → AreFine k 0 (statement_code k s)
    statement_fine (assign x e) k q ends within stands start =
        then_fine e k (I.Store x ∷ []) within.1
        (plain _ 1 (I.Store x) refl refl (lt-ltb x z.variables within.0) (omega arith), tt)
    statement_fine (get x r e) k q ends within stands start =
        then_fine e k (I.Get r x ∷ []) within.2 (
          plain _ 1 (I.Get r x) refl refl (and_from _ _ (lt-ltb r z.rows within.1) (lt-ltb x z.variables within.0))
              (omega arith),
          tt,
        )
    statement_fine (put r e) k q ends within stands start =
        then_fine e k (I.Put r ∷ []) within.1
        (plain _ 1 (I.Put r) refl refl (lt-ltb r z.rows within.0) (omega arith), tt)
    statement_fine stamp k q ends within stands start = stamp_fine k stands
    statement_fine clear k q ends within stands start = (plain k 0 I.Clear refl refl refl (omega arith), tt)
    statement_fine (scan s) k q ends within stands start =
        (plain k 0 (I.Scan s) refl refl (lt-ltb s z.scans within) (omega arith), tt)
    statement_fine (copy t s) k q ends within stands start = (
      plain k 0 (I.Copy s t) refl refl (and_from _ _ (lt-ltb s z.scans within.1) (lt-ltb t z.scans within.0))
          (omega arith),
      tt,
    )
    statement_fine (older x s e f) k q ends within stands start =
        let second : ℕ = k + expression_length e in
        then_fine e k (expression_code f ++ I.Older s x ∷ []) within.2
        (along_join IsFine second (second + length (expression_code f)) 1 2 (expression_code f) (I.Older s x ∷ []) refl
        (expression_height f 1) (expression_fine f second 1 within.3) (
          plain _ 2 (I.Older s x) refl refl (and_from _ _ (lt-ltb s z.scans within.1) (lt-ltb x z.variables within.0))
              (omega arith),
          tt,
        ))
    statement_fine (held x s e) k q ends within stands start =
        then_fine e k (I.Held s x ∷ []) within.2 (
          plain _ 1 (I.Held s x) refl refl (and_from _ _ (lt-ltb s z.scans within.1) (lt-ltb x z.variables within.0))
              (omega arith),
          tt,
        )
    statement_fine (out e) k q ends within stands start =
        then_fine e k (I.Out ∷ []) within (plain _ 1 I.Out refl refl refl (omega arith), tt)
    statement_fine (branch e a b) k q ends within stands start =
        let first : ℕ = k + expression_length e + 1 in
        let first_end : ℕ = first + block_length a in
        let second : ℕ = first_end + 1 in
        let second_end : ℕ = second + block_length b in
        let jump : Instr = I.Jump second_end in
        let tested : Stands (k + expression_length e) 1
        (I.JumpZero second ∷ (block_code first a ++ jump ∷ block_code second b)) =
        after_expression e k (I.JumpZero second ∷ (block_code first a ++ jump ∷ block_code second b)) stands in
        let long : first + length (block_code first a) ≡ first_end = ap (λ n. first + n) (block_long a first) in
        let later : Stands first_end 0 (jump ∷ block_code second b) =
        along_back (λ k h i. slice_get all k ≡ Some (i, h)) first first_end 0 0 (block_code first a)
        (jump ∷ block_code second b) long (block_height a first) tested.1 in
        let same : q ≡ second_end = omega arith in
        let past : Starts all second_end = subst (Starts all) same start in
        let jump_start : Starts all first_end = record { instr = jump; at = later.0; apart = refl } in
        let second_start : Starts all second = block_starts b second second_end refl later.1 past in
        let first_fine : AreFine first 0 (block_code first a) =
        block_fine a first first_end refl within.1
        (along_front (λ k h i. slice_get all k ≡ Some (i, h)) first 0 (block_code first a)
        (jump ∷ block_code second b) tested.1) jump_start in
        let second_fine : AreFine second 0 (block_code second b) =
        block_fine b second second_end refl within.2 later.1 past in
        then_fine e k (I.JumpZero second ∷ (block_code first a ++ jump ∷ block_code second b)) within.0 (
          jump_fine (k + expression_length e) 1 (I.JumpZero second) second second_start refl refl refl refl
              (omega arith),
          along_join IsFine first first_end 0 0 (block_code first a) (jump ∷ block_code second b) long
              (block_height a first) first_fine
              (jump_fine first_end 0 jump second_end past refl refl refl refl (omega arith), second_fine),
        )
    statement_fine (repeat e a) k q ends within stands start =
        let first : ℕ = k + expression_length e + 1 in
        let first_end : ℕ = first + block_length a in
        let tested : Stands (k + expression_length e) 1
        (I.JumpZero (first_end + 1) ∷ (block_code first a ++ I.Jump k ∷ [])) =
        after_expression e k (I.JumpZero (first_end + 1) ∷ (block_code first a ++ I.Jump k ∷ [])) stands in
        let long : first + length (block_code first a) ≡ first_end = ap (λ n. first + n) (block_long a first) in
        let later : Stands first_end 0 (I.Jump k ∷ []) =
        along_back (λ k h i. slice_get all k ≡ Some (i, h)) first first_end 0 0 (block_code first a)
        (I.Jump k ∷ []) long (block_height a first) tested.1 in
        let same : q ≡ first_end + 1 = omega arith in
        let jump_start : Starts all first_end = record { instr = I.Jump k; at = later.0; apart = refl } in
        let first_fine : AreFine first 0 (block_code first a) =
        block_fine a first first_end refl within.1
        (along_front (λ k h i. slice_get all k ≡ Some (i, h)) first 0 (block_code first a) (I.Jump k ∷ []) tested.1)
        jump_start in
        then_fine e k (I.JumpZero (first_end + 1) ∷ (block_code first a ++ I.Jump k ∷ [])) within.0 (
          jump_fine (k + expression_length e) 1 (I.JumpZero (first_end + 1)) (first_end + 1)
              (subst (Starts all) same start) refl refl refl refl (omega arith),
          along_join IsFine first first_end 0 0 (block_code first a) (I.Jump k ∷ []) long
              (block_height a first) first_fine (
                jump_fine first_end 0 (I.Jump k) k
                    (from_expression e k (I.JumpZero (first_end + 1) ∷ (block_code first a ++ I.Jump k ∷ [])) stands) refl
                    refl refl refl (omega arith),
                tt,
              ),
        )

    block_fine : (b : Block ℕ) (k q : ℕ) → k + block_length b ≡ q → IsWithin z.variables z.scans z.rows b
        → Stands k 0 (block_code k b) → Starts all q → AreFine k 0 (block_code k b)
    block_fine nil k q ends within stands start = tt
    block_fine (cons s b) k q ends within stands start =
        let next : ℕ = k + statement_length s in
        let long : k + length (statement_code k s) ≡ next = ap (λ n. k + n) (statement_long s k) in
        let later : Stands next 0 (block_code next b) =
        along_back (λ k h i. slice_get all k ≡ Some (i, h)) k next 0 0 (statement_code k s) (block_code next b) long
        (statement_height s k) stands in
        let ends_later : next + block_length b ≡ q = omega arith in
        let first_fine : AreFine k 0 (statement_code k s) =
        statement_fine s k next refl within.0
        (along_front (λ k h i. slice_get all k ≡ Some (i, h)) k 0 (statement_code k s) (block_code next b) stands)
        (block_starts b next q ends_later later start) in
        along_join IsFine k next 0 0 (statement_code k s) (block_code next b) long (statement_height s k) first_fine
        (block_fine b next q ends_later within.1 later start)

-- the pairs of a code stand in themselves, after any others
paired_stand : (passed : List Placed) (is : List Instr) (h : ℕ)
    → Along (λ k g i. slice_get (passed ++ paired h is) k ≡ Some (i, g)) (length passed) h is
paired_stand passed [] h = tt
paired_stand passed (i ∷ is) h =
    let more : List Placed = passed ++ (i, h) ∷ [] in (
      get_seam passed (i, h) (paired (after i h) is),
      along_as (λ k g j. slice_get (passed ++ paired h (i ∷ is)) k ≡ Some (j, g)) (length more) (length passed + 1)
          (after i h) (after i h) is (length-append passed ((i, h) ∷ [])) refl
          (subst (λ all. Along (λ k g j. slice_get all k ≡ Some (j, g)) (length more) (after i h) is)
          (append_assoc passed ((i, h) ∷ []) (paired (after i h) is)) (paired_stand more is (after i h))),
    )

inside_before : (code is : List Instr) (k h : ℕ) → k + length is < length code → Along (Inside code) k h is
inside_before code [] k h below = tt
inside_before code (i ∷ is) k h below = (
  and_right (goes_on i) (k + 1 == length code) (ne_eqb (k + 1) (length code) (λ e. absurd (omega arith))),
  inside_before code is (k + 1) (after i h) (omega arith),
)

-- The code has no fault, and each place of it the height that the instruction before hands on.
abbrev pub IsPlain : CodeSizes → List Instr → Type 0
IsPlain z code = IsVerified z code × (placed code ≡ paired 0 code)

-- a body over so many slots, with its end
body_verified : (z : CodeSizes) (b : Block ℕ) → IsWithin z.variables z.scans z.rows b → block_length b + 1 ≤ 65535
    → IsPlain z (block_code 0 b ++ I.Halt ∷ [])
body_verified z b within few =
    let body : List Instr = block_code 0 b in
    let code : List Instr = body ++ I.Halt ∷ [] in
    let end : ℕ = block_length b in
    let long : 0 + length body ≡ end = omega (arith, block_long b 0) in
    let code_long : length code ≡ end + 1 = omega (arith, length-append body (I.Halt ∷ []), long) in
    let whole : Stands z code 0 0 code = paired_stand [] code 0 in
    let halt : Stands z code end 0 (I.Halt ∷ []) =
    along_back (λ k h i. slice_get (paired 0 code) k ≡ Some (i, h)) 0 end 0 0 body (I.Halt ∷ []) long
    (block_height b 0) whole in
    let halt_start : Starts (paired 0 code) end = record { instr = I.Halt; at = halt.0; apart = refl } in
    let body_fine : AreFine z code 0 0 body =
    block_fine z code b 0 end (omega arith) within
    (along_front (λ k h i. slice_get (paired 0 code) k ≡ Some (i, h)) 0 0 body (I.Halt ∷ []) whole) halt_start in
    let fine : AreFine z code 0 0 code =
    along_join (IsFine z code) 0 end 0 0 body (I.Halt ∷ []) long (block_height b 0) body_fine
    (plain z code end 0 I.Halt refl refl refl (omega arith), tt) in
    let inside : Along (Inside code) 0 0 code =
    along_join (Inside code) 0 end 0 0 body (I.Halt ∷ []) long (block_height b 0)
    (inside_before code body 0 0 (omega arith)) (refl, tt) in
    fine_verified z code fine inside (omega arith) (omega arith)

pub lowered_verified : (p : WholeProgram ℕ) → IsWithin (length p.variables) (length p.scans) (length p.registers) p.body
    → lowered_length p ≤ 65535 → IsVerified (lowered_sizes p) (lowered p)
lowered_verified p within few = (body_verified (lowered_sizes p) p.body within few).0

-- the same of a program whose names are resolved: its sections are as long as they were
pub resolved_plain : (p : WholeProgram Name) (b : Block ℕ) (z : CodeSizes) (code : List Instr)
    → z ≡ lowered_sizes (resolved p) → code ≡ block_code 0 b ++ I.Halt ∷ []
    → IsWithin (length p.variables) (length p.scans) (length p.registers) b → block_length b + 1 ≤ 65535
    → IsPlain z code
resolved_plain p b z code sizes is within few =
    let number : Name → ℕ = slot_number (slot_in (declarations p)) in
    subst (λ y. IsPlain y code) (sym sizes)
    (subst (IsPlain (lowered_sizes (resolved p))) (sym is)
    (body_verified (lowered_sizes (resolved p)) b
    (subst (λ n. IsWithin (length (resolved p).variables) (length (resolved p).scans) n b)
    (sym (length-map p.registers number))
    (subst (λ n. IsWithin (length (resolved p).variables) n (length p.registers) b) (sym (length-map p.scans number))
    (subst (λ n. IsWithin n (length p.scans) (length p.registers) b) (sym (length-map p.variables number)) within)))
    few))
