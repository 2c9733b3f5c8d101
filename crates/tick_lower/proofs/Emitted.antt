-- What stands in the code once a statement was emitted.
-- The idea. Code is only added at the end, and room is left for each jump whose target is not known yet. `long_expression`
-- and its like say how long the code is then, so where each part begins. `patch_branch` and `patch_repeat` write the jumps:
-- what stands in the code is then the code of the statement. Between two statements of a block the code, with that of the
-- rest, is the code of the whole block (`Emitting`).
-- Read `patch_repeat` first, then `Emitting` and `emitting_more`.
use Rattle.std.proofs.Common.{◌≡◌, ℕ, zero, suc, ◌+◌, ◌<◌, ◌≤◌, List, [], ◌∷◌, ◌++◌, refl, ap, ◌∙◌, sym, length, get_or, drop, arith, append_assoc, add-one, drop_of_length-le}
use Rattle.std.specs.Prelude.{slice_set}
use Rattle.std.proofs.Math.Seq.{set-append_seam, drop-cons}
use Rattle.std.proofs.lemmas.List.{length-append, append-nil}
use Rattle.code_core.specs.declared.instr.Instr.{Instr}
use Rattle.code_core.specs.declared.instr.Instr.TheVariants as I
use Rattle.tick_kinds.specs.declared.resolved.Statement as DeclaredStatement
use Rattle.tick_kinds.specs.Resolved.{resolved_statement, resolved_block}
use Rattle.base.specs.Plain.{Expression, Statement, branch, repeat, Block, nil, cons}
use Rattle.tick_lower.specs.Lowered.{expression_length, statement_length, block_length, expression_code, statement_code, block_code}
use Rattle.tick_lower.proofs.Offered.{expression_long, statement_long, block_long}

-- How long the code is after an expression, an instruction, a statement and a block more.
pub long_expression : (new old : List Instr) (e : Expression ℕ) → new ≡ old ++ expression_code e → length new ≡ length old + expression_length e
long_expression new old e is = ap length is ∙ length-append old (expression_code e) ∙ ap (λ n. length old + n) (expression_long e)

pub long_one : (new old : List Instr) (i : Instr) → new ≡ old ++ i ∷ [] → length new ≡ length old + 1
long_one new old i is = ap length is ∙ length-append old (i ∷ [])

pub long_statement : (new old : List Instr) (s : Statement ℕ) → new ≡ old ++ statement_code (length old) s → length new ≡ length old + statement_length s
long_statement new old s is = ap length is ∙ length-append old (statement_code (length old) s) ∙ ap (λ n. length old + n) (statement_long s (length old))

pub long_block : (new old : List Instr) (b : Block ℕ) → new ≡ old ++ block_code (length old) b → length new ≡ length old + block_length b
long_block new old b is = ap length is ∙ length-append old (block_code (length old) b) ∙ ap (λ n. length old + n) (block_long b (length old))

-- After a test and room for its jump, then a block, then an instruction more.
pub long_tested : (e : Expression ℕ) (base c1 c2 : List Instr) (x : Instr) → c1 ≡ base ++ expression_code e → c2 ≡ c1 ++ x ∷ []
    → length c2 ≡ length base + expression_length e + 1
long_tested e base c1 c2 x e1 e2 = omega (arith, long_expression c1 base e e1, long_one c2 c1 x e2)

pub long_guarded : (e : Expression ℕ) (a : Block ℕ) (base c1 c2 c3 : List Instr) (x : Instr) → c1 ≡ base ++ expression_code e → c2 ≡ c1 ++ x ∷ []
    → c3 ≡ c2 ++ block_code (length c2) a → length c3 ≡ length base + expression_length e + 1 + block_length a
long_guarded e a base c1 c2 c3 x e1 e2 e3 = omega (arith, long_tested e base c1 c2 x e1 e2, long_block c3 c2 a e3)

pub long_closed : (e : Expression ℕ) (a : Block ℕ) (base c1 c2 c3 c4 : List Instr) (x y : Instr) → c1 ≡ base ++ expression_code e → c2 ≡ c1 ++ x ∷ []
    → c3 ≡ c2 ++ block_code (length c2) a → c4 ≡ c3 ++ y ∷ [] → length c4 ≡ length base + expression_length e + 1 + block_length a + 1
long_closed e a base c1 c2 c3 c4 x y e1 e2 e3 e4 = omega (arith, long_guarded e a base c1 c2 c3 x e1 e2 e3, long_one c4 c3 y e4)

-- A jump is written where room was left for it, once its place is known.
pub patch_branch : (e : Expression ℕ) (a b : Block ℕ) (base c1 c2 c3 c4 c5 : List Instr) (x y : Instr) (n1 n2 n3 n4 : ℕ)
    → c1 ≡ base ++ expression_code e → n1 ≡ length c1 → c2 ≡ c1 ++ x ∷ [] → c3 ≡ c2 ++ block_code (length c2) a → n2 ≡ length c3
    → c4 ≡ c3 ++ y ∷ [] → n3 ≡ length c4 → c5 ≡ c4 ++ block_code (length c4) b → n4 ≡ length c5
    → slice_set (slice_set c5 n1 (I.JumpZero n3)) n2 (I.Jump n4) ≡ base ++ statement_code (length base) (branch e a b)
patch_branch e a b base c1 c2 c3 c4 c5 x y n1 n2 n3 n4 e1 m1 e2 e3 m2 e4 m3 e5 m4 =
    let first : ℕ = length base + expression_length e + 1 in
    let second : ℕ = first + block_length a + 1 in
    let ca : List Instr = block_code (length c2) a in
    let cb : List Instr = block_code (length c4) b in
    let i : Instr = I.JumpZero n3 in
    let j : Instr = I.Jump n4 in
    let at_first : length c2 ≡ first = long_tested e base c1 c2 x e1 e2 in
    let at_second : length c4 ≡ second = long_closed e a base c1 c2 c3 c4 x y e1 e2 e3 e4 in
    let to_second : n3 ≡ second = m3 ∙ at_second in
    let past : n4 ≡ second + block_length b = omega (arith, long_block c5 c4 b e5) in
    let at_jump : n2 ≡ length (c1 ++ i ∷ ca) =
    omega (arith, long_block c3 c2 a e3, long_one c2 c1 x e2, length-append c1 (i ∷ ca), block_long a (length c2)) in
    let all : c5 ≡ (((c1 ++ x ∷ []) ++ ca) ++ y ∷ []) ++ cb = cc in
    let flat : (((c1 ++ x ∷ []) ++ ca) ++ y ∷ []) ++ cb ≡ c1 ++ x ∷ (ca ++ y ∷ cb) = simp append_assoc in
    ap (λ l. slice_set (slice_set l n1 i) n2 j) (all ∙ flat)
    ∙ ap (λ n. slice_set (slice_set (c1 ++ x ∷ (ca ++ y ∷ cb)) n i) n2 j) m1
    ∙ ap (λ l. slice_set l n2 j) (set-append_seam c1 x (ca ++ y ∷ cb) i ∙ sym (append_assoc c1 (i ∷ ca) (y ∷ cb)))
    ∙ ap (λ n. slice_set ((c1 ++ i ∷ ca) ++ y ∷ cb) n j) at_jump
    ∙ set-append_seam (c1 ++ i ∷ ca) y cb j
    ∙ append_assoc c1 (i ∷ ca) (j ∷ cb)
    ∙ ap (λ l. l ++ i ∷ (ca ++ j ∷ cb)) e1
    ∙ append_assoc base (expression_code e) (i ∷ (ca ++ j ∷ cb))
    ∙ λ t. base ++ (expression_code e ++ I.JumpZero (to_second t) ∷ (block_code (at_first t) a ++ I.Jump (past t) ∷ block_code (at_second t) b))

pub patch_repeat : (e : Expression ℕ) (a : Block ℕ) (base c1 c2 c3 c4 : List Instr) (x : Instr) (n0 n1 n2 : ℕ)
    → n0 ≡ length base → c1 ≡ base ++ expression_code e → n1 ≡ length c1 → c2 ≡ c1 ++ x ∷ [] → c3 ≡ c2 ++ block_code (length c2) a
    → c4 ≡ c3 ++ I.Jump n0 ∷ [] → n2 ≡ length c4
    → slice_set c4 n1 (I.JumpZero n2) ≡ base ++ statement_code (length base) (repeat e a)
patch_repeat e a base c1 c2 c3 c4 x n0 n1 n2 m0 e1 m1 e2 e3 e4 m2 =
    let first : ℕ = length base + expression_length e + 1 in
    let ca : List Instr = block_code (length c2) a in
    let i : Instr = I.JumpZero n2 in
    let j : Instr = I.Jump n0 in
    let at_first : length c2 ≡ first = long_tested e base c1 c2 x e1 e2 in
    let past : n2 ≡ first + block_length a + 1 = m2 ∙ long_closed e a base c1 c2 c3 c4 x j e1 e2 e3 e4 in
    let all : c4 ≡ ((c1 ++ x ∷ []) ++ ca) ++ j ∷ [] = cc in
    let flat : ((c1 ++ x ∷ []) ++ ca) ++ j ∷ [] ≡ c1 ++ x ∷ (ca ++ j ∷ []) = simp append_assoc in
    ap (λ l. slice_set l n1 i) (all ∙ flat)
    ∙ ap (λ n. slice_set (c1 ++ x ∷ (ca ++ j ∷ [])) n i) m1
    ∙ set-append_seam c1 x (ca ++ j ∷ []) i
    ∙ ap (λ l. l ++ i ∷ (ca ++ j ∷ [])) e1
    ∙ append_assoc base (expression_code e) (i ∷ (ca ++ j ∷ []))
    ∙ λ t. base ++ (expression_code e ++ I.JumpZero (past t) ∷ (block_code (at_first t) a ++ I.Jump (m0 t) ∷ []))

-- The next statement of a block that is read from a list, and the end of it.
pub next_statement : (ss : List DeclaredStatement.Statement) (k : ℕ) (s : DeclaredStatement.Statement) → k < length ss → s ≡ get_or ss k s
    → resolved_block (drop k ss) ≡ cons (resolved_statement s) (resolved_block (drop (k + 1) ss))
next_statement ss k s inside is =
    ap resolved_block (drop-cons ss k s inside)
    ∙ ap (λ x. cons (resolved_statement x) (resolved_block (drop (suc k) ss))) (sym is)
    ∙ ap (λ j. cons (resolved_statement s) (resolved_block (drop j ss))) (sym (add-one k))

pub no_statement : (ss : List DeclaredStatement.Statement) (k : ℕ) → length ss ≤ k → resolved_block (drop k ss) ≡ nil
no_statement ss k over = ap resolved_block (drop_of_length-le ss over)

-- a part of a block is no longer than the block
dropped_shorter : (ss : List DeclaredStatement.Statement) (k : ℕ) → block_length (resolved_block (drop k ss)) ≤ block_length (resolved_block ss)
dropped_shorter [] zero = omega arith
dropped_shorter [] (suc k) = omega arith
dropped_shorter (s ∷ ss) zero = omega arith
dropped_shorter (s ∷ ss) (suc k) = omega (arith, dropped_shorter ss k)

pub emitting_shorter : (ss : List DeclaredStatement.Statement) (k : ℕ) (more : Block ℕ) (s : Statement ℕ) → resolved_block (drop k ss) ≡ cons s more
    → statement_length s ≤ block_length (resolved_block ss)
emitting_shorter ss k more s next = omega (arith, dropped_shorter ss k, ap block_length next)

-- After some statements of a block: with those that remain the code is the whole block's, after `old`.
pub record Emitting (old code : List Instr) (whole rest : Block ℕ) : Type 0 where
  pub built : code ++ block_code (length code) rest ≡ old ++ block_code (length old) whole
  pub fits : length code + block_length rest ≤ 65535

pub emitting_start : (old : List Instr) (b : Block ℕ) → length old + block_length b ≤ 65535 → Emitting old old b b
emitting_start old b fits = record { built = refl; fits = fits }

pub emitting_fits : (old code : List Instr) (whole rest more : Block ℕ) (s : Statement ℕ) → Emitting old code whole rest → rest ≡ cons s more
    → length code + statement_length s ≤ 65535
emitting_fits old code whole rest more s emitting next = omega (arith, emitting.fits, ap block_length next)

pub emitting_more : (old code new : List Instr) (whole rest more : Block ℕ) (s : Statement ℕ) → Emitting old code whole rest → rest ≡ cons s more
    → new ≡ code ++ statement_code (length code) s → Emitting old new whole more
emitting_more old code new whole rest more s emitting next is =
    let long : length new ≡ length code + statement_length s = long_statement new code s is in
    record {
      built =
          (λ t. is t ++ block_code (long t) more)
          ∙ append_assoc code (statement_code (length code) s) (block_code (length code + statement_length s) more)
          ∙ ap (λ b. code ++ block_code (length code) b) (sym next) ∙ emitting.built;
      fits = omega (arith, emitting.fits, ap block_length next);
    }

pub emitting_end : (old code : List Instr) (whole rest : Block ℕ) → Emitting old code whole rest → rest ≡ nil → code ≡ old ++ block_code (length old) whole
emitting_end old code whole rest emitting over =
    sym (append-nil code) ∙ ap (λ b. code ++ block_code (length code) b) (sym over) ∙ emitting.built
