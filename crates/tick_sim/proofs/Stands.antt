-- The code at a place does the statements that remain: their instructions follow there one after the
-- other, with a jump where a block ends, and a halt at the end. A count goes with it, of the steps that
-- end the next step of the program; together with a statement that is entered it stays within the code.
use Rattle.std.proofs.Common.{◌≡◌, ℕ, suc, ◌+◌, ◌≤◌, List, length, subst, arith, Some}
use Rattle.std.specs.Prelude.{slice_get}
use Rattle.code_core.specs.declared.instr.Instr.{Instr}
use Rattle.code_core.specs.declared.instr.Instr.TheVariants as I
use Rattle.base.specs.Plain.{Statement, branch, repeat, Block, nil, cons, onto}
use Rattle.tick_lower.specs.Lowered.{expression_length, statement_length, block_length, statement_code, block_code}
use Rattle.tick_lower.proofs.Offered.{statement_long, HasAt, has_front, has_back}

-- how many instructions of a statement are made until its first step has ended
abbrev pub first_steps : Statement ℕ → ℕ
first_steps (branch e a b) = expression_length e + 1
first_steps (repeat e a) = expression_length e + 1
first_steps s = statement_length s

first_few : (s : Statement ℕ) → first_steps s ≤ statement_length s
first_few (branch e a b) = omega arith
first_few (repeat e a) = omega arith
first_few _ = omega arith

module _ (code : List Instr) where
  -- From this place on the code does these statements; so many steps end the next step of the program,
  -- and none takes more than the code is long.
  pub data Stands : ℕ → ℕ → Block ℕ → Type 0 where
    ends : {k : ℕ} → slice_get code k ≡ Some I.Halt → 1 ≤ length code → Stands 1 k nil
    jumps : {m k : ℕ} {rest : Block ℕ} → (to : ℕ) → slice_get code k ≡ Some (I.Jump to) → suc m ≤ length code
        → Stands m to rest → Stands (suc m) k rest
    begins : {m k : ℕ} {rest : Block ℕ} → (s : Statement ℕ) → HasAt code k (statement_code k s)
        → statement_length s + m ≤ length code → Stands m (k + statement_length s) rest
        → Stands (first_steps s) k (cons s rest)

  abbrev pub StandsAt : ℕ → Block ℕ → Type 0
  StandsAt k rest = (m : ℕ) × Stands m k rest

  pub stands_few : (m k : ℕ) (rest : Block ℕ) → Stands m k rest → m ≤ length code
  stands_few _ k nil (ends here some) = some
  stands_few _ k rest (jumps to here few stands) = few
  stands_few _ k _ (begins s has few stands) = omega (arith, first_few s)

  -- a block, and what follows it
  pub block_stands : (a : Block ℕ) (m k q : ℕ) (rest : Block ℕ) → HasAt code k (block_code k a) → k + block_length a ≡ q
      → m + block_length a ≤ length code → Stands m q rest
      → (j : ℕ) × (j ≤ m + block_length a) × Stands j k (onto a rest)
  block_stands nil m k q rest has at_end few stands =
      let same : q ≡ k = omega arith in
      (m, omega arith, subst (λ x. Stands m x rest) same stands)
  block_stands (cons s a) m k q rest has at_end few stands =
      let next : ℕ = k + statement_length s in
      let later = block_stands a m next q rest
      (has_back code k next (statement_code k s) (block_code next a) (omega (arith, statement_long s k)) has)
      (omega arith) (omega arith) stands in (
        first_steps s,
        omega (arith, first_few s),
        begins s (has_front code k (statement_code k s) (block_code next a) has) (omega (arith, later.1)) later.2,
      )
