-- One step of checking after another.
-- The idea. A statement that holds statements is checked part by part. The first part that fails is its fault
-- (`first_fails`, `second_fails`, `body_fails`); where none fails, the statement is made of the checked parts
-- (`branch_checked`, `repeat_checked`). A block is checked by a loop: `checked_after` is what has been checked, with the
-- rest of the block behind it. `starts`, `goes_on`, `stops` and `ends` are the steps of that loop.
-- Read `checked_after` first, then `goes_on`.
use Rattle.std.proofs.Common.{◌≡◌, ℕ, List, [], ◌∷◌, ◌++◌, Option, Ok, Err, refl, sym, ap, ◌∙◌, Vec, Global}
use Rattle.tick_kinds.specs.declared.fault.KindFault.{KindFault}
use Rattle.tick_kinds.specs.declared.resolved.Expression as R
use Rattle.tick_kinds.specs.declared.resolved.Statement as T
use Rattle.tick_kinds.specs.declared.resolved.Statement.TheVariants as Q
use Rattle.tick_kinds.specs.prover.Checked.{Checked, Fails, is_memory, checked_expression, checked_statement, checked_block}
use Rattle.base.specs.Refusing.{◌>>=◌}
use Rattle.base.proofs.Offered.{fails_on}
use Rattle.tick_kinds.specs.Declarations.{Slot}
use Rattle.tick_kinds.specs.Resolved.{resolved_expression, resolved_statement, resolved_block}
use Rattle.tick_kinds.proofs.Offered.{resolved_branch, resolved_repeat}
use Rattle.base.proofs.Offered.{statement_of_branch, statement_of_repeat}
use Rattle.base.specs.declared.tree.Expr.{Expr}
use Rattle.base.specs.declared.tree.Stmt.{Stmt}
use Rattle.base.specs.declared.tree.Stmt.TheVariants as S
use Rattle.base.specs.Plain.{Name, Expression, Statement, Block, branch, repeat, nil, cons, onto, expression_of, statement_of, block_of}

-- the two statements that hold statements
abbrev branching : Checked (Expression ℕ) → Checked (Block ℕ) → Checked (Block ℕ) → Checked (Statement ℕ)
branching e a b = e >>= λ e. a >>= λ a. b >>= λ b. Ok (branch e a b)

abbrev repeating : Checked (Expression ℕ) → Checked (Block ℕ) → Checked (Statement ℕ)
repeating e a = e >>= λ e. a >>= λ a. Ok (repeat e a)

module _ (look : List ℕ → Option Slot) where
  checked_branch :
      (s : Stmt) (x : Expr) (a b : Vec Stmt Global) → s ≡ S.If x a b
      → checked_statement look (statement_of s)
      ≡ branching (checked_expression look (expression_of x)) (checked_block look (block_of a.items))
      (checked_block look (block_of b.items))
  checked_branch s x a b is = ap (checked_statement look) (ap statement_of is ∙ statement_of_branch x a b)

  checked_repeat :
      (s : Stmt) (x : Expr) (a : Vec Stmt Global) → s ≡ S.While x a
      → checked_statement look (statement_of s)
      ≡ repeating (checked_expression look (expression_of x)) (checked_block look (block_of a.items))
  checked_repeat s x a is = ap (checked_statement look) (ap statement_of is ∙ statement_of_repeat x a)

  pub first_fails :
      (s : Stmt) (x : Expr) (a b : Vec Stmt Global) (v : Expression ℕ) (e : KindFault)
      → s ≡ S.If x a b → checked_expression look (expression_of x) ≡ Ok v
      → Fails e (checked_block look (block_of a.items)) → Fails e (checked_statement look (statement_of s))
  first_fails s x a b v e is hx ha =
      rw (checked_branch s x a b is, hx) (fails_on is_memory e (checked_block look (block_of a.items)) _ ha)

  pub second_fails :
      (s : Stmt) (x : Expr) (a b : Vec Stmt Global) (v : Expression ℕ) (u : Block ℕ) (e : KindFault)
      → s ≡ S.If x a b → checked_expression look (expression_of x) ≡ Ok v
      → checked_block look (block_of a.items) ≡ Ok u
      → Fails e (checked_block look (block_of b.items)) → Fails e (checked_statement look (statement_of s))
  second_fails s x a b v u e is hx ha hb =
      rw (checked_branch s x a b is, hx, ha) (fails_on is_memory e (checked_block look (block_of b.items)) _ hb)

  pub body_fails :
      (s : Stmt) (x : Expr) (a : Vec Stmt Global) (v : Expression ℕ) (e : KindFault)
      → s ≡ S.While x a → checked_expression look (expression_of x) ≡ Ok v
      → Fails e (checked_block look (block_of a.items)) → Fails e (checked_statement look (statement_of s))
  body_fails s x a v e is hx ha =
      rw (checked_repeat s x a is, hx) (fails_on is_memory e (checked_block look (block_of a.items)) _ ha)

  pub branch_checked :
      (s : Stmt) (x : Expr) (a b : Vec Stmt Global) (v : R.Expression) (c d : Vec T.Statement Global)
      → s ≡ S.If x a b → checked_expression look (expression_of x) ≡ Ok (resolved_expression v)
      → checked_block look (block_of a.items) ≡ Ok (resolved_block c.items)
      → checked_block look (block_of b.items) ≡ Ok (resolved_block d.items)
      → checked_statement look (statement_of s) ≡ Ok (resolved_statement (Q.If v c d))
  branch_checked s x a b v c d is hx ha hb = rw (checked_branch s x a b is, hx, ha, hb) (ap Ok (sym (resolved_branch v c d)))

  pub repeat_checked :
      (s : Stmt) (x : Expr) (a : Vec Stmt Global) (v : R.Expression) (c : Vec T.Statement Global)
      → s ≡ S.While x a → checked_expression look (expression_of x) ≡ Ok (resolved_expression v)
      → checked_block look (block_of a.items) ≡ Ok (resolved_block c.items)
      → checked_statement look (statement_of s) ≡ Ok (resolved_statement (Q.While v c))
  repeat_checked s x a v c is hx ha = rw (checked_repeat s x a is, hx, ha) (ap Ok (sym (resolved_repeat v c)))

  -- a block whose first statements gave a block already
  abbrev pub checked_after : Block ℕ → Block Name → Checked (Block ℕ)
  checked_after before b = checked_block look b >>= λ b. Ok (onto before b)

onto-onto-one : (a : Block ℕ) (s : Statement ℕ) (b : Block ℕ) → onto (onto a (cons s nil)) b ≡ onto a (cons s b)
onto-onto-one nil s b = refl
onto-onto-one (cons t a) s b = ap (λ x. cons t x) (onto-onto-one a s b)

onto-nil : (a : Block ℕ) → onto a nil ≡ a
onto-nil nil = refl
onto-nil (cons t a) = ap (λ x. cons t x) (onto-nil a)

after_nothing : (r : Checked (Block ℕ)) → r ≡ (r >>= λ b. Ok (onto nil b))
after_nothing (Ok b) = refl
after_nothing (Err e) = refl

after_one :
    (before : Block ℕ) (s : Statement ℕ) (r : Checked (Block ℕ))
    → ((r >>= λ b. Ok (cons s b)) >>= λ b. Ok (onto before b))
    ≡ (r >>= λ b. Ok (onto (onto before (cons s nil)) b))
after_one before s (Ok b) = ap Ok (sym (onto-onto-one before s b))
after_one before s (Err e) = refl

resolved_block-push :
    (xs : List T.Statement) (s : T.Statement)
    → resolved_block (xs ++ s ∷ []) ≡ onto (resolved_block xs) (cons (resolved_statement s) nil)
resolved_block-push [] s = refl
resolved_block-push (x ∷ xs) s = ap (λ b. cons (resolved_statement x) b) (resolved_block-push xs s)

module _ (look : List ℕ → Option Slot) where
  pub starts : (b : Block Name) → checked_block look b ≡ checked_after look nil b
  starts b = after_nothing (checked_block look b)

  pub goes_on :
      (xs : List T.Statement) (s : Statement Name) (b : Block Name) (q : T.Statement)
      → checked_statement look s ≡ Ok (resolved_statement q)
      → checked_after look (resolved_block xs) (cons s b) ≡ checked_after look (resolved_block (xs ++ q ∷ [])) b
  goes_on xs s b q h =
      rw (h, resolved_block-push xs q) (after_one (resolved_block xs) (resolved_statement q) (checked_block look b))

  pub stops :
      (before : Block ℕ) (s : Statement Name) (b : Block Name) (e : KindFault)
      → Fails e (checked_statement look s) → Fails e (checked_after look before (cons s b))
  stops before s b e h = fails_on is_memory e _ _ (fails_on is_memory e (checked_statement look s) _ h)

  pub ends : (before : Block ℕ) → checked_after look before nil ≡ Ok before
  ends before = ap Ok (onto-nil before)
