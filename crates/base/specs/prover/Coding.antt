-- Blocks coded as trees of numbers, and read back. By this coding a proof tells apart the blocks that are the
-- value of a model.
use base.Stored.{Gv, gnil, gnum, gcons, Coded, num}
use Rattle.std.specs.Prelude.{◌≡◌, ℕ, List, [], ◌∷◌, ◌==◌, if◌then◌else◌, codes, refl}
use Rattle.std.specs.Str.{bytes_eq}
use Rattle.std.proofs.Common.{ap, sym, ◌∙◌}
use Rattle.base.specs.declared.operator.Op.{Op}
use Rattle.base.specs.declared.operator.Op.TheVariants as O
use Rattle.base.specs.Operators.{sign}
use Rattle.base.specs.Plain.{Name, Expression, number, named, me, count, binary, Statement, assign, get, put, stamp, clear, scan, copy, older, held, out, branch, repeat, Block, nil, cons}

abbrev stored_letters : List ℕ → Gv
stored_letters [] = gnil
stored_letters (x ∷ xs) = gcons (gnum x) (stored_letters xs)

abbrev letters_read : Gv → List ℕ
letters_read (gcons x xs) = num x ∷ letters_read xs
letters_read _ = []

-- an operator is stored as its sign
abbrev operator_read : List ℕ → Op
operator_read text =
    if bytes_eq text (codes "+") then O.Add else if bytes_eq text (codes "-") then O.Sub
    else if bytes_eq text (codes "*") then O.Mul else if bytes_eq text (codes "/") then O.Div
    else if bytes_eq text (codes "%") then O.Rem else if bytes_eq text (codes "<") then O.Less
    else if bytes_eq text (codes "<=") then O.AtMost else if bytes_eq text (codes "==") then O.Equal else O.Differs

operator_back : (op : Op) → operator_read (letters_read (stored_letters (sign op))) ≡ op
operator_back O.Add = refl
operator_back op = refl

-- a number that says what it is, two names, two expressions or an operator, and two blocks
abbrev node : ℕ → Gv → Gv → Gv → Gv → Gv → Gv
node k x y e f b = gcons (gnum k) (gcons x (gcons y (gcons e (gcons f b))))

-- What stands for a name is stored in one way, and read back.
module _ {A : Type 0} (stored : A → Gv) (read : Gv → A) (back : (x : A) → read (stored x) ≡ x) where
  abbrev stored_expression : Expression A → Gv
  stored_expression (number v) = node 0 (gnum v) gnil gnil gnil gnil
  stored_expression (named x) = node 1 (stored x) gnil gnil gnil gnil
  stored_expression me = node 2 gnil gnil gnil gnil gnil
  stored_expression count = node 3 gnil gnil gnil gnil gnil
  stored_expression (binary a op b) = node 4 (stored_letters (sign op)) gnil (stored_expression a) (stored_expression b) gnil

  abbrev expression_from : ℕ → Gv → Expression A → Expression A → Expression A
  expression_from k x a b =
      if k == 0 then number (num x) else if k == 1 then named (read x) else if k == 2 then me
      else if k == 3 then count else binary a (operator_read (letters_read x)) b

  abbrev expression_read : Gv → Expression A
  expression_read (gcons k (gcons x (gcons y (gcons a (gcons b c))))) = expression_from (num k) x (expression_read a) (expression_read b)
  expression_read _ = me

  expression_back : (e : Expression A) → expression_read (stored_expression e) ≡ e
  expression_back (number v) = refl
  expression_back (named x) = ap named (back x)
  expression_back me = refl
  expression_back count = refl
  expression_back (binary a op b) = λ i. binary (expression_back a i) (operator_back op i) (expression_back b i)

  abbrev mutual
    stored_statement : Statement A → Gv
    stored_statement (assign x e) = node 0 (stored x) gnil (stored_expression e) gnil gnil
    stored_statement (get x r e) = node 1 (stored x) (stored r) (stored_expression e) gnil gnil
    stored_statement (put r e) = node 2 (stored r) gnil (stored_expression e) gnil gnil
    stored_statement stamp = node 3 gnil gnil gnil gnil gnil
    stored_statement (scan s) = node 4 (stored s) gnil gnil gnil gnil
    stored_statement (copy t s) = node 5 (stored t) (stored s) gnil gnil gnil
    stored_statement (older x s e f) = node 6 (stored x) (stored s) (stored_expression e) (stored_expression f) gnil
    stored_statement (out e) = node 7 gnil gnil (stored_expression e) gnil gnil
    stored_statement (branch e a b) = node 8 gnil gnil (stored_expression e) (stored_block a) (stored_block b)
    stored_statement (repeat e a) = node 9 gnil gnil (stored_expression e) (stored_block a) gnil
    stored_statement clear = node 10 gnil gnil gnil gnil gnil
    stored_statement (held x s e) = node 11 (stored x) (stored s) (stored_expression e) gnil gnil

    stored_block : Block A → Gv
    stored_block nil = gnil
    stored_block (cons s b) = gcons (stored_statement s) (stored_block b)

  abbrev statement_from : ℕ → A → A → Expression A → Expression A → Block A → Block A → Statement A
  statement_from k x y e f a b =
      if k == 0 then assign x e else if k == 1 then get x y e else if k == 2 then put x e else if k == 3 then stamp
      else if k == 4 then scan x else if k == 5 then copy x y else if k == 6 then older x y e f else if k == 7 then out e
      else if k == 8 then branch e a b else if k == 9 then repeat e a else if k == 10 then clear else held x y e

  abbrev mutual
    statement_read : Gv → Statement A
    statement_read (gcons k (gcons x (gcons y (gcons a (gcons b c))))) =
        statement_from (num k) (read x) (read y) (expression_read a) (expression_read b) (block_read b) (block_read c)
    statement_read _ = stamp

    block_read : Gv → Block A
    block_read (gcons s b) = cons (statement_read s) (block_read b)
    block_read _ = nil

  mutual
    statement_back : (s : Statement A) → statement_read (stored_statement s) ≡ s
    statement_back (assign x e) = λ i. assign (back x i) (expression_back e i)
    statement_back (get x r e) = λ i. get (back x i) (back r i) (expression_back e i)
    statement_back (put r e) = λ i. put (back r i) (expression_back e i)
    statement_back stamp = refl
    statement_back (scan s) = ap scan (back s)
    statement_back (copy t s) = λ i. copy (back t i) (back s i)
    statement_back (older x s e f) = λ i. older (back x i) (back s i) (expression_back e i) (expression_back f i)
    statement_back (out e) = ap out (expression_back e)
    statement_back (branch e a b) = λ i. branch (expression_back e i) (block_back a i) (block_back b i)
    statement_back (repeat e a) = λ i. repeat (expression_back e i) (block_back a i)
    statement_back clear = refl
    statement_back (held x s e) = λ i. held (back x i) (back s i) (expression_back e i)

    pub block_back : (b : Block A) → block_read (stored_block b) ≡ b
    block_back nil = refl
    block_back (cons s b) = λ i. cons (statement_back s i) (block_back b i)

  abbrev block_code : Coded (Block A)
  block_code = record { code = stored_block; inj = λ a b same. sym (block_back a) ∙ (ap block_read same ∙ block_back b) }

letters_back : (xs : List ℕ) → letters_read (stored_letters xs) ≡ xs
letters_back [] = refl
letters_back (x ∷ xs) = ap (λ ys. x ∷ ys) (letters_back xs)

abbrev stored_name : Name → Gv
stored_name x = gcons (stored_letters x.letters) (gcons (gnum x.span.start) (gnum x.span.end))

abbrev name_read : Gv → Name
name_read (gcons l (gcons s e)) = record { letters = letters_read l; span = record { start = num s; end = num e } }
name_read _ = record { letters = []; span = record { start = 0; end = 0 } }

pub name_back : (x : Name) → name_read (stored_name x) ≡ x
name_back x = ap (λ l. record { letters = l; span = x.span }) (letters_back x.letters)

-- blocks as a text has them
abbrev pub written_blocks : Coded (Block Name)
written_blocks = block_code stored_name name_read name_back

-- blocks of resolved names
abbrev pub resolved_blocks : Coded (Block ℕ)
resolved_blocks = block_code gnum num (λ x. refl)
