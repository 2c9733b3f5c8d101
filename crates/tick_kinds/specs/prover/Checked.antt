-- What each function of `check` gives: names are replaced by their numbers, from the front of a program up to
-- the first fault. `refusals` and `resolved` say what the result is.
use Rattle.std.specs.Prelude.{ℕ, Bool, true, false, List, [], ◌∷◌, Option, Some, None, Result, Ok, Err, if◌then◌else◌, is_some, ◌&&◌, nat_lt, nat_le}
use Rattle.std.specs.Map.{update}
use Rattle.std.specs.Str.{bytes_eq}
use Rattle.base.specs.Refusing.{◌>>=◌, FailsBut, GivesBut}
use Rattle.tick_kinds.specs.declared.fault.KindFault.{KindFault}
use Rattle.tick_kinds.specs.declared.fault.KindFault.TheVariants as F
use Rattle.tick_kinds.specs.declared.kind.Kind.{Kind}
use Rattle.tick_kinds.specs.declared.kind.Kind.TheVariants as K
use Rattle.tick_kinds.specs.Declarations.{Slot, Declaration, declarations, limit}
use Rattle.tick_kinds.specs.Refusals.{is_kind}
use Rattle.base.specs.declared.span.Span.{Span}
use Rattle.base.specs.Plain.{Name, Expression, number, named, me, count, binary, Statement, assign, get, put, stamp, clear, scan, copy, older, held, out, branch, repeat, Block, nil, cons, WholeProgram}

abbrev pub Checked : Type 0 → Type 0
Checked A = Result A KindFault

-- whether a refusal is of memory
abbrev pub is_memory : KindFault → Bool
is_memory F.NoMemory = true
is_memory _ = false

-- A function answers what was checked, seen by view, unless memory was refused.
abbrev pub Fails : {A : Type 0} → KindFault → Checked A → Type 0
Fails e checked = FailsBut is_memory e checked

abbrev pub Gives : {X A : Type 0} → (X → A) → Result X KindFault → Checked A → Type 0
Gives view result checked = GivesBut is_memory view result checked

abbrev pub number_if : Kind → Span → Option Slot → Checked ℕ
number_if wanted span None = Err (F.Unknown span)
number_if wanted span (Some slot) = if is_kind wanted slot.0 then Ok slot.1 else Err (F.WrongKind span wanted slot.0)

module _ (look : List ℕ → Option Slot) where
  unfoldable pub checked_name : Kind → Name → Checked ℕ
  checked_name wanted x = number_if wanted x.span (look x.letters)

  unfoldable pub checked_expression : Expression Name → Checked (Expression ℕ)
  checked_expression (number v) = Ok (number v)
  checked_expression (named x) = checked_name K.Variable x >>= λ x. Ok (named x)
  checked_expression me = Ok me
  checked_expression count = Ok count
  checked_expression (binary a op b) =
      checked_expression a >>= λ a. checked_expression b >>= λ b. Ok (binary a op b)

  -- a name of this kind, and an expression
  unfoldable pub checked_valued : Kind → Name → Expression Name → Checked (ℕ × Expression ℕ)
  checked_valued wanted x e = checked_name wanted x >>= λ x. checked_expression e >>= λ e. Ok (x, e)

  -- a variable, a name of this kind, and an expression
  unfoldable pub checked_asked : Kind → Name → Name → Expression Name → Checked (ℕ × ℕ × Expression ℕ)
  checked_asked wanted x s e =
      checked_name K.Variable x >>= λ x. checked_name wanted s >>= λ s. checked_expression e >>= λ e. Ok (x, s, e)

  unfoldable pub checked_copy : Name → Name → Checked (Statement ℕ)
  checked_copy t s = checked_name K.Scan t >>= λ t. checked_name K.Scan s >>= λ s. Ok (copy t s)

  unfoldable pub checked_older : Name → Name → Expression Name → Expression Name → Checked (Statement ℕ)
  checked_older x s a b =
      checked_name K.Variable x >>= λ x. checked_name K.Scan s >>= λ s.
      checked_expression a >>= λ a. checked_expression b >>= λ b. Ok (older x s a b)

  abbrev mutual
    pub checked_statement : Statement Name → Checked (Statement ℕ)
    checked_statement (assign x e) = checked_valued K.Variable x e >>= λ r. Ok (assign r.0 r.1)
    checked_statement (get x r e) = checked_asked K.Register x r e >>= λ r. Ok (get r.0 r.1 r.2)
    checked_statement (put r e) = checked_valued K.Register r e >>= λ r. Ok (put r.0 r.1)
    checked_statement stamp = Ok stamp
    checked_statement clear = Ok clear
    checked_statement (scan s) = checked_name K.Scan s >>= λ s. Ok (scan s)
    checked_statement (copy t s) = checked_copy t s
    checked_statement (older x s a b) = checked_older x s a b
    checked_statement (held x s e) = checked_asked K.Scan x s e >>= λ r. Ok (held r.0 r.1 r.2)
    checked_statement (out e) = checked_expression e >>= λ e. Ok (out e)
    checked_statement (branch e a b) =
        checked_expression e >>= λ e. checked_block a >>= λ a. checked_block b >>= λ b. Ok (branch e a b)
    checked_statement (repeat e a) = checked_expression e >>= λ e. checked_block a >>= λ a. Ok (repeat e a)

    pub checked_block : Block Name → Checked (Block ℕ)
    checked_block nil = Ok nil
    checked_block (cons s b) = checked_statement s >>= λ s. checked_block b >>= λ b. Ok (cons s b)

-- what each name stands for, as far as declared
abbrev pub Table : Type 0
Table = List ℕ → Option Slot

abbrev pub with_declaration : Declaration → Table → Table
with_declaration d look = update bytes_eq look d.name.letters (Some d.slot)

unfoldable pub checked_declaration : Declaration → Table → Checked Table
checked_declaration d look =
    if is_some (look d.name.letters) then Err (F.Twice d.name.span)
    else if nat_lt d.slot.1 (limit d.slot.0) then Ok (with_declaration d look) else Err (F.TooMany d.name.span)

unfoldable pub checked_declarations : List Declaration → Table → Checked Table
checked_declarations [] look = Ok look
checked_declarations (d ∷ ds) look = checked_declaration d look >>= checked_declarations ds

unfoldable pub checked_program : WholeProgram Name → Checked (Block ℕ)
checked_program p =
    if nat_le 1 p.processes && nat_le p.processes 6
    then (checked_declarations (declarations p) (λ _. None) >>= λ look. checked_block look p.body)
    else Err (F.Processes p.span)
