-- The grammar of questions, as functions of places of a text: each reads what stands at a place, from left to right,
-- and gives what it says with the place after it, or the first fault.
--
--     property  = quantifier name ":" property | "not" operand | operand operator operand
--               | operand { "and" operand } | operand { "or" operand }
--     operand   = number | "n" | bound name | row index | ("held" | "ended" | "trapped") index
--               | "older" "[" property "," property "]" | "(" property ")"
--     index     = "[" property "]"
--
-- A property in brackets, in an index or after the colon of a quantifier is one level deeper, and so is an operand after
-- the second of a chain. There are at most 64 levels.
use Rattle.std.specs.Prelude.{◌≡◌, ℕ, zero, suc, nat_lt, Bool, true, false, if◌then◌else◌, List, [], ◌∷◌, ◌++◌, length, Option, Some, None, Result, Ok, Err}
use Rattle.base.specs.Plain.{Name, WholeProgram}
use Rattle.base.specs.Refusing.{◌>>=◌, GivesBut}
use Rattle.base.specs.declared.span.Span.{Span}
use Rattle.tick_kinds.specs.Declarations.{declarations, slot_in}
use Rattle.language_properties.specs.Properties.{Formula, number, count, bound, asked, older, binary, joined, negated, over}
use Rattle.language_properties.specs.declared.property.Junction.{Junction}
use Rattle.language_properties.specs.declared.property.Junction.TheVariants as J
use Rattle.language_properties.specs.declared.property.Quantifier.{Quantifier}
use Rattle.language_properties.specs.declared.property.Question.{Question}
use Rattle.language_properties.specs.declared.property.Question.TheVariants as A
use Rattle.language_questions.specs.Names.{bound_number, is_taken, row_by}
use Rattle.language_questions.specs.Tokens.{letters_at, token_at, wrong}
use Rattle.language_questions.specs.declared.fault.Missing.TheVariants as I
use Rattle.language_questions.specs.declared.fault.QuestionFault.{QuestionFault}
use Rattle.language_questions.specs.declared.fault.QuestionFault.TheVariants as F
use Rattle.language_questions.specs.declared.token.Sign.{Sign}
use Rattle.language_questions.specs.declared.token.Sign.TheVariants as S
use Rattle.language_questions.specs.declared.token.Meaning.{Meaning}
use Rattle.language_questions.specs.declared.token.Meaning.TheVariants as M
use Rattle.language_questions.specs.declared.token.Word.TheVariants as W

-- what was read and the place after it, or a fault
abbrev pub Reading : Type 0 → Type 0
Reading V = Result (V × ℕ) QuestionFault

-- the names that quantifiers bind, the outermost first
abbrev pub Names : Type 0
Names = List (List ℕ)

-- What is read one level deeper, where something at a span opens the level: a property, and operands with this junction
-- between two.
pub record Level : Type 0 where
  pub inside : Span → Names → ℕ → Reading Formula
  pub chain : Junction → Names → Span → ℕ → Reading Formula

abbrev pub sign_where : Sign → Meaning → Span → Result Span QuestionFault
sign_where S.Close (M.Sign S.Close) span = Ok span
sign_where S.OpenIndex (M.Sign S.OpenIndex) span = Ok span
sign_where S.CloseIndex (M.Sign S.CloseIndex) span = Ok span
sign_where S.Comma (M.Sign S.Comma) span = Ok span
sign_where S.Colon (M.Sign S.Colon) span = Ok span
sign_where wanted meaning span = Err (wrong (I.Sign wanted) meaning span)

-- whether a token joins operands so
abbrev pub joins : Junction → Meaning → Bool
joins J.And (M.Word (W.Joins J.And)) = true
joins J.Or (M.Word (W.Joins J.Or)) = true
joins _ _ = false

-- whether a property may stand for a process: a number has to be that of one
abbrev pub may_be_process : ℕ → Formula → Bool
may_be_process n (number v) = nat_lt v n
may_be_process n _ = true

module _ (p : WholeProgram Name) (text : List ℕ) where
  -- this sign
  unfoldable pub sign_at : Sign → ℕ → Result Span QuestionFault
  sign_at wanted at = sign_where wanted (token_at p text at).meaning (token_at p text at).span

  -- a row
  unfoldable pub row_at : Span → Result ℕ QuestionFault
  row_at span = row_by (slot_in (declarations p) (letters_at text span)) span

  abbrev pub new_name_by : Names → Meaning → Span → Reading (List ℕ)
  new_name_by names M.Name span =
      if is_taken names (slot_in (declarations p) (letters_at text span)) (letters_at text span) then Err (F.Twice span)
      else Ok (letters_at text span, span.end)
  new_name_by names meaning span = Err (wrong I.Name meaning span)

  -- a name that means nothing yet
  unfoldable pub new_name_at : Names → ℕ → Reading (List ℕ)
  new_name_at names at = new_name_by names (token_at p text at).meaning (token_at p text at).span

  -- what was read from a place on as a process
  unfoldable pub process_by : ℕ → Formula → ℕ → Reading Formula
  process_by at e after =
      if may_be_process p.processes e then Ok (e, after)
      else Err (F.NoSuchProcess (record { start = (token_at p text at).span.start; end = after }))

  module _ (below : Level) where
    -- what stands for a process
    unfoldable pub process_with : Span → Names → ℕ → Reading Formula
    process_with span names at = do
      e ← below.inside span names at
      process_by at e.0 e.1

    -- what is asked of the process in brackets
    unfoldable pub asked_with : Question → Names → ℕ → Reading Formula
    asked_with question names at = do
      opening ← sign_at S.OpenIndex at
      e ← process_with opening names opening.end
      closing ← sign_at S.CloseIndex e.1
      Ok (asked question e.0, closing.end)

    -- the two processes of `older`
    unfoldable pub older_with : Names → ℕ → Reading Formula
    older_with names at = do
      opening ← sign_at S.OpenIndex at
      e ← process_with opening names opening.end
      comma ← sign_at S.Comma e.1
      f ← process_with comma names comma.end
      closing ← sign_at S.CloseIndex f.1
      Ok (older e.0 f.0, closing.end)

    -- a property and the bracket that closes it
    unfoldable pub brackets_with : Span → Names → ℕ → Reading Formula
    brackets_with span names at = do
      e ← below.inside span names at
      closing ← sign_at S.Close e.1
      Ok (e.0, closing.end)

    abbrev pub named_by : Option ℕ → Names → Span → Reading Formula
    named_by (Some i) names span = Ok (bound i, span.end)
    named_by None names span = row_at span >>= λ row. asked_with (A.Row row) names span.end

    -- what begins with a name
    unfoldable pub named_with : Names → Span → Reading Formula
    named_with names span = named_by (bound_number names (letters_at text span)) names span

    abbrev pub operand_by : Names → Meaning → Span → Reading Formula
    operand_by names (M.Number v) span = Ok (number v, span.end)
    operand_by names (M.Word W.Count) span = Ok (count, span.end)
    operand_by names M.Name span = named_with names span
    operand_by names (M.Word W.Held) span = asked_with A.Held names span.end
    operand_by names (M.Word W.Ended) span = asked_with A.Ended names span.end
    operand_by names (M.Word W.Trapped) span = asked_with A.Trapped names span.end
    operand_by names (M.Word W.Older) span = older_with names span.end
    operand_by names (M.Sign S.Open) span = brackets_with span names span.end
    operand_by names meaning span = Err (wrong I.Operand meaning span)

    unfoldable pub operand_with : Names → ℕ → Reading Formula
    operand_with names at = operand_by names (token_at p text at).meaning (token_at p text at).span

    abbrev pub link_by : Junction → Names → Formula × ℕ → Meaning → Span → Reading Formula
    link_by by names a meaning span =
        if joins by meaning then (below.chain by names span span.end >>= λ b. Ok (joined a.0 by b.0, b.1)) else Ok a

    -- an operand, and those that this junction joins to it
    unfoldable pub link_with : Junction → Names → ℕ → Reading Formula
    link_with by names at =
        operand_with names at >>= λ a. link_by by names a (token_at p text a.1).meaning (token_at p text a.1).span

    abbrev pub rest_by : Names → Formula → Meaning → Span → ℕ → Reading Formula
    rest_by names a (M.Sign (S.Operator op)) span at = operand_with names span.end >>= λ b. Ok (binary a op b.0, b.1)
    rest_by names a (M.Word (W.Joins by)) span at = below.chain by names span span.end >>= λ b. Ok (joined a by b.0, b.1)
    rest_by names a meaning span at = Ok (a, at)

    -- what stands after an operand that is all so far
    unfoldable pub rest_with : Names → Formula → ℕ → Reading Formula
    rest_with names a at = rest_by names a (token_at p text at).meaning (token_at p text at).span at

    -- the name of a quantifier, and the property after its colon
    abbrev pub over_by : Quantifier → Names → ℕ → Reading Formula
    over_by quantifier names at = do
      name ← new_name_at names at
      colon ← sign_at S.Colon name.1
      e ← below.inside colon (names ++ name.0 ∷ []) colon.end
      Ok (over quantifier (length names) e.0, e.1)

    -- what a quantifier at a span goes on with
    unfoldable pub over_with : Quantifier → Names → Span → Reading Formula
    over_with quantifier names span =
        if nat_lt (length names) 8 then over_by quantifier names span.end else Err (F.TooDeep span)

    abbrev pub property_by : Names → Meaning → Span → ℕ → Reading Formula
    property_by names (M.Word (W.Over quantifier)) span at = over_with quantifier names span
    property_by names (M.Word W.Not) span at = operand_with names span.end >>= λ e. Ok (negated e.0, e.1)
    property_by names meaning span at = operand_with names at >>= λ a. rest_with names a.0 a.1

    unfoldable pub property_with : Names → ℕ → Reading Formula
    property_with names at = property_by names (token_at p text at).meaning (token_at p text at).span at

  -- the next of so many levels
  unfoldable pub level : ℕ → Level
  level zero = record {
    inside = λ span names at. Err (F.TooDeep span);
    chain = λ by names span at. Err (F.TooDeep span);
  }
  level (suc room) = record {
    inside = λ span names at. property_with (level room) names at;
    chain = λ by names span at. link_with (level room) by names at;
  }

  abbrev pub whole_by : Formula → ℕ → Meaning → Span → Reading Formula
  whole_by e after M.End span = Ok (e, after)
  whole_by e after meaning span = Err (wrong I.End meaning span)

  -- a property from a place on, and then the end of the question
  unfoldable pub whole_from : ℕ → Reading Formula
  whole_from at = do
    e ← property_with (level 64) [] at
    whole_by e.0 e.1 (token_at p text e.1).meaning (token_at p text e.1).span

-- the property that a text is to a program, or its first fault
unfoldable pub question_of : WholeProgram Name → List ℕ → Result Formula QuestionFault
question_of p text = whole_from p text 0 >>= λ e. Ok e.0

-- whether a fault is want of memory
abbrev pub is_memory : QuestionFault → Bool
is_memory F.NoMemory = true
is_memory _ = false

-- A function gives what reading gives, seen by view, unless memory was refused.
abbrev pub Gives : {X V : Type 0} → (X → V) → Result (X × ℕ) QuestionFault → Reading V → Type 0
Gives view result reading = GivesBut is_memory (λ x. (view x.0, x.1)) result reading

-- The same of a function that takes no memory.
abbrev pub GivesAlways : {X V : Type 0} → (X → V) → Result (X × ℕ) QuestionFault → Reading V → Type 0
GivesAlways view (Ok x) reading = reading ≡ Ok (view x.0, x.1)
GivesAlways view (Err e) reading = reading ≡ Err e
