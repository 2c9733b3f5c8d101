-- What the lines of a file ask. A line asks something if its comment begins with `#!`:
--
--     line = "#!" "never" property
--            | "#!" "ends" ( "all" | "none" | number { number } ) [ "wait_free" | "alone" ]
--            | "#!" "expect" ( "safe" | "trap" | "never" | "stuck" | "not_wait_free" | "not_alone" )
use Rattle.std.specs.Prelude.{ℕ, zero, suc, ◌+◌, ◌==◌, nat_eq, nat_lt, Bool, true, false, if◌then◌else◌, is_some, List, [], ◌∷◌, ◌++◌, codes, drop, map, replicate, slice_set, take, Option, Some, None, Result, Ok, Err}
use Rattle.std.specs.List.{starts_with}
use Rattle.std.specs.Str.{bytes_eq}
use Rattle.base.specs.Plain.{Name, WholeProgram}
use Rattle.base.specs.Refusing.{◌>>=◌}
use Rattle.base.specs.declared.span.Span.{Span}
use Rattle.language_properties.specs.Properties.{Formula, formula_of}
use Rattle.language_questions.specs.Directives.{conditions, directives, expectations}
use Rattle.language_questions.specs.Ends as lines
use Rattle.language_questions.specs.Extents.{end_of}
use Rattle.language_questions.specs.Missed.{unless_missed}
use Rattle.language_questions.specs.Reading.{whole_from}
use Rattle.language_questions.specs.Spelled.{spelled}
use Rattle.language_questions.specs.Tokens.{letters_at, token_at, word_span, wrong}
use Rattle.language_questions.specs.declared.spelled.Directive.{Directive}
use Rattle.language_questions.specs.declared.spelled.Directive.TheVariants as D
use Rattle.language_questions.specs.declared.extents.Extent.TheVariants as E
use Rattle.language_questions.specs.declared.fault.Missing.{Missing}
use Rattle.language_questions.specs.declared.fault.Missing.TheVariants as I
use Rattle.language_questions.specs.declared.fault.QuestionFault.{QuestionFault}
use Rattle.language_questions.specs.declared.fault.QuestionFault.TheVariants as F
use Rattle.language_questions.specs.declared.questions.Condition.{Condition}
use Rattle.language_questions.specs.declared.questions.Condition.TheVariants as C
use Rattle.language_questions.specs.declared.questions.Ends.{Ends}
use Rattle.language_questions.specs.declared.questions.Ends.TheVariants as N
use Rattle.language_questions.specs.declared.questions.EndsLine.{EndsLine}
use Rattle.language_questions.specs.declared.questions.EndsLines.{EndsLines}
use Rattle.language_questions.specs.declared.questions.Expected.{Expected}
use Rattle.language_questions.specs.declared.questions.Questions.{Questions}
use Rattle.language_questions.specs.declared.token.Meaning.{Meaning}
use Rattle.language_questions.specs.declared.token.Meaning.TheVariants as M

-- The properties that no state may have, each with where its text stands, who is asked whether they end, and what is
-- expected of the file.
pub record Asked : Type 0 where
  pub never : List (Formula × Span)
  pub ends : EndsLines
  pub expected : Option Expected

-- what the code holds of it
abbrev pub asked_of : Questions → Asked
asked_of q = record { never = map (λ line. (formula_of line.property, line.span)) q.never.items; ends = q.ends; expected = q.expected }

abbrev pub no_questions : Asked
no_questions = record { never = []; ends = lines.no_ends; expected = None }

-- The text of a line ends where the line does.
module _ (p : WholeProgram Name) (text : List ℕ) where
  abbrev pub ended_by : {T : Type 0} → Missing → T → Meaning → Span → Result T QuestionFault
  ended_by missing said M.End span = Ok said
  ended_by missing said meaning span = Err (wrong missing meaning span)

  -- the end of the question, after what is asked or expected, where this may stand
  unfoldable pub ended_at : {T : Type 0} → Missing → T → ℕ → Result T QuestionFault
  ended_at missing said at = ended_by missing said (token_at p text at).meaning (token_at p text at).span

  -- a line that asks these, under this condition
  abbrev pub line_by : Ends → Condition → EndsLine
  line_by asked condition = record { asked = asked; condition = condition }

  abbrev pub conditioned_by : Option Condition → Ends → ℕ → Result EndsLine QuestionFault
  conditioned_by None asked at = ended_at I.Condition (line_by asked C.Fair) at
  conditioned_by (Some condition) asked at = ended_at I.LineEnd (line_by asked condition) (word_span text at).end

  -- the condition under which these are asked, and the end of the question
  unfoldable pub conditioned_at : Ends → ℕ → Result EndsLine QuestionFault
  conditioned_at asked at = conditioned_by (spelled conditions (letters_at text (word_span text at))) asked at

  -- who is asked where this token stands after others of these, and `more` goes on after it
  abbrev pub listed_by : (List Bool → ℕ → Result EndsLine QuestionFault) → List Bool → Meaning → Span → Result EndsLine QuestionFault
  listed_by more marks (M.Number v) span =
      if nat_lt v p.processes then more (slice_set marks v true) span.end else Err (F.NoSuchProcess span)
  listed_by more marks M.End span = Ok (line_by (N.Each marks) C.Fair)
  listed_by more marks meaning span = Err (wrong I.Process meaning span)

  abbrev pub listed_or : Option Condition → (List Bool → ℕ → Result EndsLine QuestionFault) → List Bool → ℕ → Result EndsLine QuestionFault
  listed_or None more marks at = listed_by more marks (token_at p text at).meaning (token_at p text at).span
  listed_or (Some condition) more marks at = ended_at I.LineEnd (line_by (N.Each marks) condition) (word_span text at).end

  unfoldable pub listed_with : (List Bool → ℕ → Result EndsLine QuestionFault) → List Bool → ℕ → Result EndsLine QuestionFault
  listed_with more marks at = listed_or (spelled conditions (letters_at text (word_span text at))) more marks at

  -- at most so many numbers of processes after others
  unfoldable pub listed_from : ℕ → List Bool → ℕ → Result EndsLine QuestionFault
  listed_from zero marks at = conditioned_at (N.Each marks) at
  listed_from (suc room) marks at = listed_with (listed_from room) marks at

  -- one number of a process or more
  abbrev pub each_by : Meaning → Span → ℕ → Result EndsLine QuestionFault
  each_by (M.Number v) span at = listed_from 6 (replicate 6 false) at
  each_by meaning span at = Err (wrong I.Process meaning span)

  unfoldable pub each_from : ℕ → Result EndsLine QuestionFault
  each_from at = each_by (token_at p text at).meaning (token_at p text at).span at

  -- who is asked by what stands here, and under which condition
  unfoldable pub ends_from : ℕ → Result EndsLine QuestionFault
  ends_from at =
      if bytes_eq (letters_at text (word_span text at)) (codes "all") then conditioned_at N.All (word_span text at).end
      else if bytes_eq (letters_at text (word_span text at)) (codes "none") then conditioned_at N.Nobody (word_span text at).end
      else each_from at

  -- with the property that stands here
  unfoldable pub with_never : Asked → ℕ → Result Asked QuestionFault
  with_never asked at =
      whole_from p text at >>= λ e.
      Ok (record asked { never = asked.never ++ (e.0, record { start = (token_at p text at).span.start; end = e.1 }) ∷ [] })

  abbrev pub ends_by : Option EndsLines → Asked → Span → Result Asked QuestionFault
  ends_by None asked span = Err (F.EndsTwice span)
  ends_by (Some lines) asked span = Ok (record asked { ends = lines })

  -- with who is asked by what stands after the word at this span
  unfoldable pub with_ends : Asked → Span → Result Asked QuestionFault
  with_ends asked span = ends_from span.end >>= λ line. ends_by (lines.with_line asked.ends line) asked span

  abbrev pub expected_by : Option Expected → Span → Result Expected QuestionFault
  expected_by None span = Err (F.NotExpected span)
  expected_by (Some expected) span = ended_at I.LineEnd expected span.end

  -- what is expected by what stands here
  unfoldable pub expected_from : ℕ → Result Expected QuestionFault
  expected_from at = expected_by (spelled expectations (letters_at text (word_span text at))) (word_span text at)

  -- with what is expected by what stands after the word at this span
  unfoldable pub with_expected : Asked → Span → Result Asked QuestionFault
  with_expected asked span =
      if is_some asked.expected then Err (F.ExpectTwice span)
      else (expected_from span.end >>= λ expected. Ok (record asked { expected = Some expected }))

  abbrev pub directed : Option Directive → Asked → Span → Result Asked QuestionFault
  directed None asked span = Err (F.NoSuchWord span)
  directed (Some D.Never) asked span = with_never asked span.end
  directed (Some D.Ends) asked span = with_ends asked span
  directed (Some D.Expect) asked span = with_expected asked span

  -- with what stands after `#!`
  unfoldable pub with_directive : Asked → ℕ → Result Asked QuestionFault
  with_directive asked at = directed (spelled directives (letters_at text (word_span text at))) asked (word_span text at)

  -- with what the comment asks that begins at a place, if it asks something; no other comment looks like one that asks
  unfoldable pub with_comment : Asked → ℕ → Result Asked QuestionFault
  with_comment asked at =
      if starts_with nat_eq (drop at text) (codes "#!")
      then (with_directive asked (at + 2) >>= λ more. unless_missed text (end_of E.Code text (at + 2)) more)
      else unless_missed text at asked

  -- with what the line from a place on asks, if it asks something
  abbrev pub with_line : Asked → ℕ → Result Asked QuestionFault
  with_line asked start = with_comment asked (end_of E.Code text start)

-- the places of the line feeds from a place on, and that of the text's end
abbrev pub line_ends : ℕ → List ℕ → List ℕ
line_ends place [] = place ∷ []
line_ends place (byte ∷ bytes) = if byte == 10 then place ∷ line_ends (place + 1) bytes else line_ends (place + 1) bytes

-- with what the lines ask from a place on, which end at these places
abbrev pub with_lines : WholeProgram Name → List ℕ → Asked → ℕ → List ℕ → Result Asked QuestionFault
with_lines p text asked start [] = Ok asked
with_lines p text asked start (end ∷ ends) =
    with_line p (take end text) asked start >>= λ more. with_lines p text more (end + 1) ends

-- all that a file asks of a program, or its first fault
unfoldable pub questions_in : WholeProgram Name → List ℕ → Result Asked QuestionFault
questions_in p text = with_lines p text no_questions 0 (line_ends 0 text)
