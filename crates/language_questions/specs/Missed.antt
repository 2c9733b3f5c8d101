-- Comments that look as if they asked something. Behind the `#` that begins a comment, no `#` or `!` stands before a word of
-- questions, perhaps with blanks between: `##! never r[0]`, `# ! never r[0]` and `# see #! never r[0]` are refused.
-- `# never are both inside` is prose.
use Rattle.std.specs.Prelude.{ℕ, ◌+◌, ◌&&◌, Bool, if◌then◌else◌, is_some, List, [], ◌∷◌, drop, Option, Some, None, Result, Ok, Err}
use Rattle.base.specs.declared.span.Span.{Span}
use Rattle.language_questions.specs.Characters.{is_mark}
use Rattle.language_questions.specs.Directives.{directives}
use Rattle.language_questions.specs.Spelled.{spelled}
use Rattle.language_questions.specs.Tokens.{letters_at, word_span}
use Rattle.language_questions.specs.declared.fault.QuestionFault.{QuestionFault}
use Rattle.language_questions.specs.declared.fault.QuestionFault.TheVariants as F

-- whether a word of questions stands at a place, after blanks
abbrev pub asks_at : List ℕ → ℕ → Bool
asks_at text at = is_some (spelled directives (letters_at text (word_span text at)))

-- the first word that looks so in these bytes of the text, which stand from a place on
abbrev pub missed_among : List ℕ → ℕ → List ℕ → Option Span
missed_among text place [] = None
missed_among text place (byte ∷ bytes) =
    if is_mark byte && asks_at text (place + 1) then Some (word_span text (place + 1)) else missed_among text (place + 1) bytes

-- the same in what stands from a place on
unfoldable pub missed_from : List ℕ → ℕ → Option Span
missed_from text place = missed_among text place (drop place text)

abbrev pub unless_found : {T : Type 0} → Option Span → T → Result T QuestionFault
unless_found None value = Ok value
unless_found (Some span) value = Err (F.NotAsked span)

-- this value, unless the comment that begins at a place looks as if it asked something
abbrev pub unless_missed : {T : Type 0} → List ℕ → ℕ → T → Result T QuestionFault
unless_missed text place value = unless_found (missed_from text (place + 1)) value
