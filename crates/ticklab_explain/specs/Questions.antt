-- What is told of a fault in a question, and of a part of a text.
use Rattle.std.specs.Prelude.{◌≡◌, ◌++◌, ℕ, List, length, min}
use Rattle.base.specs.Lines.{line_end}
use Rattle.base.specs.Plain.{nowhere}
use Rattle.base.specs.declared.span.Span.{Span}
use Rattle.language_questions.specs.declared.fault.QuestionFault.{QuestionFault}
use Rattle.language_questions.specs.declared.fault.QuestionFault.TheVariants as F
use Rattle.ticklab_explain.specs.Advising.{hint_for}
use Rattle.ticklab_explain.specs.Pictures.{IsPicture}
use Rattle.ticklab_explain.specs.Places.{IsPlace}
use Rattle.ticklab_explain.specs.Reports.{error_text, place_text}
use Rattle.ticklab_explain.specs.Settings.{text_at}
use Rattle.ticklab_explain.specs.declared.place.Place.{Place}
use Rattle.ticklab_explain.specs.declared.questions.TheConstants.{ASKS_NOTHING, CANNOT_GO_ON, ENDS_TWICE, EXPECTED_TWICE, HAS_A_MEANING, NAMES_A_ROW_TOO, NESTED_TOO_DEEPLY, NOT_EXPECTED, NO_SUCH_CHARACTER, NO_SUCH_NAME, NO_SUCH_PROCESS, NO_SUCH_WORD, NUMBER_TOO_GREAT, OUT_OF_MEMORY, SEEN_BY_NO_OTHER}
use Rattle.ticklab_explain.specs.declared.report.TheConstants.{HINT}

-- what is told of a fault: where it is, and what is wrong
pub record Told : Type 0 where
  pub span : Span
  pub message : List ℕ

-- Want of memory has no place.
abbrev pub question_told : QuestionFault → Told
question_told (F.BadCharacter span) = record { span = span; message = NO_SUCH_CHARACTER.now }
question_told (F.NumberTooBig span) = record { span = span; message = NUMBER_TOO_GREAT.now }
question_told (F.Unexpected missing span) = record { span = span; message = CANNOT_GO_ON.now }
question_told (F.TooDeep span) = record { span = span; message = NESTED_TOO_DEEPLY.now }
question_told (F.Unknown span) = record { span = span; message = NO_SUCH_NAME.now }
question_told (F.NotShared span) = record { span = span; message = SEEN_BY_NO_OTHER.now }
question_told (F.Twice span) = record { span = span; message = HAS_A_MEANING.now }
question_told (F.TwoMeanings span) = record { span = span; message = NAMES_A_ROW_TOO.now }
question_told (F.NoSuchProcess span) = record { span = span; message = NO_SUCH_PROCESS.now }
question_told (F.NoSuchWord span) = record { span = span; message = NO_SUCH_WORD.now }
question_told (F.NotAsked span) = record { span = span; message = ASKS_NOTHING.now }
question_told (F.EndsTwice span) = record { span = span; message = ENDS_TWICE.now }
question_told (F.NotExpected span) = record { span = span; message = NOT_EXPECTED.now }
question_told (F.ExpectTwice span) = record { span = span; message = EXPECTED_TWICE.now }
question_told F.NoMemory = record { span = nowhere; message = OUT_OF_MEMORY.now }

abbrev pub question_span : QuestionFault → Span
question_span fault = (question_told fault).span

abbrev pub question_message : QuestionFault → List ℕ
question_message fault = (question_told fault).message

-- what may help, by the letters that stand at the place of a fault in a text
abbrev pub question_hint : List ℕ → QuestionFault → List ℕ
question_hint text fault = hint_for fault (text_at text (question_span fault))

-- a message about a part of a text: its place, the message, and the line with a caret
pub record IsPointed (name text : List ℕ) (span : Span) (message told : List ℕ) : Type 0 where
  pub place : Place
  pub is_place : IsPlace text (min span.start (length text)) place
  pub drawn : List ℕ
  pub is_picture : IsPicture text span place.line drawn
  pub whole : told ≡ place_text name place ++ error_text message ++ drawn

-- the same of a fault, and what may help
pub record IsQuestionReport (name text : List ℕ) (fault : QuestionFault) (report : List ℕ) : Type 0 where
  pub pointed : List ℕ
  pub is : IsPointed name text (question_span fault) (question_message fault) pointed
  pub whole : report ≡ pointed ++ (HINT.now ++ question_hint text fault ++ line_end)
