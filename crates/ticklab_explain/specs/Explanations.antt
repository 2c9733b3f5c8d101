-- What is told of a fault: as a report for people, and in parts.
use Rattle.std.specs.Prelude.{◌≡◌, ⊤, ℕ, List, ◌++◌, codes, length, min, Option, Some, None, option_map, string_bytes}
use Rattle.base.specs.declared.span.Span.{Span}
use Rattle.language_questions.specs.declared.fault.QuestionFault.{QuestionFault}
use Rattle.ticketc_refusals.specs.RefusalLine.{number_and_name}
use Rattle.ticketc_refusals.specs.declared.refusal.Refusal.{Refusal}
use Rattle.ticklab_explain.specs.Choosing.{hint_of}
use Rattle.ticklab_explain.specs.Hints.{hint_text}
use Rattle.ticklab_explain.specs.Messages.{message_of}
use Rattle.ticklab_explain.specs.Places.{IsPlace}
use Rattle.ticklab_explain.specs.Rows.{Help}
use Rattle.ticklab_explain.specs.Questions.{IsQuestionReport, question_hint, question_message, question_span}
use Rattle.ticklab_explain.specs.Reports.{AreWanted, IsReport}
use Rattle.ticklab_explain.specs.Settings.{IsSetting, Setting, step_items}
use Rattle.ticklab_explain.specs.Spots.{IsSpanAt, spot_of}
use Rattle.ticklab_explain.specs.declared.explanation.Explanation.{Explanation}
use Rattle.ticklab_explain.specs.declared.explanation.InputFault.{InputFault}
use Rattle.ticklab_explain.specs.declared.explanation.InputFault.TheVariants as I
use Rattle.ticklab_explain.specs.declared.place.Place.{Place}
use Rattle.ticklab_explain.specs.declared.wanted.Wanted.{Wanted}

-- the report for people of a fault, which a schedule of so many processes may have
abbrev pub IsFaultReport : ℕ → List ℕ → List ℕ → InputFault → List ℕ → Type 0
IsFaultReport processes name text (I.Refused refusal) report = IsReport (step_items processes) name text refusal report
IsFaultReport processes name text (I.Question fault) report = IsQuestionReport name text fault report

-- the place of a part of a text
abbrev pub IsPlaceOf : List ℕ → Option Span → Option Place → Type 0
IsPlaceOf text None None = ⊤
IsPlaceOf text None (Some place) = ⊥
IsPlaceOf text (Some span) None = ⊥
IsPlaceOf text (Some span) (Some place) = IsPlace text (min span.start (length text)) place

-- what a hint says, if there is one
abbrev pub hint_words : Setting → Option Help → Option (List ℕ)
hint_words s hint = option_map (hint_text s) hint

-- the line of `ticketc` without its end
abbrev pub refusal_words : Refusal → List ℕ
refusal_words refusal = codes "refused " ++ number_and_name refusal

-- The place, the message, the hint and the line are those of the report.
pub record ArePartsIn (s : Setting) (wanted : List Wanted) (refusal : Refusal) (e : Explanation) : Type 0 where
  pub span : Option Span
  pub is_span : IsSpanAt s.text (spot_of refusal) span
  pub is_place : IsPlaceOf s.text span e.place
  pub message : string_bytes e.message ≡ message_of s wanted refusal
  pub hint : option_map string_bytes e.hint ≡ hint_words s (hint_of s wanted refusal)
  pub ticketc : option_map string_bytes e.ticketc ≡ Some (refusal_words refusal)

-- of a refusal, which a schedule of so many processes may have
pub record AreRefusalParts (processes : ℕ) (text : List ℕ) (refusal : Refusal) (e : Explanation) : Type 0 where
  pub set : Setting
  pub is_set : IsSetting (step_items processes) text refusal set
  pub wanted : List Wanted
  pub are_wanted : AreWanted set refusal wanted
  pub parts : ArePartsIn set wanted refusal e

-- of a fault in a question, of which `ticketc` tells nothing
pub record AreQuestionParts (text : List ℕ) (fault : QuestionFault) (e : Explanation) : Type 0 where
  pub is_place : IsPlaceOf text (Some (question_span fault)) e.place
  pub message : string_bytes e.message ≡ question_message fault
  pub hint : option_map string_bytes e.hint ≡ Some (question_hint text fault)
  pub ticketc : option_map string_bytes e.ticketc ≡ None

abbrev pub IsExplanation : ℕ → List ℕ → InputFault → Explanation → Type 0
IsExplanation processes text (I.Refused refusal) e = AreRefusalParts processes text refusal e
IsExplanation processes text (I.Question fault) e = AreQuestionParts text fault e
