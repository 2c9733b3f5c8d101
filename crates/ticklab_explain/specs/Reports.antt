-- What is told of a refusal.
use Rattle.std.specs.Prelude.{◌≡◌, ℕ, List, [], ◌++◌, codes, length, min, take, Option, Some, None}
use Rattle.std.specs.Fmt.{decimal}
use Rattle.base.specs.Lines.{line_end}
use Rattle.base.specs.declared.span.Span.{Span}
use Rattle.tick_syntax.specs.declared.fault.TextFault.TheVariants as T
use Rattle.ticklab_explain.specs.Choosing.{hint_of}
use Rattle.ticklab_explain.specs.Following.{AreFitting, choices}
use Rattle.ticklab_explain.specs.Hints.{hint_span, hint_text}
use Rattle.ticklab_explain.specs.Messages.{message_of}
use Rattle.ticklab_explain.specs.Pictures.{IsPicture}
use Rattle.ticklab_explain.specs.Places.{IsPlace}
use Rattle.ticklab_explain.specs.Rows.{Help}
use Rattle.ticketc_refusals.specs.RefusalLine.{refusal_line}
use Rattle.ticklab_explain.specs.Settings.{IsSetting, Setting, before, step_items}
use Rattle.ticklab_explain.specs.Spots.{IsSpanAt, spot_of}
use Rattle.ticklab_explain.specs.declared.items.Items.{Items}
use Rattle.ticklab_explain.specs.declared.place.Place.{Place}
use Rattle.ticketc_refusals.specs.declared.refusal.Refusal.{Refusal}
use Rattle.ticketc_refusals.specs.declared.refusal.Refusal.TheVariants.{Text}
use Rattle.ticklab_explain.specs.declared.report.TheConstants.{ARROW, ERROR, HINT, TICKETC}
use Rattle.ticklab_explain.specs.declared.wanted.Wanted.{Wanted}

-- `NAME:LINE:COLUMN`
abbrev pub place_text : List ℕ → Place → List ℕ
place_text name place = name ++ codes ":" ++ decimal place.line ++ codes ":" ++ decimal place.column

abbrev pub error_text : List ℕ → List ℕ
error_text message = ERROR.now ++ message ++ line_end

-- `ticketc: ` and the line that `ticketc` tells
abbrev pub last_line : Refusal → List ℕ
last_line refusal = TICKETC.now ++ refusal_line refusal

-- The place of the refusal and the message, and then the line with a caret. Where the refusal has no
-- place, there is no such line.
pub data IsHead (name text : List ℕ) (refusal : Refusal) (message head : List ℕ) : Type 0 where
  placed : (span : Span) (place : Place) (drawn : List ℕ) → IsSpanAt text (spot_of refusal) (Some span)
      → IsPlace text (min span.start (length text)) place → IsPicture text span place.line drawn
      → head ≡ place_text name place ++ error_text message ++ drawn → IsHead name text refusal message head
  unplaced : IsSpanAt text (spot_of refusal) None → head ≡ name ++ error_text message
      → IsHead name text refusal message head

-- what a hint speaks of besides: its place, and the line there with a caret
pub data IsSeen (name text : List ℕ) (span : Option Span) (seen : List ℕ) : Type 0 where
  shown : (other : Span) (place : Place) (drawn : List ℕ) → span ≡ Some other
      → IsPlace text (min other.start (length text)) place → IsPicture text other place.line drawn
      → seen ≡ ARROW.now ++ place_text name place ++ line_end ++ drawn → IsSeen name text span seen
  unshown : span ≡ None → seen ≡ [] → IsSeen name text span seen

-- the line of a hint, and what it speaks of; without a hint nothing
pub data AreHintLines (name text : List ℕ) (s : Setting) (hint : Option Help) (lines : List ℕ) : Type 0 where
  hinted : (it : Help) (seen : List ℕ) → hint ≡ Some it → IsSeen name text (hint_span s it) seen
      → lines ≡ HINT.now ++ hint_text s it ++ line_end ++ seen → AreHintLines name text s hint lines
  unhinted : hint ≡ None → lines ≡ [] → AreHintLines name text s hint lines

-- what may be wanted: where no program goes on the choices after the word before, and else nothing
abbrev pub choices_at : Setting → Refusal → List Wanted
choices_at s (Text (T.Unexpected span)) = choices (before s 1)
choices_at s _ = []

-- those of the choices that fit are wanted
abbrev pub AreWanted : Setting → Refusal → List Wanted → Type 0
AreWanted s refusal wanted = AreFitting (take (min s.span.start (length s.text)) s.text) (choices_at s refusal) wanted

-- the place and the message of the refusal with its line, the hint, and the line of `ticketc`
pub record IsWritten (name : List ℕ) (s : Setting) (wanted : List Wanted) (refusal : Refusal) (report : List ℕ) : Type 0 where
  pub head : List ℕ
  pub is_head : IsHead name s.text refusal (message_of s wanted refusal) head
  pub hints : List ℕ
  pub are_hints : AreHintLines name s.text s (hint_of s wanted refusal) hints
  pub whole : report ≡ head ++ hints ++ last_line refusal

-- the report of the refusal, of a text of such items or of another text
pub record IsReport (items : Items) (name text : List ℕ) (refusal : Refusal) (report : List ℕ) : Type 0 where
  pub set : Setting
  pub is_set : IsSetting items text refusal set
  pub wanted : List Wanted
  pub are_wanted : AreWanted set refusal wanted
  pub written : IsWritten name set wanted refusal report

-- it is the report of a refusal that the input has
pub record TellsOf (items : Items) (has : Refusal → Type 0) (name text report : List ℕ) : Type 0 where
  pub refusal : Refusal
  pub had : has refusal
  pub told : IsReport items name text refusal report

-- of a schedule of so many processes
abbrev pub TellsFor : ℕ → (Refusal → Type 0) → List ℕ → List ℕ → List ℕ → Type 0
TellsFor processes has name text report = TellsOf (step_items processes) has name text report

-- of a program or a code
abbrev pub Tells : (Refusal → Type 0) → List ℕ → List ℕ → List ℕ → Type 0
Tells has name text report = TellsFor 0 has name text report
