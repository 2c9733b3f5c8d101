-- Where a refusal is: at a stretch, at a character, in a line, at an item of a schedule, or nowhere.
use Rattle.std.specs.Prelude.{◌≡◌, ◌⊎◌, ◌<◌, ◌≤◌, ◌+◌, ℕ, List, length, take, slice_index, min, Option, Some, None, true, false}
use Rattle.std.specs.List.{count_by}
use Rattle.base.specs.Blanks.{is_blank}
use Rattle.code_core.specs.declared.fault.CodeFault.TheVariants as C
use Rattle.tick_kinds.specs.declared.fault.KindFault.TheVariants as N
use Rattle.language_schedules.specs.declared.schedule.ScheduleFault.TheVariants as S
use Rattle.tick_syntax.specs.declared.fault.TextFault.TheVariants as T
use Rattle.base.specs.declared.span.Span.{Span}
use Rattle.ticklab_explain.specs.Places.{IsLineStart, IsLineEnd, is_line_feed, begins_character}
use Rattle.ticketc_refusals.specs.declared.refusal.Refusal.{Refusal}
use Rattle.ticketc_refusals.specs.declared.refusal.Refusal.TheVariants.{Text, Kinds, Code, Schedule}
use Rattle.ticklab_explain.specs.declared.spot.Spot.{Spot}
use Rattle.ticklab_explain.specs.declared.spot.Spot.TheVariants.{Nowhere, Stretch, Character, Line, Item}

-- An instruction by its place, which is counted from 0, has its line after the first line.
abbrev pub spot_of : Refusal → Spot
spot_of (Text (T.BadCharacter place)) = Character place
spot_of (Text (T.NumberTooBig span)) = Stretch span
spot_of (Text (T.NameTooLong span)) = Stretch span
spot_of (Text (T.Unexpected span)) = Stretch span
spot_of (Text (T.TooDeep span)) = Stretch span
spot_of (Kinds (N.Processes span)) = Stretch span
spot_of (Kinds (N.Twice span)) = Stretch span
spot_of (Kinds (N.Unknown span)) = Stretch span
spot_of (Kinds (N.WrongKind span wanted found)) = Stretch span
spot_of (Kinds (N.TooMany span)) = Stretch span
spot_of (Code C.Empty) = Line 1
spot_of (Code (C.BadJump place)) = Line (place + 2)
spot_of (Code (C.StackShort place)) = Line (place + 2)
spot_of (Code (C.HeightsDiffer place)) = Line (place + 2)
spot_of (Code (C.BadSlot place)) = Line (place + 2)
spot_of (Code (C.FallsOff place)) = Line (place + 2)
spot_of (Code (C.BadLine line)) = Line line
spot_of (Code (C.BadStamp place)) = Line (place + 2)
spot_of (Schedule (S.BadItem place)) = Item place
spot_of (Schedule (S.NoSuchProcess place)) = Item place
spot_of _ = Nowhere

-- the character that stands at a byte ends here: the text does, or another begins, and none between
pub record IsCharacterEnd (text : List ℕ) (at stop : ℕ) : Type 0 where
  pub after : at ≤ stop
  pub within : stop ≤ length text
  pub some : at < length text → at < stop
  pub inside : (k : ℕ) → at < k → k < stop → begins_character (slice_index text k) ≡ false
  pub ends : stop < length text → begins_character (slice_index text stop) ≡ true

-- the item that stands at a byte ends here: the text does, or a blank stands here, and none before
pub record IsItemEnd (text : List ℕ) (at stop : ℕ) : Type 0 where
  pub after : at ≤ stop
  pub within : stop ≤ length text
  pub inside : (k : ℕ) → at ≤ k → k < stop → is_blank (slice_index text k) ≡ false
  pub ends : stop < length text → is_blank (slice_index text stop) ≡ true

-- the line of this number begins here, or the text has fewer and ends here
pub record IsNumberedLine (text : List ℕ) (number start : ℕ) : Type 0 where
  pub within : start ≤ length text
  pub begins : (count_by is_line_feed (take start text) + 1 ≡ number) ⊎ (start ≡ length text)
  pub is_start : start < length text → IsLineStart text start start

-- what the spot is in the text
abbrev pub IsSpanAt : List ℕ → Spot → Option Span → Type 0
IsSpanAt text Nowhere span = span ≡ None
IsSpanAt text (Stretch stretch) span = span ≡ Some stretch
IsSpanAt text (Character place) span =
    (stop : ℕ) × IsCharacterEnd text (min place (length text)) stop
    × (span ≡ Some (record { start = min place (length text); end = stop }))
IsSpanAt text (Line number) span =
    (start stop : ℕ) × IsNumberedLine text number start × IsLineEnd text start stop
    × (span ≡ Some (record { start = start; end = stop }))
IsSpanAt text (Item place) span =
    (stop : ℕ) × IsItemEnd text (min place (length text)) stop
    × (span ≡ Some (record { start = min place (length text); end = stop }))
