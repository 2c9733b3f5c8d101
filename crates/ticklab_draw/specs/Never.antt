-- The mark of a property that must never hold, and does after some step: a dashed line through all lanes, behind the marks of
-- the steps up to that one, with `never` above it.
use Rattle.std.specs.Prelude.{ℕ, ◌==◌, nat_le, if◌then◌else◌, List, [], ◌++◌, codes, Option, Some, None, Result, Ok, Err}
use Rattle.std.specs.Fmt.{decimal}
use Rattle.std.specs.List.{count_by}
use Rattle.base.specs.declared.status.Trap.{Trap}
use Rattle.tick_play.specs.Lines.{trap_text}
use Rattle.ticklab_draw.specs.declared.bands.Lanes.{Lanes}
use Rattle.ticklab_draw.specs.declared.columns.Column.{Column}
use Rattle.ticklab_draw.specs.declared.mark.Mark.{Mark}
use Rattle.ticklab_draw.specs.declared.pieces.TheConstants.{AND_Y, PATH_END, PATH_FROM, STEP_AT, TITLE_END}
use Rattle.ticklab_draw.specs.declared.never.NeverMark.{NeverMark}
use Rattle.ticklab_draw.specs.declared.never.TheConstants.{AFTER_STEP, AT_THE_START, DASHES, ITS_VALUE_IS, IT_TRAPS_WITH, MUST_NEVER_HOLD, NEVER, NEVER_END, NEVER_MARK}
use Rattle.ticklab_draw.specs.Escapes.{escaped}
use Rattle.ticklab_draw.specs.Layout.{above_y, band_foot, band_top, behind_x, column_behind}
use Rattle.ticklab_draw.specs.Writing.{one_number, two_numbers}

-- After so many steps the property of this text comes to this. It has a number where there are several.
pub record Broken : Type 0 where
  pub steps : ℕ
  pub number : Option ℕ
  pub text : List ℕ
  pub value : Result ℕ Trap

-- what the code holds of it
abbrev pub broken_of : NeverMark → Broken
broken_of never = record { steps = never.steps; number = never.number; text = never.text.now; value = never.value }

-- how many of these marks are of the first so many steps
abbrev pub marks_within : ℕ → List Mark → ℕ
marks_within steps marks = count_by (λ m. nat_le m.step steps) marks

abbrev pub moment_text : ℕ → List ℕ
moment_text steps = if steps == 0 then AT_THE_START.now else AFTER_STEP.now ++ decimal steps

abbrev pub value_text : Result ℕ Trap → List ℕ
value_text (Ok v) = ITS_VALUE_IS.now ++ decimal v
value_text (Err trap) = IT_TRAPS_WITH.now ++ trap_text trap

-- when the property holds, how it reads, and what it comes to
unfoldable pub never_title : Broken → List ℕ
never_title b =
    NEVER_MARK.now ++ moment_text b.steps ++ codes ": " ++ escaped b.text ++ MUST_NEVER_HOLD.now ++ value_text b.value ++ TITLE_END.now

-- a line from one height to another
unfoldable pub dashed_line : ℕ → ℕ → ℕ → List ℕ
dashed_line x top foot = DASHES.now ++ two_numbers PATH_FROM.now x (codes " ") top (codes "V") ++ one_number [] foot PATH_END.now

abbrev pub never_words : Option ℕ → List ℕ
never_words None = NEVER.now
never_words (Some number) = NEVER.now ++ codes " " ++ decimal number

-- the words at this place
unfoldable pub never_label : ℕ → ℕ → Option ℕ → List ℕ
never_label x y number = two_numbers STEP_AT.now x AND_Y.now y (codes "\">") ++ never_words number ++ NEVER_END.now

-- the mark in the gutter behind a column
unfoldable pub never_behind : List Lanes → Column → Broken → List ℕ
never_behind bands c b =
    never_title b ++ dashed_line (behind_x c) (band_top bands c.band) (band_foot bands c.band)
    ++ never_label (behind_x c) (above_y bands c.band) b.number

-- the mark among these, where there is one
abbrev pub never_text : List Lanes → List Column → List Mark → Option Broken → List ℕ
never_text bands columns marks None = []
never_text bands columns marks (Some b) = never_behind bands (column_behind columns (marks_within b.steps marks)) b
