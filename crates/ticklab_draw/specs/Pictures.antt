-- A run as SVG, to the byte: a page with its title, its style, the heads of parts, the mark of what must never hold, lanes
-- with what stands below them, a group for each mark in order, and the legend. The title, the names of rows and the text of what
-- must never hold are written as `Escapes` says.
use Rattle.std.specs.Prelude.{ℕ, ◌+◌, ◌==◌, if◌then◌else◌, List, [], ◌∷◌, ◌++◌, codes, Option}
use Rattle.ticklab_draw.specs.declared.bands.Lanes.{Lanes}
use Rattle.ticklab_draw.specs.declared.columns.Column.{Column}
use Rattle.ticklab_draw.specs.declared.look.Look.{Look}
use Rattle.ticklab_draw.specs.declared.mark.Mark.{Mark}
use Rattle.ticklab_draw.specs.declared.pieces.TheConstants.{AND_COLOUR, GROUP_END, TEXT_END, TITLE_END}
use Rattle.ticklab_draw.specs.declared.page.TheConstants.{ABOUT, ABOUT_END, AND_HEIGHT, MARK, MARKS_OF_PROCESSES, MARK_AT, MARK_TITLE, PAGE, PAGE_TITLE_END, SEEN_TITLE, TITLE, VIEW, VIEW_END}
use Rattle.ticklab_draw.specs.declared.style.TheConstants.{BACKDROP, SHEET}
use Rattle.ticklab_trace.specs.declared.parts.Parts.{Parts}
use Rattle.ticklab_draw.specs.Bands.{bands}
use Rattle.ticklab_draw.specs.Chosen.{chosen_count, is_chosen}
use Rattle.ticklab_draw.specs.Colours.{colour}
use Rattle.ticklab_draw.specs.Columns.{columns}
use Rattle.ticklab_draw.specs.Escapes.{escaped}
use Rattle.ticklab_draw.specs.Feet.{feet_text}
use Rattle.ticklab_draw.specs.Heads.{heads_text}
use Rattle.ticklab_draw.specs.Lanes.{bands_text, ends_text}
use Rattle.ticklab_draw.specs.Layout.{column_at, last_column, page_height, page_width, sign_y}
use Rattle.ticklab_draw.specs.Legend.{legend_text}
use Rattle.ticklab_draw.specs.Never.{Broken, never_text}
use Rattle.ticklab_draw.specs.Shapes.{drawn}
use Rattle.ticklab_draw.specs.Words.{sentence}
use Rattle.ticklab_draw.specs.Writing.{one_number, two_numbers}

-- the head of the group of the mark of this place and column, which is of process `p`: its name, its colour, and where it stands
unfoldable pub group_head : List Lanes → Column → ℕ → ℕ → List ℕ
group_head bands c at p =
    one_number MARK.now (at + 1) AND_COLOUR.now ++ colour p ++ two_numbers MARK_AT.now c.x (codes " ") (sign_y bands c) MARK_TITLE.now

-- a mark that is shown: its place, what it shows in words, and what is drawn of it
unfoldable pub group_text : Look → List Lanes → ℕ → List (List ℕ) → Column → ℕ → Mark → List ℕ
group_text look bands n rows c at m =
    if is_chosen look m
    then group_head bands c at m.process ++ sentence n rows m ++ TITLE_END.now ++ drawn n rows m ++ GROUP_END.now
    else []

-- a group for each of these marks, in order, the first of which has this place
abbrev pub groups_text : Look → List Lanes → ℕ → List (List ℕ) → List Column → ℕ → List Mark → List ℕ
groups_text look bands n rows columns at [] = []
groups_text look bands n rows columns at (m ∷ marks) =
    group_text look bands n rows (column_at columns at) at m ++ groups_text look bands n rows columns (at + 1) marks

-- an element so wide and so high, in which so much of what is drawn is seen
unfoldable pub page_size : ℕ → ℕ → List ℕ
page_size width height =
    two_numbers PAGE.now width AND_HEIGHT.now height (codes "\"") ++ two_numbers VIEW.now width (codes " ") height VIEW_END.now

-- the title between these pieces of markup
unfoldable pub titled : List ℕ → List ℕ → List ℕ → List ℕ
titled before title after = before ++ escaped title ++ after

-- the page of this size, its title and what it is of
unfoldable pub page_head : List ℕ → ℕ → ℕ → ℕ → ℕ → List ℕ
page_head title width height n count =
    page_size width height ++ titled TITLE.now title PAGE_TITLE_END.now ++ two_numbers ABOUT.now count MARKS_OF_PROCESSES.now n ABOUT_END.now

-- the last part of a path, the name of its file
abbrev pub name_from : List ℕ → List ℕ → List ℕ
name_from name [] = name
name_from name (byte ∷ bytes) = name_from (if byte == 47 then bytes else name) bytes

unfoldable pub file_name : List ℕ → List ℕ
file_name path = name_from path path

-- the style; and the title, which is seen
unfoldable pub heading : List ℕ → List ℕ
heading title = SHEET.now ++ BACKDROP.now ++ titled SEEN_TITLE.now title TEXT_END.now

-- what stands under the marks: lanes, how each process ended, and steps, orders and arrows
unfoldable pub under_text : Look → List Lanes → ℕ → List Column → List Mark → List ℕ
under_text look bands n columns marks =
    bands_text bands n columns ++ ends_text bands columns marks n ++ feet_text look bands columns marks 0 marks

-- the picture in these bands and columns
unfoldable pub picture_in : List Lanes → List Column → List ℕ → Look → ℕ → List (List ℕ) → List Mark → Option Broken → List ℕ
picture_in bands columns title look n rows marks broken =
    let last = (last_column columns).band in
    let width = page_width look.width columns in
    page_head title width (page_height bands last width) n (chosen_count look marks) ++ heading title
    ++ heads_text width bands columns ++ never_text bands columns marks broken ++ under_text look bands n columns marks ++ groups_text look bands n rows columns 0 marks
    ++ legend_text bands last width

-- the picture with these columns
abbrev pub picture_with : List Column → List ℕ → Look → ℕ → List (List ℕ) → List Mark → Option Broken → List ℕ
picture_with columns title look n rows marks broken = picture_in (bands look n columns marks) columns title look n rows marks broken

-- the picture of these marks of a run of `n` processes, whose rows have these names, which has these parts, and of what must
-- never hold and does
unfoldable pub picture : List ℕ → Look → ℕ → List (List ℕ) → Option Parts → List Mark → Option Broken → List ℕ
picture title look n rows parts marks broken = picture_with (columns look n rows parts marks) title look n rows marks broken
