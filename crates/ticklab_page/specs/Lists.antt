-- The lines of the program or the code, and those of the steps.
use Rattle.std.specs.Prelude.{ℕ, ◌+◌, Bool, true, false, List, [], ◌∷◌, ◌++◌, codes, Option, Some, None}
use Rattle.std.specs.Str.Lines.{lines}
use Rattle.ticklab_trace.specs.FoldedText.{row_text}
use Rattle.ticklab_trace.specs.Folds.{ends_row, fold_at, rows_past}
use Rattle.ticklab_trace.specs.Parts.{begun_at, part_name}
use Rattle.ticklab_trace.specs.declared.folds.Fold.{Fold}
use Rattle.ticklab_trace.specs.declared.folds.Fold.TheVariants.{Apart, Begins, Within}
use Rattle.ticklab_trace.specs.declared.folds.Row.{Row}
use Rattle.ticklab_trace.specs.declared.parts.Part.{Part}
use Rattle.ticklab_trace.specs.declared.parts.Parts.{Parts}
use Rattle.ticklab_page.specs.Shown.{shown}
use Rattle.ticklab_page.specs.Writing.{markup, twice}
use Rattle.ticklab_page.specs.declared.lists.TheConstants.{HEADING}

abbrev pub line_items : List (List ℕ) → List ℕ
line_items [] = []
line_items (line ∷ more) = markup (codes "<li>") ++ shown line ++ markup (codes "</li>\n") ++ line_items more

-- the step of this number, from 1
unfoldable pub step_head : ℕ → List ℕ
step_head number = twice (codes "<li id=\"step-") number (codes "\"><a href=\"#step-") (codes "\">")

-- and how a trace tells it
unfoldable pub step_item : ℕ → List ℕ → List ℕ
step_item number line = step_head number ++ shown line ++ markup (codes "</a></li>\n")

-- an item of the list that is a heading, and that of a part that begins
unfoldable pub heading : List ℕ → List ℕ
heading name = markup HEADING.now ++ markup name ++ markup (codes "</h3></li>\n")

abbrev pub part_head : Option Part → List ℕ
part_head None = []
part_head (Some part) = heading (part_name part)

-- what opens before the first step of a row of private ones, and is closed behind its last
unfoldable pub row_summary : ℕ → Row → List ℕ
row_summary before row = markup (codes "<li><details><summary>") ++ markup (row_text before row) ++ markup (codes "</summary><ol>\n")

abbrev pub row_head : ℕ → Fold → List ℕ
row_head before Apart = []
row_head before (Begins row) = row_summary before row
row_head before Within = []

abbrev pub row_foot : Bool → List ℕ
row_foot false = []
row_foot true = markup (codes "</ol></details></li>\n")

-- the step behind so many others, and what of the first of these rows begins before it and ends with it
unfoldable pub folded_item : List Row → ℕ → List ℕ → List ℕ
folded_item rows before line = row_head before (fold_at rows before) ++ step_item (before + 1) line ++ row_foot (ends_row rows before)

-- the steps that these lines tell, behind so many others, where these rows don't end before them
abbrev pub step_items : Option Parts → List Row → ℕ → List (List ℕ) → List ℕ
step_items parts rows before [] = []
step_items parts rows before (line ∷ more) =
    part_head (begun_at parts before) ++ folded_item rows before line ++ step_items parts (rows_past rows before) (before + 1) more

-- the lines of a program have numbers from 1, and the places of a code from 0
abbrev pub listing_head : Bool → List ℕ
listing_head true = markup (codes "<section>\n<h2>Code</h2>\n<div class=\"box\" tabindex=\"0\" role=\"region\" aria-label=\"Code\"><ol id=\"program\" class=\"listing\" data-first=\"0\">\n")
listing_head false = markup (codes "<section>\n<h2>Program</h2>\n<div class=\"box\" tabindex=\"0\" role=\"region\" aria-label=\"Program\"><ol id=\"program\" class=\"listing\" data-first=\"1\">\n")

-- the lines of the program or the code
unfoldable pub listing_text : Bool → List (List ℕ) → List ℕ
listing_text is_code listing = listing_head is_code ++ line_items listing ++ markup (codes "</ol></div>\n</section>\n")

unfoldable pub steps_top : List ℕ
steps_top =
    codes "<section>\n<h2>Steps</h2>\n<div class=\"box\" tabindex=\"0\" role=\"region\" aria-label=\"Steps\"><ol id=\"steps\" class=\"told\">\n"
    ++ codes "<li id=\"step-0\"><a href=\"#step-0\">   0  start</a></li>\n"

-- the steps, after the start
unfoldable pub steps_text : Option Parts → List Row → List ℕ → List ℕ
steps_text parts rows trace = markup steps_top ++ step_items parts rows 0 (lines trace) ++ markup (codes "</ol></div>\n</section>\n</div>\n")
