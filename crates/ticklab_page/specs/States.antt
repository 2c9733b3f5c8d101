-- The table of the state, as it is at the start: a column for each process.
use Rattle.std.specs.Prelude.{ℕ, zero, suc, ◌+◌, ◌-◌, Bool, true, false, List, [], ◌∷◌, ◌++◌, codes}
use Rattle.ticklab_page.specs.Shown.{shown}
use Rattle.ticklab_page.specs.Writing.{around, for_each, markup, times}

-- a row with this head, and for each process the same
unfoldable pub fixed_row : List ℕ → ℕ → List ℕ → List ℕ
fixed_row head n cell = markup head ++ times n cell ++ markup (codes "</tr>\n")

-- of registers, scans and variables of this letter, numbered from here: the names, and this cell for each of `n` processes
unfoldable pub value_row : List ℕ → List ℕ → ℕ → ℕ → List ℕ → List ℕ
value_row letter cell n number name =
    around letter number (codes "\"><th scope=\"row\">") ++ shown name ++ fixed_row (codes "</th>") n cell

abbrev pub value_rows : List ℕ → List ℕ → ℕ → ℕ → List (List ℕ) → List ℕ
value_rows letter cell n number [] = []
value_rows letter cell n number (name ∷ names) = value_row letter cell n number name ++ value_rows letter cell n (number + 1) names

-- what they are, over as many columns as there are
unfoldable pub heading_row : List ℕ → ℕ → List ℕ
heading_row heading n =
    around (codes "<tr class=\"kind\"><th scope=\"rowgroup\" colspan=\"") (n + 1) (codes "\">") ++ markup heading ++ markup (codes "</th></tr>\n")

-- the rows below their heading, where there are some
abbrev pub headed_rows : List ℕ → List ℕ → List ℕ → ℕ → List (List ℕ) → List ℕ
headed_rows heading letter cell n [] = []
headed_rows heading letter cell n (name ∷ names) = heading_row heading n ++ value_rows letter cell n 0 (name ∷ names)

-- a scan has the rank of each process, or all labels
abbrev pub scan_heading : Bool → List ℕ
scan_heading true = codes "Scans: the label of each process"
scan_heading false = codes "Scans: the rank of each process"

-- the cell of a scan that has seen nobody hold a ticket, and no label
abbrev pub scan_mark : Bool → List ℕ
scan_mark true = codes "."
scan_mark false = codes "-"

abbrev pub more_marks : Bool → ℕ → List ℕ
more_marks is_code zero = []
more_marks is_code (suc k) = more_marks is_code k ++ codes " " ++ scan_mark is_code

unfoldable pub scan_cell : Bool → ℕ → List ℕ
scan_cell is_code n = codes "<td>" ++ scan_mark is_code ++ more_marks is_code (n - 1) ++ codes "</td>"

-- whether each process runs, the line of its last step, what it holds, and its rank
abbrev pub status_row : ℕ → List ℕ
status_row n = fixed_row (codes "<tr data-k=\"s\"><th scope=\"row\">status</th>") n (codes "<td>running</td>")

abbrev pub step_rows : Bool → ℕ → List ℕ
step_rows true n =
    fixed_row (codes "<tr data-k=\"at\"><th scope=\"row\">place of its last step</th>") n (codes "<td>-</td>")
    ++ fixed_row (codes "<tr data-k=\"t\"><th scope=\"row\">label</th>") n (codes "<td>.</td>")
step_rows false n =
    fixed_row (codes "<tr data-k=\"at\"><th scope=\"row\">line of its last step</th>") n (codes "<td>-</td>")
    ++ fixed_row (codes "<tr data-k=\"t\"><th scope=\"row\">ticket</th>") n (codes "<td>0</td>")

abbrev pub rank_row : ℕ → List ℕ
rank_row n = fixed_row (codes "<tr data-k=\"o\"><th scope=\"row\">rank</th>") n (codes "<td>-</td>")

unfoldable pub process_rows : Bool → ℕ → List ℕ
process_rows is_code n = status_row n ++ step_rows is_code n ++ rank_row n

unfoldable pub column_head : ℕ → List ℕ
column_head p = around (codes "<th scope=\"col\">P") p (codes "</th>")

unfoldable pub table_top : List ℕ
table_top =
    codes "<div class=\"panes\">\n<section data-live hidden>\n<h2>State</h2>\n"
    ++ codes "<div class=\"box\" tabindex=\"0\" role=\"region\" aria-label=\"State\"><table id=\"state\" class=\"state\">\n"
    ++ codes "<caption>After the step; what it changed is marked</caption>\n<thead><tr><th scope=\"col\">process</th>"

unfoldable pub table_head : ℕ → List ℕ
table_head n = markup table_top ++ for_each column_head n ++ markup (codes "</tr></thead>\n<tbody>\n")

-- the registers, the scans and the variables
unfoldable pub named_rows : Bool → ℕ → List (List ℕ) → List (List ℕ) → List (List ℕ) → List ℕ
named_rows is_code n rows scans variables =
    headed_rows (codes "Registers") (codes "<tr data-k=\"r") (codes "<td>0</td>") n rows
    ++ headed_rows (scan_heading is_code) (codes "<tr data-k=\"c") (scan_cell is_code n) n scans
    ++ headed_rows (codes "Variables") (codes "<tr data-k=\"v") (codes "<td>0</td>") n variables

unfoldable pub table_text : Bool → ℕ → List (List ℕ) → List (List ℕ) → List (List ℕ) → List ℕ
table_text is_code n rows scans variables =
    table_head n ++ process_rows is_code n ++ named_rows is_code n rows scans variables
    ++ markup (codes "</tbody></table></div>\n</section>\n")
