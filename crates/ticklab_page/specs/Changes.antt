-- What the script replays: for each step its process, the line where it stands, and what it changed. `s` is the status of
-- the process, `r` a row with a number, `v` a variable; the process's own value follows. `c` is a scan of what all processes
-- hold, `d` one that is now a copy of the scan that follows. `t` are the tickets or labels of
-- all processes, whose ranks the trace tells.
use Rattle.std.specs.Prelude.{ℕ, ◌==◌, if◌then◌else◌, List, [], ◌∷◌, ◌++◌, codes, length, slice_index, Option, Some, None}
use Rattle.std.specs.List.{flat_map}
use Rattle.base.specs.declared.event.Act.{Act}
use Rattle.base.specs.declared.event.Act.TheVariants as A
use Rattle.word_core.specs.Stamps.{Labels, label_at}
use Rattle.ticklab_trace.specs.declared.steps.Scanned.{Scanned}
use Rattle.ticklab_trace.specs.declared.steps.Written.{Written}
use Rattle.ticklab_page.specs.Writing.{around, for_each, markup}
use Rattle.ticklab_page.specs.declared.steps.PageStep.{PageStep}

abbrev pub act_change : Option Act → List ℕ
act_change (Some (A.Put r v)) = around (codes " r") r [] ++ around (codes " ") v []
act_change (Some (A.Trap t)) = markup (codes " s trapped")
act_change (Some A.End) = markup (codes " s ended")
act_change _ = []

abbrev pub variable_change : Option Written → List ℕ
variable_change None = []
variable_change (Some w) = around (codes " v") w.variable [] ++ around (codes " ") w.value []

abbrev pub copy_change : ℕ → Option ℕ → List ℕ
copy_change scan None = around (codes " c") scan []
copy_change scan (Some of) = around (codes " d") scan [] ++ around (codes " ") of []

abbrev pub scan_change : Option Scanned → List ℕ
scan_change None = []
scan_change (Some s) = copy_change s.scan s.of

abbrev pub tickets_text : List ℕ → List ℕ
tickets_text tickets = for_each (λ i. around (codes " ") (slice_index tickets i) []) (length tickets)

abbrev pub ticket_change : Option (List ℕ) → List ℕ
ticket_change None = []
ticket_change (Some tickets) = markup (codes " t") ++ tickets_text tickets

-- the digits of a label, a dash where it has none, and a dot for an absent process
abbrev pub label_text : Option (List ℕ) → List ℕ
label_text None = markup (codes " .")
label_text (Some label) =
    if length label == 0 then markup (codes " -") else markup (codes " ") ++ flat_map (λ digit. around [] digit []) label

abbrev pub labels_text : Labels → List ℕ
labels_text labels = for_each (λ i. label_text (label_at labels i)) (length labels)

abbrev pub label_change : Option Labels → List ℕ
label_change None = []
label_change (Some labels) = markup (codes " t") ++ labels_text labels

abbrev pub change_line : PageStep → List ℕ
change_line step =
    around [] step.process [] ++ around (codes " ") step.line [] ++ act_change step.act ++ variable_change step.written
    ++ scan_change step.scanned ++ ticket_change step.tickets ++ label_change step.labels ++ markup (codes ";\n")

abbrev pub change_lines : List PageStep → List ℕ
change_lines [] = []
change_lines (step ∷ steps) = change_line step ++ change_lines steps
