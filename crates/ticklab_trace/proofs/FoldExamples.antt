-- Rows of private steps, computed: two processes, a part that begins within a row, and nothing.
use Rattle.std.proofs.Common.{◌≡◌, refl, ℕ, true, false, List, [], ◌∷◌, Some, None}
use Rattle.ticklab_trace.specs.Folds.{fold_at, rows_from, rows_past}
use Rattle.ticklab_trace.specs.declared.folds.Fold.TheVariants.{Apart, Begins, Within}
use Rattle.ticklab_trace.specs.declared.folds.Privacy.{Privacy}
use Rattle.ticklab_trace.specs.declared.folds.Row.{Row}
use Rattle.ticklab_trace.specs.declared.parts.Parts.{Parts}

abbrev hidden : ℕ → Privacy
hidden p = record { process = p; is_private = true }

abbrev seen : ℕ → Privacy
seen p = record { process = p; is_private = false }

abbrev row : ℕ → ℕ → ℕ → Row
row first end p = record { first = first; end = end; process = p }

two_processes : rows_from None 0 None (hidden 0 ∷ hidden 0 ∷ hidden 1 ∷ seen 1 ∷ hidden 0 ∷ []) ≡ row 0 2 0 ∷ row 2 3 1 ∷ row 4 5 0 ∷ []
two_processes = refl

two_parts : rows_from (Some (record { lead_in = 1; cycle = 3 })) 0 None (hidden 0 ∷ hidden 0 ∷ hidden 0 ∷ hidden 0 ∷ []) ≡ row 0 1 0 ∷ row 1 3 0 ∷ row 3 4 0 ∷ []
two_parts = refl

nothing : rows_from None 7 None (seen 0 ∷ seen 1 ∷ []) ≡ []
nothing = refl

begins : fold_at (row 2 4 1 ∷ []) 2 ≡ Begins (row 2 4 1)
begins = refl

within : fold_at (row 2 4 1 ∷ []) 3 ≡ Within
within = refl

apart : fold_at (row 2 4 1 ∷ []) 1 ≡ Apart
apart = refl

past : rows_past (row 2 4 1 ∷ row 6 7 0 ∷ []) 3 ≡ row 6 7 0 ∷ []
past = refl
