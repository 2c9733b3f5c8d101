-- The labels of all processes, in order of process number, and what stamps and clears do to them.
use Rattle.std.specs.Prelude.{ℕ, Bool, true, false, Option, None, Some, List, [], ◌∷◌, length, replicate, slice_set, slice_index_or}
use Rattle.std.specs.List.{filter_map}
use Rattle.label_core.specs.Labels.{next}
use Rattle.ticket_core.specs.declared.moves.Move.{Move}
use Rattle.ticket_core.specs.declared.moves.Move.TheVariants.{Stamp, Clear}

-- for each process its label, or `None` where it is absent, as one without a ticket is
abbrev pub Labels : Type 0
Labels = List (Option (List ℕ))

-- at the start all of `n` processes are absent
abbrev pub start_labels : ℕ → Labels
start_labels n = replicate n None

abbrev pub label_at : Labels → ℕ → Option (List ℕ)
label_at labels i = slice_index_or labels i None

abbrev pub is_present : Option (List ℕ) → Bool
is_present None = false
is_present (Some label) = true

-- the labels of the processes that are present
abbrev pub present : Labels → List (List ℕ)
present labels = filter_map (λ label. label) labels

-- process `p` gives its label up
abbrev pub cleared : ℕ → Labels → Labels
cleared p labels = slice_set labels p None

-- process `p` takes the next label beside those of the others that are present
abbrev pub stamped : ℕ → Labels → Labels
stamped p labels = slice_set labels p (Some (next (length labels) (present (cleared p labels))))

abbrev pub moved : Move → Labels → Labels
moved (Stamp p) labels = stamped p labels
moved (Clear p) labels = cleared p labels

-- the labels after these moves in turn
abbrev pub labels_moved : Labels → List Move → Labels
labels_moved labels [] = labels
labels_moved labels (move ∷ moves) = labels_moved (moved move labels) moves
