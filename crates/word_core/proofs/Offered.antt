-- The lemmas on the labels of all processes that other crates may cite.
use Rattle.std.proofs.Common.{◌≡◌, ℕ, ◌<◌, ◌≤◌, None, Some, List, [], ◌∷◌, length, refl, ◌∙◌, length-set, get_or-set_same, get_or-set_other}
use Rattle.std.specs.Prelude.{◌≢◌}
use Rattle.std.proofs.lemmas.List.{length-replicate, length-map, set_past}
use Rattle.label_core.specs.Labels.{next}
use Rattle.ticket_core.specs.declared.moves.Move.{Move}
use Rattle.ticket_core.specs.declared.moves.Move.TheVariants.{Stamp, Clear}
use Rattle.word_core.specs.Stamps.{Labels, start_labels, label_at, present, stamped, cleared, moved, labels_moved}
use Rattle.word_core.specs.Packed.{AreLabels}
use Rattle.word_core.specs.Order.{IsOrdered, labels_below, label_ranks}
use Rattle.word_core.proofs.Stamping.{cleared_in_order}
pub use Rattle.word_core.proofs.Stamping.{agreement_law, moves_law, stamped_are, stamped_ordered, cleared_are}
pub use Rattle.word_core.proofs.Views.{distinct_law}

pub length-start_labels : (n : ℕ) → length (start_labels n) ≡ n
length-start_labels n = length-replicate n None

pub length-stamped : (p : ℕ) (labels : Labels) → length (stamped p labels) ≡ length labels
length-stamped p labels = length-set labels p (Some (next (length labels) (present (cleared p labels))))

pub length-cleared : (p : ℕ) (labels : Labels) → length (cleared p labels) ≡ length labels
length-cleared p labels = length-set labels p None

pub length-moved : (move : Move) (labels : Labels) → length (moved move labels) ≡ length labels
length-moved (Stamp p) labels = length-stamped p labels
length-moved (Clear p) labels = length-cleared p labels

pub length-labels_moved : (moves : List Move) (labels : Labels) → length (labels_moved labels moves) ≡ length labels
length-labels_moved [] labels = refl
length-labels_moved (move ∷ moves) labels = length-labels_moved moves (moved move labels) ∙ length-moved move labels

pub length-label_ranks : (labels : Labels) → length (label_ranks labels) ≡ length labels
length-label_ranks labels = length-map labels (labels_below labels)

-- the labels at the start are ordered labels
pub start_are : (n : ℕ) → AreLabels n (start_labels n)
start_are n = (moves_law n []).are

pub start_ordered : (n : ℕ) → IsOrdered (start_labels n)
start_ordered n = (moves_law n []).ordered

-- a stamp and a clear keep them so: `stamped_are`, `stamped_ordered`, `cleared_are`, and
pub cleared_ordered : (p : ℕ) (labels : Labels) → IsOrdered labels → IsOrdered (cleared p labels)
cleared_ordered = cleared_in_order

-- the process that stamped has the next label, and no other label changed
pub stamped_same : (p : ℕ) (labels : Labels) → p < length labels → label_at (stamped p labels) p ≡ Some (next (length labels) (present (cleared p labels)))
stamped_same p labels inside = get_or-set_same labels p (Some (next (length labels) (present (cleared p labels)))) None inside

pub stamped_other : (p j : ℕ) (labels : Labels) → j ≢ p → label_at (stamped p labels) j ≡ label_at labels j
stamped_other p j labels other = get_or-set_other labels p j (Some (next (length labels) (present (cleared p labels)))) None other

-- the process that gave its label up has none, and no other label changed
pub cleared_same : (p : ℕ) (labels : Labels) → p < length labels → label_at (cleared p labels) p ≡ None
cleared_same p labels inside = get_or-set_same labels p None None inside

pub cleared_other : (p j : ℕ) (labels : Labels) → j ≢ p → label_at (cleared p labels) j ≡ label_at labels j
cleared_other p j labels other = get_or-set_other labels p j None None other

-- a process that there is not changes nothing
pub stamped_past : (p : ℕ) (labels : Labels) → length labels ≤ p → stamped p labels ≡ labels
stamped_past p labels past = set_past labels p (Some (next (length labels) (present (cleared p labels)))) past

pub cleared_past : (p : ℕ) (labels : Labels) → length labels ≤ p → cleared p labels ≡ labels
cleared_past p labels past = set_past labels p None past
