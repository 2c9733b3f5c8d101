-- The ranks of the processes that there are, in the row in which a word gives them.
use Rattle.std.proofs.Common.{◌≡◌, ◌∙◌, ◌-◌, ◌++◌, ℕ, List, ap, length, replicate, sym, take}
use Rattle.std.proofs.Math.Seq.{take-append_seam}
use Rattle.word_core.specs.Order.{label_ranks}
use Rattle.word_core.specs.Stamps.{Labels}
use Rattle.word_core.proofs.Offered.{length-label_ranks}
use Rattle.ticklab_draw.specs.labels.Captions.{order_of, order_text}

pub front : (labels : Labels) (row : List ℕ) → row ≡ label_ranks labels ++ replicate (6 - length labels) 0
    → take (length labels) row ≡ label_ranks labels
front labels row is =
    ap (λ (n : ℕ). take n row) (sym (length-label_ranks labels)) ∙ ap (take (length (label_ranks labels))) is
    ∙ take-append_seam (label_ranks labels) (replicate (6 - length labels) 0)

pub order_of_row : (labels : Labels) (row : List ℕ) (n : ℕ) → row ≡ label_ranks labels ++ replicate (6 - length labels) 0 → n ≡ length labels
    → order_text (take n row) (length (take n row)) ≡ order_of labels
order_of_row labels row n is count =
    ap (λ (k : ℕ). order_text (take k row) (length (take k row))) count
    ∙ ap (λ (ranks : List ℕ). order_text ranks (length ranks)) (front labels row is)
