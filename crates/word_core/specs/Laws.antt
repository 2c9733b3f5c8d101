-- What holds of all labels of processes, all stamps and all clears.
use Rattle.std.specs.Prelude.{◌≡◌, ◌≤◌, ℕ, List}
use Rattle.ticket_core.specs.Tickets.{start_tickets, stamp_ticket, clear_ticket, tickets_moved}
use Rattle.ticket_core.specs.declared.moves.Move.{Move}
use Rattle.word_core.specs.Stamps.{Labels, start_labels, stamped, cleared, labels_moved}
use Rattle.word_core.specs.Packed.{AreLabels, word}
use Rattle.word_core.specs.Agreement.{Agrees, StandsFor}

-- The labels at the start agree with the tickets; where labels agree with tickets they stand for
-- them; and after a stamp or a clear of any process they agree again.
pub record AgreementLaw : Type 0 where
  pub start : (n : ℕ) → Agrees n (start_tickets n) (start_labels n)
  pub stands : (n : ℕ) (tickets : List ℕ) (labels : Labels) → Agrees n tickets labels → StandsFor n tickets labels
  pub stamped : (n p : ℕ) (tickets : List ℕ) (labels : Labels) → Agrees n tickets labels
      → Agrees n (stamp_ticket p tickets) (stamped p labels)
  pub cleared : (n p : ℕ) (tickets : List ℕ) (labels : Labels) → Agrees n tickets labels
      → Agrees n (clear_ticket p tickets) (cleared p labels)

-- after any stamps and clears of `n` processes the labels stand for the tickets
abbrev pub MovesLaw : Type 0
MovesLaw = (n : ℕ) (moves : List Move)
    → StandsFor n (tickets_moved (start_tickets n) moves) (labels_moved (start_labels n) moves)

-- two lists of labels of one number of processes, at most six, with the same word are the same list
abbrev pub DistinctLaw : Type 0
DistinctLaw = (n : ℕ) → n ≤ 6 → (a b : Labels) → AreLabels n a → AreLabels n b → word a ≡ word b → a ≡ b
