-- When labels agree with tickets, and when they stand for them.
use Rattle.std.specs.Prelude.{◌≡◌, ◌≢◌, ℕ, ◌<◌, List, true}
use Rattle.ticket_core.specs.Tickets.{ticket_ranks, older_ticket, holds_ticket}
use Rattle.word_core.specs.Stamps.{Labels, label_at, is_present}
use Rattle.word_core.specs.Packed.{AreLabels}
use Rattle.word_core.specs.Order.{OrderedBy, IsOrdered, older_label, label_ranks}

-- the labels of `n` processes are ordered by the tickets: a process is present exactly where its
-- ticket is not 0, and no other ticket is held twice
pub record Agrees (n : ℕ) (tickets : List ℕ) (labels : Labels) : Type 0 where
  pub are : AreLabels n labels
  pub by : OrderedBy labels tickets

-- the labels of `n` processes tell what the tickets tell, and those that are present differ
pub record StandsFor (n : ℕ) (tickets : List ℕ) (labels : Labels) : Type 0 where
  pub are : AreLabels n labels
  pub ordered : IsOrdered labels
  pub ranks : label_ranks labels ≡ ticket_ranks tickets
  pub older : (i j : ℕ) → i < n → j < n → older_label labels i j ≡ older_ticket tickets i j
  pub held : (i : ℕ) → i < n → is_present (label_at labels i) ≡ holds_ticket tickets i
  pub distinct : (i j : ℕ) → i < n → j < n → i ≢ j → is_present (label_at labels i) ≡ true → label_at labels i ≢ label_at labels j
