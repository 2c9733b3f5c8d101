-- What tickets a 64-bit word stands for.
use Rattle.std.specs.Prelude.{◌≤◌, ℕ, List, IsTrue}
use Rattle.ticket_core.specs.Tickets.{holds_ticket, older_ticket}
use Rattle.word_core.specs.Stamps.{Labels}
use Rattle.word_core.specs.Packed.{IsWordOf}
use Rattle.word_core.specs.Agreement.{Agrees}

-- as many processes as a word has room for
pub record IsCount (n : ℕ) : Type 0 where
  pub some : 1 ≤ n
  pub few : n ≤ 6

-- `bits` is the word of labels that agree with these tickets of `n` processes
pub record Stands (n bits : ℕ) (tickets : List ℕ) : Type 0 where
  pub count : IsCount n
  pub labels : Labels
  pub is : IsWordOf n bits labels
  pub agrees : Agrees n tickets labels

-- `bits` stands for some tickets of `n` processes
pub record IsTicketWord (n bits : ℕ) : Type 0 where
  pub tickets : List ℕ
  pub stands : Stands n bits tickets

-- process `p` holds a ticket, and nobody who holds one has a smaller one
pub record IsFirst (tickets : List ℕ) (p : ℕ) : Type 0 where
  pub holds : IsTrue (holds_ticket tickets p)
  pub smallest : (i : ℕ) → IsTrue (holds_ticket tickets i) → ¬ IsTrue (older_ticket tickets i p)
