-- What holds of a word that is changed by stamps and clears alone.
use Rattle.std.specs.Prelude.{ℕ, List}
use Rattle.ticket_core.specs.Tickets.{start_tickets, tickets_moved}
use Rattle.ticket_core.specs.declared.moves.Move.{Move}
use Rattle.word_core.specs.Stamps.{Labels}
use Rattle.word_core.specs.Packed.{IsWordOf}
use Rattle.word_core.specs.Agreement.{StandsFor}
use Rattle.ticket_word.specs.Standing.{IsCount, Stands}
use Rattle.ticket_word.specs.Changes.{LeadsTo}

-- whatever moves make of the empty word stands for the tickets that they make
abbrev pub ChangesLaw : Type 0
ChangesLaw = (n : ℕ) → IsCount n → (moves : List Move) (bits : ℕ) → LeadsTo n 0 moves bits
    → Stands n bits (tickets_moved (start_tickets n) moves)

-- the labels of a word tell what the tickets tell that it stands for
abbrev pub TellingLaw : Type 0
TellingLaw = (n bits : ℕ) (tickets : List ℕ) → Stands n bits tickets → (labels : Labels) → IsWordOf n bits labels
    → StandsFor n tickets labels
