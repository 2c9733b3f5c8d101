-- What a stamp and a clear make of a word, and of the tickets that it stands for.
use Rattle.std.proofs.Common.{◌≡◌, ℕ, zero, suc, ◌*◌, ◌^◌, Option, None, List, [], ◌∷◌, refl, sym, ap, ◌∙◌, subst, arith}
use Rattle.ticket_core.specs.Tickets.{start_tickets, moved_ticket, tickets_moved}
use Rattle.ticket_core.specs.declared.moves.Move.{Move}
use Rattle.ticket_core.specs.declared.moves.Move.TheVariants.{Stamp, Clear}
use Rattle.word_core.specs.Stamps.{Labels, start_labels, moved}
use Rattle.word_core.specs.Packed.{IsWordOf, byte, presence, fields, word}
use Rattle.word_core.specs.Agreement.{Agrees}
use Rattle.word_core.proofs.Offered.{agreement_law, distinct_law}
use Rattle.ticket_word.specs.Standing.{IsCount, Stands}
use Rattle.ticket_word.specs.Changes.{Makes, LeadsTo}
use Rattle.ticket_word.specs.Laws.{ChangesLaw, TellingLaw}

-- a word that stands for tickets is that of one list of labels, which agree with them
pub agrees_with : (n bits : ℕ) (tickets : List ℕ) (labels : Labels) → Stands n bits tickets → IsWordOf n bits labels → Agrees n tickets labels
agrees_with n bits tickets labels s is =
    subst (Agrees n tickets) (distinct_law n s.count.few s.labels labels s.is.are is.are (s.is.packs ∙ sym is.packs)) s.agrees

pub telling_law : TellingLaw
telling_law n bits tickets s labels is = agreement_law.stands n tickets labels (agrees_with n bits tickets labels s is)

moved_agrees : (n : ℕ) (move : Move) (tickets : List ℕ) (labels : Labels) → Agrees n tickets labels → Agrees n (moved_ticket move tickets) (moved move labels)
moved_agrees n (Stamp p) tickets labels agrees = agreement_law.stamped n p tickets labels agrees
moved_agrees n (Clear p) tickets labels agrees = agreement_law.cleared n p tickets labels agrees

-- what a move makes of a word stands for what it makes of the tickets
pub made_stands : (n bits next : ℕ) (move : Move) (tickets : List ℕ) → Makes n bits move next → Stands n bits tickets → Stands n next (moved_ticket move tickets)
made_stands n bits next move tickets made s =
    let agrees : Agrees n (moved_ticket move tickets) (moved move made.labels) =
    moved_agrees n move tickets made.labels (agrees_with n bits tickets made.labels s made.is) in
    record {
      count = s.count;
      labels = moved move made.labels;
      is = record { are = agrees.are; packs = made.makes };
      agrees = agrees;
    }

-- so does the word of what it makes of the labels
pub word_stands : (n bits next : ℕ) (move : Move) (labels : Labels) → IsWordOf n bits labels → next ≡ word (moved move labels)
    → (tickets : List ℕ) → Stands n bits tickets → Stands n next (moved_ticket move tickets)
word_stands n bits next move labels is makes tickets s =
    made_stands n bits next move tickets (record { labels = labels; is = is; makes = sym makes }) s

from_stands : (n bits last : ℕ) (moves : List Move) (tickets : List ℕ) → Stands n bits tickets → LeadsTo n bits moves last → Stands n last (tickets_moved tickets moves)
from_stands n bits last [] tickets s leads = subst (λ w. Stands n w tickets) leads s
from_stands n bits last (move ∷ moves) tickets s leads =
    from_stands n leads.0 last moves (moved_ticket move tickets) (made_stands n bits leads.0 move tickets leads.1 s) leads.2

fields_start : (width : ℕ) (number : Option (List ℕ) → ℕ) (n : ℕ) → number None ≡ 0 → fields width number (start_labels n) ≡ 0
fields_start width number zero none = refl
fields_start width number (suc n) none = omega (arith, ap (λ rest. rest * 2 ^ width) (fields_start width number n none), none)

start_word : (n : ℕ) → word (start_labels n) ≡ 0
start_word n = omega (arith, fields_start 8 byte n refl, fields_start 1 presence n refl)

pub start_stands : (n : ℕ) → IsCount n → Stands n 0 (start_tickets n)
start_stands n count = record {
  count = count;
  labels = start_labels n;
  is = record { are = (agreement_law.start n).are; packs = start_word n };
  agrees = agreement_law.start n;
}

pub changes_law : ChangesLaw
changes_law n count moves bits leads = from_stands n 0 bits moves (start_tickets n) (start_stands n count) leads
