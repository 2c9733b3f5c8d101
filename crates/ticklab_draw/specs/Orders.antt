-- Who holds a ticket, from the smallest ticket to the greatest.
use Rattle.std.specs.Prelude.{ℕ, zero, suc, ◌==◌, ◌&&◌, nat_lt, Bool, if◌then◌else◌, List, [], ◌∷◌, ◌++◌, length, slice_index}
use Rattle.std.specs.Fmt.{decimal}
use Rattle.ticket_core.specs.Tickets.{holds_ticket, tickets_below}
use Rattle.word_core.specs.Order.{label_ranks}
use Rattle.word_core.specs.Stamps.{Labels, is_present, label_at}
use Rattle.ticklab_draw.specs.declared.mark.Holdings.{Holdings}
use Rattle.ticklab_draw.specs.declared.mark.Holdings.TheVariants as H
use Rattle.ticklab_draw.specs.declared.orders.TheConstants.{NOBODY}
use Rattle.ticklab_draw.specs.declared.writing.TheConstants.{LESS_THAN}

-- whether process `i` holds a ticket that has this rank: so many others are smaller
abbrev pub has_ticket_rank : List ℕ → ℕ → ℕ → Bool
has_ticket_rank tickets rank i = holds_ticket tickets i && (tickets_below tickets (slice_index tickets i) == rank)

abbrev pub has_label_rank : Labels → ℕ → ℕ → Bool
has_label_rank labels rank i =
    nat_lt i (length labels) && is_present (label_at labels i) && (slice_index (label_ranks labels) i == rank)

abbrev pub has_rank : Holdings → ℕ → ℕ → Bool
has_rank (H.Tickets tickets) rank i = has_ticket_rank tickets rank i
has_rank (H.Labels labels) rank i = has_label_rank labels rank i

-- the processes of this rank below `i`
unfoldable pub ranked : Holdings → ℕ → ℕ → List ℕ
ranked held rank zero = []
ranked held rank (suc i) = if has_rank held rank i then ranked held rank i ++ i ∷ [] else ranked held rank i

-- those of `n` processes whose rank is below this, the oldest first
unfoldable pub holders_below : Holdings → ℕ → ℕ → List ℕ
holders_below held n zero = []
holders_below held n (suc rank) = holders_below held n rank ++ ranked held rank n

-- all who hold a ticket, the oldest first
unfoldable pub holders : Holdings → List ℕ
holders held = holders_below held 6 6

-- each after a sign that the one before it is older
abbrev pub younger_text : List ℕ → List ℕ
younger_text [] = []
younger_text (p ∷ ps) = LESS_THAN.now ++ decimal p ++ younger_text ps

abbrev pub order_words : List ℕ → List ℕ
order_words [] = NOBODY.now
order_words (p ∷ ps) = decimal p ++ younger_text ps
