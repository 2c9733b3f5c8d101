-- The ticket object in whole numbers: a list with one ticket for each process, without bound. A process that
-- holds none has ticket 0.
use Rattle.std.specs.Prelude.{ℕ, ◌+◌, Bool, nat_lt, max, List, [], ◌∷◌, map, replicate, count_by, slice_index, slice_set}
use Rattle.ticket_core.specs.declared.moves.Move.{Move}
use Rattle.ticket_core.specs.declared.moves.Move.TheVariants.{Stamp, Clear}

-- at the start each of `n` processes holds ticket 0
abbrev pub start_tickets : ℕ → List ℕ
start_tickets n = replicate n 0

abbrev pub greatest_ticket : List ℕ → ℕ
greatest_ticket [] = 0
greatest_ticket (ticket ∷ tickets) = max ticket (greatest_ticket tickets)

-- process `p` takes the ticket one above the greatest
abbrev pub stamp_ticket : ℕ → List ℕ → List ℕ
stamp_ticket p tickets = slice_set tickets p (1 + greatest_ticket tickets)

-- process `p` gives its ticket up
abbrev pub clear_ticket : ℕ → List ℕ → List ℕ
clear_ticket p tickets = slice_set tickets p 0

-- whether process `i` holds a ticket
abbrev pub holds_ticket : List ℕ → ℕ → Bool
holds_ticket tickets i = nat_lt 0 (slice_index tickets i)

-- how many tickets are smaller than this one
abbrev pub tickets_below : List ℕ → ℕ → ℕ
tickets_below tickets ticket = count_by (λ other. nat_lt other ticket) tickets

-- for each process, how many processes hold a smaller ticket
abbrev pub ticket_ranks : List ℕ → List ℕ
ticket_ranks tickets = map (tickets_below tickets) tickets

-- whether the ticket of `i` is smaller than that of `j`
abbrev pub older_ticket : List ℕ → ℕ → ℕ → Bool
older_ticket tickets i j = nat_lt (slice_index tickets i) (slice_index tickets j)

abbrev pub moved_ticket : Move → List ℕ → List ℕ
moved_ticket (Stamp p) tickets = stamp_ticket p tickets
moved_ticket (Clear p) tickets = clear_ticket p tickets

-- the tickets after these moves in turn
abbrev pub tickets_moved : List ℕ → List Move → List ℕ
tickets_moved tickets [] = tickets
tickets_moved tickets (move ∷ moves) = tickets_moved (moved_ticket move tickets) moves
