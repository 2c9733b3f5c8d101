-- The lemmas on tickets that other crates may cite.
use Rattle.std.proofs.Common.{◌≡◌, ℕ, zero, suc, ◌+◌, ◌<◌, ◌≤◌, List, [], ◌∷◌, length, max, set, refl, ap, ◌∙◌, arith, length-set, get_or-set_same, get_or-set_other}
use Rattle.std.specs.Prelude.{◌≢◌, slice_index}
use Rattle.std.proofs.lemmas.List.{length-replicate, length-map, set_past}
use Rattle.std.proofs.Math.Nat.{le-max_right}
use Rattle.ticket_core.specs.Tickets.{start_tickets, greatest_ticket, stamp_ticket, clear_ticket, tickets_below, ticket_ranks, moved_ticket, tickets_moved}
use Rattle.ticket_core.specs.declared.moves.Move.{Move}
use Rattle.ticket_core.specs.declared.moves.Move.TheVariants.{Stamp, Clear}

pub length-start_tickets : (n : ℕ) → length (start_tickets n) ≡ n
length-start_tickets n = length-replicate n 0

pub length-stamp_ticket : (p : ℕ) (tickets : List ℕ) → length (stamp_ticket p tickets) ≡ length tickets
length-stamp_ticket p tickets = length-set tickets p (1 + greatest_ticket tickets)

pub length-clear_ticket : (p : ℕ) (tickets : List ℕ) → length (clear_ticket p tickets) ≡ length tickets
length-clear_ticket p tickets = length-set tickets p 0

pub length-moved_ticket : (move : Move) (tickets : List ℕ) → length (moved_ticket move tickets) ≡ length tickets
length-moved_ticket (Stamp p) tickets = length-stamp_ticket p tickets
length-moved_ticket (Clear p) tickets = length-clear_ticket p tickets

pub length-tickets_moved : (moves : List Move) (tickets : List ℕ) → length (tickets_moved tickets moves) ≡ length tickets
length-tickets_moved [] tickets = refl
length-tickets_moved (move ∷ moves) tickets = length-tickets_moved moves (moved_ticket move tickets) ∙ length-moved_ticket move tickets

pub length-ticket_ranks : (tickets : List ℕ) → length (ticket_ranks tickets) ≡ length tickets
length-ticket_ranks tickets = length-map tickets (tickets_below tickets)

-- the ticket of the process that stamped is one above the greatest, and no other ticket changed
pub stamp_ticket_same : (p : ℕ) (tickets : List ℕ) → p < length tickets → slice_index (stamp_ticket p tickets) p ≡ 1 + greatest_ticket tickets
stamp_ticket_same p tickets inside = get_or-set_same tickets p (1 + greatest_ticket tickets) 0 inside

pub stamp_ticket_other : (p j : ℕ) (tickets : List ℕ) → j ≢ p → slice_index (stamp_ticket p tickets) j ≡ slice_index tickets j
stamp_ticket_other p j tickets other = get_or-set_other tickets p j (1 + greatest_ticket tickets) 0 other

-- a process that there is not changes nothing
pub stamp_ticket_past : (p : ℕ) (tickets : List ℕ) → length tickets ≤ p → stamp_ticket p tickets ≡ tickets
stamp_ticket_past p tickets past = set_past tickets p (1 + greatest_ticket tickets) past

-- the process that gave its ticket up holds none, and no other ticket changed
pub clear_ticket_same : (p : ℕ) (tickets : List ℕ) → p < length tickets → slice_index (clear_ticket p tickets) p ≡ 0
clear_ticket_same p tickets inside = get_or-set_same tickets p 0 0 inside

pub clear_ticket_other : (p j : ℕ) (tickets : List ℕ) → j ≢ p → slice_index (clear_ticket p tickets) j ≡ slice_index tickets j
clear_ticket_other p j tickets other = get_or-set_other tickets p j 0 0 other

pub clear_ticket_past : (p : ℕ) (tickets : List ℕ) → length tickets ≤ p → clear_ticket p tickets ≡ tickets
clear_ticket_past p tickets past = set_past tickets p 0 past

pub ticket_le_greatest : (tickets : List ℕ) (j : ℕ) → slice_index tickets j ≤ greatest_ticket tickets
ticket_le_greatest [] j = omega arith
ticket_le_greatest (ticket ∷ tickets) zero = omega arith
ticket_le_greatest (ticket ∷ tickets) (suc j) = omega (arith, ticket_le_greatest tickets j)

pub greatest-start_tickets : (n : ℕ) → greatest_ticket (start_tickets n) ≡ 0
greatest-start_tickets zero = refl
greatest-start_tickets (suc n) = ap (max 0) (greatest-start_tickets n)

-- no ticket is above the greatest and the one that was written
greatest_set : (tickets : List ℕ) (p v : ℕ) → greatest_ticket (set tickets p v) ≤ max v (greatest_ticket tickets)
greatest_set [] p v = le-max_right v 0
greatest_set (t ∷ tickets) zero v = omega arith
greatest_set (t ∷ tickets) (suc p) v = omega (arith, greatest_set tickets p v)

-- a stamp raises the greatest ticket by one at most
pub greatest-stamp_ticket : (p : ℕ) (tickets : List ℕ) → greatest_ticket (stamp_ticket p tickets) ≤ 1 + greatest_ticket tickets
greatest-stamp_ticket p tickets = omega (arith, greatest_set tickets p (1 + greatest_ticket tickets))

-- and a clear doesn't raise it
pub greatest-clear_ticket : (p : ℕ) (tickets : List ℕ) → greatest_ticket (clear_ticket p tickets) ≤ greatest_ticket tickets
greatest-clear_ticket p tickets = omega (arith, greatest_set tickets p 0)
