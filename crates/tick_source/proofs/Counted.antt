-- No ticket is greater than the number of events: each was taken by a step that gave one, and a clear takes
-- one away.
use Rattle.std.proofs.Common.{◌≡◌, ℕ, ◌+◌, ◌≤◌, List, [], ◌∷◌, ◌++◌, ap, ◌∙◌, length, arith}
use Rattle.std.proofs.lemmas.List.{length-append}
use Rattle.ticket_core.specs.Tickets.{greatest_ticket, stamp_ticket, clear_ticket}
use Rattle.ticket_core.proofs.Offered.{greatest-stamp_ticket, greatest-clear_ticket}
use Rattle.base.specs.declared.event.Event.{Event}

module _ (p : ℕ) (old told new : List ℕ) (events more : List Event) (event : Event) (same : told ≡ old) (longer : more ≡ events ++ event ∷ [])
    (counted : greatest_ticket old ≤ length events) where
  grown_on : greatest_ticket new ≤ 1 + greatest_ticket old → greatest_ticket new ≤ length more
  grown_on grown = omega (arith, grown, ap length longer, length-append events (event ∷ []), counted)

  -- a stamp and its event
  pub stamped_on : new ≡ stamp_ticket p told → greatest_ticket new ≤ length more
  stamped_on stamped = grown_on (omega (arith, ap greatest_ticket (stamped ∙ ap (stamp_ticket p) same), greatest-stamp_ticket p old))

  -- a clear and its event
  pub cleared_on : new ≡ clear_ticket p told → greatest_ticket new ≤ length more
  cleared_on cleared = grown_on (omega (arith, ap greatest_ticket (cleared ∙ ap (clear_ticket p) same), greatest-clear_ticket p old))
