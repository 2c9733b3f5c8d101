use Rattle.std.proofs.Common.{[], sym, subst}
use Rattle.ticket_core.specs.Tickets.{start_tickets}
use Rattle.ticket_word.specs.Faults.{Tells}
use Rattle.ticket_word.proofs.Telling.{tells_nothing}
use Rattle.ticket_word.proofs.Changing.{start_stands}
use Rattle.ticket_word.proofs.calls.ticket_word_start.Goals as goal

pub returns-in-Ok-clause-tickets : goal.returns-in-Ok-clause-tickets
returns-in-Ok-clause-tickets c = λ _. start_stands c.args.n c.in-Ok.ensures.ok.0

pub returns-in-Ok-clause-fault : goal.returns-in-Ok-clause-fault
returns-in-Ok-clause-fault c =
    let n = c.args.n in
    tells_nothing n 0 [] c.in-Ok.ensures.ok.1 (record { tickets = start_tickets n; stands = start_stands n c.in-Ok.ensures.ok.0 })

pub returns-in-Err-clause-fault : goal.returns-in-Err-clause-fault
returns-in-Err-clause-fault c = subst (Tells c.args.n 0 []) (sym c.number.ensures) (c.in-Err.ensures.err 0)
