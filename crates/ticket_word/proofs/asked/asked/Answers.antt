use Rattle.ticket_word.proofs.Telling.{tells_word}
use Rattle.ticket_word.proofs.asked.asked.Goals as goal

pub returns-in-Some-clause-ok : goal.returns-in-Some-clause-ok
returns-in-Some-clause-ok c =
    let within = c.in_ok-within.ensures.ok in
    let known = c.in-Some.ensures in
    record { count = within.0; are = within.1; is = known.0; ordered = known.1 }

pub returns-in-None-clause-err : goal.returns-in-None-clause-err
returns-in-None-clause-err c =
    let within = c.in_ok-within.ensures.ok in
    tells_word c.args.n c.args.bits c.args.processes.now within.0 within.1
    (λ known. let s = known.stands in c.in-None.ensures s.labels s.is (known.tickets, s.agrees.by))
