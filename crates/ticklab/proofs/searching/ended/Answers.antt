use Rattle.ticklab.proofs.searching.ended.Goals as goal

pub returns-clause-ok : goal.returns-clause-ok
returns-clause-ok g c = record { comes = λ limits source is. c.in_ok-timed.ensures limits source is; heard = c.in_ok-hear.ensures.ok }
