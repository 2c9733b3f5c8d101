use Rattle.std.proofs.Common.{Err, arith, refl, subst, sym}
use Rattle.ticketc_answers.specs.Commands.{asks_run}
use Rattle.ticketc_answers.specs.Ended.{asked_by}
use Rattle.ticketc_answers.specs.prover.Responses.{IsUnanswered}
use Rattle.ticketc_answers.proofs.Exits.{ended_of}
use Rattle.ticketc_answers.proofs.ServingLemmas.{takes_none, unanswered}
use Rattle.ticketc_answers.proofs.whole.ended.Goals as goal

pub returns-in-Err-words_of : goal.returns-in-Err-words_of
returns-in-Err-words_of g c =
    let memory = subst (IsUnanswered (asks_run (asked_by c.in-Ok.given))) (sym c.in-Err-words_of.ensures.err) tt in
    rw c.in-Ok.is (ended_of c.in-Ok.given _ _ _ _ _ _ _ _ (Err c.in-Err-words_of.fault) _
    (unanswered (asked_by c.in-Ok.given) g.R.ByteSource.remaining g.R.ByteSource.counts g.W.ByteSink.written g.W.ByteSink.counts c.args.reader.now c.args.reader.now
    (λ _. refl) (takes_none _) (omega arith) c.in-Err-words_of.fault memory _ refl) c.exits-in-Err-words_of.ensures)
