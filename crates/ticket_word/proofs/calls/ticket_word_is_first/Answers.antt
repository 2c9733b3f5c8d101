use Rattle.std.proofs.Common.{arith}
use Rattle.ticket_word.proofs.Answering.{first_told}
use Rattle.ticket_word.proofs.calls.ticket_word_is_first.Goals as goal

pub returns-in-Ok-clause-first : goal.returns-in-Ok-clause-first
returns-in-Ok-clause-first c =
    let asked = c.in-Ok.ensures.ok in
    λ _ tickets stands.
    let both = first_told c.args.n c.args.word tickets c.in-Ok.labels stands asked.is c.args.p (asked.are 0 0 (omega arith)) in
    ((λ yes. both.0 (c.is_first.ensures.0 yes)), (λ first. c.is_first.ensures.1 (both.1 first)))
