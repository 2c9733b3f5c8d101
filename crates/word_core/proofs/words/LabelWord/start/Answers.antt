use Rattle.std.proofs.Common.{sym, subst}
use Rattle.ticket_core.specs.Tickets.{start_tickets}
use Rattle.word_core.specs.Stamps.{start_labels}
use Rattle.word_core.specs.Agreement.{Agrees}
use Rattle.word_core.proofs.Stamping.{agreement_law}
use Rattle.word_core.proofs.Views.{labels_read, start_word, word_self}
use Rattle.word_core.proofs.words.LabelWord.start.Goals as goal

pub invariant_of-result : goal.invariant_of-result
invariant_of-result c = let n = c.args.n in (c.requires.at_least_one, c.requires.at_most_six, word_self n 0 (start_labels n) c.requires.at_most_six (start_word n))

pub returns-clause-start : goal.returns-clause-start
returns-clause-start c = let n = c.args.n in labels_read n 0 (start_labels n) c.requires.at_most_six (start_word n)

pub returns-clause-agrees : goal.returns-clause-agrees
returns-clause-agrees c =
    let n = c.args.n in
    subst (Agrees n (start_tickets n)) (sym (labels_read n 0 (start_labels n) c.requires.at_most_six (start_word n))) (agreement_law.start n)
