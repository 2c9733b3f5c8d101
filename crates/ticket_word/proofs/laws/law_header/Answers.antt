use Rattle.ticket_word.proofs.Changing.{changes_law, telling_law}
use Rattle.ticket_word.proofs.laws.law_header.Goals as goal

pub returns-clause-changes : goal.returns-clause-changes
returns-clause-changes c = changes_law

pub returns-clause-tells : goal.returns-clause-tells
returns-clause-tells c = telling_law
