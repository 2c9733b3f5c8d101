use Rattle.tick_syntax.proofs.RoundTrips.{reads_back, stays}
use Rattle.tick_syntax.proofs.SpansAside.{same_printed, same_nesting}
use Rattle.tick_syntax.proofs.laws.law_print.Goals as goal

pub returns-clause-reads_back : goal.returns-clause-reads_back
returns-clause-reads_back c = reads_back

pub returns-clause-stays : goal.returns-clause-stays
returns-clause-stays c = stays

pub returns-clause-spans : goal.returns-clause-spans
returns-clause-spans c = λ p q same. (same_printed p q same, same_nesting p q same)
