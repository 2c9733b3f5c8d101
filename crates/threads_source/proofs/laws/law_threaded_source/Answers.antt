use Rattle.threads_source.proofs.Shown.{threaded_source_law}
use Rattle.threads_source.proofs.laws.law_threaded_source.Goals as goal

pub returns : goal.returns
returns c = threaded_source_law
