use Rattle.ticklab_answers.proofs.Threaded.{threads_law}
use Rattle.ticklab_answers.proofs.laws.law_threads.Goals as goal

pub returns : goal.returns
returns c = threads_law
