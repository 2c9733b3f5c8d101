-- What other crates may cite of runs of a program's code on threads, and an example worked by hand.
use Rattle.threads_source.specs.Laws.{ThreadedSourceLaw}
use Rattle.threads_source.proofs.Shown
pub use Rattle.threads_source.proofs.Examples.{shows_seven}

pub threaded_source_law : ThreadedSourceLaw
threaded_source_law = Shown.threaded_source_law
