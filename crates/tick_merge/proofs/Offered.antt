-- What other crates may cite of one process by itself, of merged histories, and of a run worked by hand.
use Rattle.tick_merge.specs.Laws.{MergeLaw}
use Rattle.tick_merge.proofs.Whole
pub use Rattle.tick_merge.proofs.OneProcess.{once_per_answers, came_by, makes_more, local_run_next, steps_own, outputs_of-append, outputs_of-told}
pub use Rattle.tick_merge.proofs.RunExamples.{gives_seven, seven_given, seven_run}

pub merge_law : MergeLaw
merge_law = Whole.merge_law
