use Rattle.language_schedules.proofs.ReadingBack.{written_reads_back}
use Rattle.language_schedules.proofs.laws.law_schedules.Goals as goal

pub returns : goal.returns
returns c = written_reads_back
