use Rattle.ticklab_files.proofs.ProgramFiles.{is_of}
use Rattle.ticklab_files.proofs.reading.program_of.Goals as goal

pub returns-clause-ok : goal.returns-clause-ok
returns-clause-ok c = is_of _ _ _ c.in_ok-spelled.ensures.spelled.0 c.in_ok-spelled.ensures.questions
