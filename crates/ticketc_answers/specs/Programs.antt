-- What the commands on a program answer.
use Rattle.std.specs.Prelude.{ℕ, List}
use Rattle.base.specs.Plain.{Name, WholeProgram}
use Rattle.language_schedules.specs.Schedule.{schedule_of}
use Rattle.tick_kinds.specs.Resolution.{resolved}
use Rattle.tick_play.specs.Report.{source_report}
use Rattle.tick_syntax.specs.Printed.{printed}
use Rattle.ticketc_answers.specs.Answer.{Answer, done, scheduled}

abbrev pub check_answer : WholeProgram Name → Answer
check_answer p = done (printed p)

-- `source` with the text of a schedule
abbrev pub source_answer : List ℕ → WholeProgram Name → Answer
source_answer schedule p = scheduled (source_report (resolved p)) (schedule_of p.processes schedule)
