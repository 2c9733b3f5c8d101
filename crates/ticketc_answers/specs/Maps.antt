-- What `drop` and `lift` answer on the code of a program: a schedule in one line.
use Rattle.std.specs.Prelude.{ℕ, List, ◌++◌}
use Rattle.base.specs.Lines.{line_end}
use Rattle.language_schedules.specs.Schedule.{schedule_of}
use Rattle.language_schedules.specs.Written.{schedule_text}
use Rattle.tick_sim.specs.Maps.{dropped, lifted}
use Rattle.code_core.specs.Instructions.{StepCode}
use Rattle.ticketc_answers.specs.Answer.{Answer, scheduled}
use Rattle.ticketc_answers.specs.declared.maps.Way.{Way}
use Rattle.ticketc_answers.specs.declared.maps.Way.TheVariants.{Lift, Drop}

abbrev pub schedule_line : List ℕ → List ℕ
schedule_line steps = schedule_text steps ++ line_end

-- the steps of the code that lead through these of the program, or those of the program that these of the
-- code stand for
abbrev pub carried : Way → StepCode → List ℕ → List ℕ
carried Lift c steps = lifted c.sizes c.instructions steps
carried Drop c steps = dropped c.sizes c.instructions steps

abbrev pub carried_line : Way → StepCode → List ℕ → List ℕ
carried_line way c steps = schedule_line (carried way c steps)

-- `lift` with the text of a schedule of the program, `drop` with that of one of the code
abbrev pub carried_answer : Way → List ℕ → StepCode → Answer
carried_answer way schedule c = scheduled (carried_line way c) (schedule_of c.sizes.processes schedule)
