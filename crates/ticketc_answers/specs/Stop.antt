-- What stops a command, and which answer it has then.
use Rattle.std.specs.Prelude.{◌≡◌, Bool, true, Result, Ok, Err, String, string_bytes}
use Rattle.std.specs.Global.{Global}
use Rattle.code_core.specs.declared.fault.CodeFault.{CodeFault}
use Rattle.code_core.specs.declared.fault.CodeFault.TheVariants as code
use Rattle.language_schedules.specs.declared.schedule.ScheduleFault.{ScheduleFault}
use Rattle.language_schedules.specs.declared.schedule.ScheduleFault.TheVariants as schedule
use Rattle.tick_lower.specs.declared.fault.LowerFault.{LowerFault}
use Rattle.tick_lower.specs.declared.fault.LowerFault.TheVariants as lowering
use Rattle.tick_merge.specs.declared.run_fault.RunFault.{RunFault}
use Rattle.tick_merge.specs.declared.run_fault.RunFault.TheVariants as run
use Rattle.tick_syntax.specs.declared.fault.TextFault.{TextFault}
use Rattle.tick_syntax.specs.declared.fault.TextFault.TheVariants as text
use Rattle.ticketc_refusals.specs.declared.refusal.Refusal.TheVariants as refusal
use Rattle.ticketc_answers.specs.Answer.{Answer, done, refused, too_long}
use Rattle.ticketc_answers.specs.declared.stop.Stop.{Stop}
use Rattle.ticketc_answers.specs.declared.stop.Stop.TheVariants.{Refused, TooLong, Memory, Thread}

-- what a fault of each layer means to a command
abbrev pub text_stop : TextFault → Stop
text_stop text.NoMemory = Memory
text_stop fault = Refused (refusal.Text fault)

abbrev pub code_stop : CodeFault → Stop
code_stop code.NoMemory = Memory
code_stop fault = Refused (refusal.Code fault)

abbrev pub schedule_stop : ScheduleFault → Stop
schedule_stop schedule.NoMemory = Memory
schedule_stop fault = Refused (refusal.Schedule fault)

abbrev pub lower_stop : LowerFault → Stop
lower_stop lowering.TooLong = TooLong
lower_stop lowering.NoMemory = Memory

abbrev pub run_stop : RunFault → Stop
run_stop run.NoMemory = Memory
run_stop run.NoThread = Thread

-- Its answer is one of these. Want of memory has none, nor has want of a thread, which stops a run alone.
abbrev pub IfTold : Bool → (Answer → Type 0) → Stop → Type 0
IfTold is_run allowed (Refused refusal) = allowed (refused refusal)
IfTold is_run allowed TooLong = allowed too_long
IfTold is_run allowed Memory = Unit {0}
IfTold is_run allowed Thread = is_run ≡ true

-- the text is an answer of these, or what stopped the command is
abbrev pub Tells : Bool → (Answer → Type 0) → Result (String Global) Stop → Type 0
Tells is_run allowed (Ok text) = allowed (done (string_bytes text))
Tells is_run allowed (Err stop) = IfTold is_run allowed stop
