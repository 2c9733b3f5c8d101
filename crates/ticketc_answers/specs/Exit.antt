-- The exit status of the program.
use Rattle.std.specs.Prelude.{ℕ, Result, Ok, Err}
use Rattle.ticketc_answers.specs.declared.fault.EngineFault.{EngineFault}
use Rattle.ticketc_answers.specs.declared.fault.EngineFault.TheVariants.{Read, Write, Memory, Thread}

abbrev pub exit_of : Result ℕ EngineFault → ℕ
exit_of (Ok status) = status
exit_of (Err Read) = 3
exit_of (Err Write) = 3
exit_of (Err Memory) = 4
exit_of (Err Thread) = 4
