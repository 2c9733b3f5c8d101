-- Which faults of the engine are an `EndFault`: faults of reading, of writing or of memory.
use Rattle.std.specs.Prelude.{Option, Some, None, Result, Ok, Err}
use Rattle.ticketc_io.specs.declared.fault.EndFault.{EndFault}
use Rattle.ticketc_io.specs.declared.fault.EndFault.TheVariants as end
use Rattle.ticketc_answers.specs.declared.fault.EngineFault.{EngineFault}
use Rattle.ticketc_answers.specs.declared.fault.EngineFault.TheVariants.{Read, Write, Memory, Thread}

-- a thread is refused by no end
abbrev pub end_fault_in : {A : Type 0} → Result A EngineFault → Option EndFault
end_fault_in (Ok a) = None
end_fault_in (Err Read) = Some end.Read
end_fault_in (Err Write) = Some end.Write
end_fault_in (Err Memory) = Some end.Memory
end_fault_in (Err Thread) = None
