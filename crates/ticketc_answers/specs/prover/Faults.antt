-- Faults of crates below, as those of the engine.
use Rattle.ticketc_io.specs.declared.fault.EndFault.{EndFault}
use Rattle.ticketc_io.specs.declared.fault.EndFault.TheVariants as end
use Rattle.ticketc_answers.specs.declared.fault.EngineFault.{EngineFault}
use Rattle.ticketc_answers.specs.declared.fault.EngineFault.TheVariants.{Read, Write, Memory}

abbrev pub end_fault : EndFault → EngineFault
end_fault end.Read = Read
end_fault end.Write = Write
end_fault end.Memory = Memory
