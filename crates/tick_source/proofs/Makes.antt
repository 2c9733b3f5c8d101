-- A step from what it does to each part.
use Rattle.std.proofs.Common.{◌≡◌, ℕ}
use Rattle.base.specs.Observables.{told}
use Rattle.tick_source.specs.declared.process.Process.{Process}
use Rattle.tick_source.specs.declared.memory.SourceMemory.{SourceMemory}
use Rattle.tick_source.specs.Source.{SourceStep}
use Rattle.tick_source.specs.prover.Steps.{Makes}

pub makes : (p : ℕ) (d : SourceStep) (old new : SourceMemory) (q : Process)
    → new.tickets ≡ d.tickets → new.registers ≡ d.rows → new.events.items ≡ told p d.act old.events.items
    → q.variables.items ≡ d.process.variables → q.scans.items ≡ d.process.scans → q.rest ≡ d.process.rest
    → q.status ≡ d.process.status → Makes p d old new q
makes p d old new q tickets registers events variables scans rest status = record {
  tickets = tickets;
  registers = registers;
  events = events;
  variables = variables;
  scans = scans;
  rest = rest;
  status = status;
}
