-- The state that a machine stands for.
use Rattle.std.specs.Prelude.{◌≡◌, ℕ, List, map, length}
use Rattle.std.specs.List.{All}
use Rattle.tick_source.specs.declared.machine.SourceMachine.TheInside.{Inside}
use Rattle.tick_source.specs.declared.process.Process.{Process}
use Rattle.tick_source.specs.Source.{SourceProcess, SourceState}

abbrev pub process_of : Process → SourceProcess
process_of q = record { variables = q.variables.items; scans = q.scans.items; rest = q.rest; status = q.status }

abbrev pub state_of : Inside → SourceState
state_of m = record {
  tickets = m.shared.tickets;
  rows = m.shared.registers;
  processes = map process_of m.processes.items;
  events = m.shared.events.items;
}

-- each of these scans has a ticket for each of `n` processes
abbrev pub AreScans : ℕ → List (List ℕ) → Type 0
AreScans n scans = All (λ scan. length scan ≡ n) scans

-- there is a ticket for each process, in each scan too
pub record IsTicketed (m : Inside) : Type 0 where
  pub counted : length m.processes.items ≡ length m.shared.tickets
  pub scans : All (λ q. AreScans (length m.shared.tickets) q.scans.items) m.processes.items
