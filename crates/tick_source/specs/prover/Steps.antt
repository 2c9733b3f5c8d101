-- What a step of one process does to what the machine holds.
use Rattle.std.specs.Prelude.{◌≡◌, ℕ, length}
use Rattle.base.specs.Plain.{Statement}
use Rattle.base.specs.declared.status.Trap.{Trap}
use Rattle.tick_source.specs.declared.process.Process.{Process}
use Rattle.tick_source.specs.declared.memory.SourceMemory.{SourceMemory}
use Rattle.tick_source.specs.prover.Remaining.{after_first}
use Rattle.base.specs.Observables.{told}
use Rattle.tick_source.specs.Source.{SourceStep, does, did, traps}

-- what the process did, and with it to what is shared
pub record Makes (p : ℕ) (d : SourceStep) (old new : SourceMemory) (q : Process) : Type 0 where
  pub tickets : new.tickets ≡ d.tickets
  pub registers : new.registers ≡ d.rows
  pub events : new.events.items ≡ told p d.act old.events.items
  pub variables : q.variables.items ≡ d.process.variables
  pub scans : q.scans.items ≡ d.process.scans
  pub rest : q.rest ≡ d.process.rest
  pub status : q.status ≡ d.process.status

-- what is shared is as it was
pub record Shares (old new : SourceMemory) : Type 0 where
  pub tickets : new.tickets ≡ old.tickets
  pub registers : new.registers ≡ old.registers
  pub events : new.events.items ≡ old.events.items

-- all is as it was
pub record Keeps (old new : SourceMemory) (q q' : Process) : Type 0 where
  pub held : Shares old new
  pub variables : q'.variables.items ≡ q.variables.items
  pub scans : q'.scans.items ≡ q.scans.items
  pub rest : q'.rest ≡ q.rest
  pub status : q'.status ≡ q.status

-- a trap of process `p`
abbrev pub traps_from : ℕ → SourceMemory → Process → Trap → SourceStep
traps_from p s q t =
    traps (length s.tickets) p s.tickets s.registers q.variables.items q.scans.items (after_first q.rest) t

-- what this statement does, where it is the first of those that remain
abbrev pub does_from : ℕ → SourceMemory → Process → Statement ℕ → SourceStep
does_from p s q statement =
    does (length s.tickets) p s.tickets s.registers q.variables.items q.scans.items statement (after_first q.rest)

abbrev pub did_from : ℕ → SourceMemory → Process → SourceStep
did_from p s q = did (length s.tickets) p s.tickets s.registers q.variables.items q.scans.items q.rest
