-- A caller steps as one process, with a pass that holds it.
use Rattle.std.specs.Prelude.{◌≡◌, ◌≢◌, ℕ, List}
use Rattle.word_core.specs.History.{IsLegal, tickets_of}
use Rattle.word_core.specs.declared.history.Shared.{Shared}
use Rattle.stamp_table.specs.Passes.{PassView, Holds, mine, StartsWith}

-- the pass, and the process that it steps as
pub record CallerView : Type 0 where
  pub pass : PassView
  pub process : ℕ

-- the steps of the caller's process that it has seen, which are all that were made of it
abbrev pub own_steps : CallerView → List Shared
own_steps caller = mine caller.process caller.pass.seen

-- the tickets after the steps that a pass has seen
abbrev pub tickets_seen : PassView → List ℕ
tickets_seen pass = tickets_of pass.table.n pass.seen

-- What every call makes of its caller. It is of the same table, with the same processes. What it had
-- seen is a beginning of what it has now seen, which is legal. The steps of each other process that its
-- pass holds are what they were.
pub record GoesOn (old new : CallerView) : Type 0 where
  pub table : new.pass.table ≡ old.pass.table
  pub held : new.pass.held ≡ old.pass.held
  pub process : new.process ≡ old.process
  pub holds : Holds new.pass.held new.process
  pub begins : StartsWith new.pass.seen old.pass.seen
  pub others : (q : ℕ) → Holds old.pass.held q → q ≢ old.process → mine q new.pass.seen ≡ mine q old.pass.seen
  pub legal : IsLegal old.pass.table.n old.pass.table.rows new.pass.seen
