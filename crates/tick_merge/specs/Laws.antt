-- What holds of every history in which each process makes just the steps that it makes by itself.
use Rattle.std.specs.Prelude.{◌≡◌, ℕ, ◌<◌, ◌≤◌, List, slice_index}
use Rattle.word_core.specs.History.{IsLegal}
use Rattle.word_core.specs.declared.history.Shared.{Shared}
use Rattle.code_core.specs.Instructions.{StepCode}
use Rattle.code_core.specs.Verified.{IsVerified}
use Rattle.stamp_table.specs.Passes.{mine}
use Rattle.tick_merge.specs.Local.{Local, IsLocalRun}
use Rattle.tick_merge.specs.Merged.{merged, IsMerged}

-- in so many instructions process `p` makes by itself just its own steps of the history
pub record MakesIts (c : StepCode) (p count : ℕ) (history : List Shared) : Type 0 where
  pub local : Local
  pub is_local : IsLocalRun c p count local
  pub own : local.steps ≡ mine p history

-- and so does each process
abbrev pub AllMake : StepCode → List ℕ → List Shared → Type 0
AllMake c turns history = (p : ℕ) → p < c.sizes.processes → MakesIts c p (slice_index turns p) history

-- A legal history that is made so is the shared part of the run under the merged schedule.
abbrev pub MergeLaw : Type 0
MergeLaw = (c : StepCode) (turns : List ℕ) (history : List Shared) → IsVerified c.sizes c.instructions → c.sizes.processes ≤ 6
    → IsLegal c.sizes.processes c.sizes.rows history → AllMake c turns history → IsMerged c turns history (merged c turns history)
