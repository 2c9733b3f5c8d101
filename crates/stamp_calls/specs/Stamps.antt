-- A stamp: tries that are lost, and one that is won.
use Rattle.std.specs.Prelude.{◌≡◌, ◌≢◌, ℕ, List, [], ◌∷◌, ◌++◌, All}
use Rattle.word_core.specs.Stamps.{Labels, stamped}
use Rattle.word_core.specs.Packed.{word}
use Rattle.word_core.specs.History.{memory_of, IsLegal}
use Rattle.word_core.specs.declared.history.Shared.{Shared}
use Rattle.word_core.specs.declared.history.SharedAct.{SharedAct}
use Rattle.word_core.specs.declared.history.SharedAct.TheVariants.{Load, Won, Lost, Read, Write, Clear}
use Rattle.stamp_table.specs.Passes.{Holds, by, mine, StartsWith}
use Rattle.stamp_calls.specs.Callers.{CallerView, own_steps}

-- the word was read, or an exchange of it was lost
abbrev pub IsTryAct : SharedAct → Type 0
IsTryAct (Load found) = Unit {0}
IsTryAct (Won old new) = ⊥
IsTryAct (Lost old found) = Unit {0}
IsTryAct (Read r i v) = ⊥
IsTryAct (Write r v) = ⊥
IsTryAct (Clear old) = ⊥

-- process `p` tried to stamp, in vain
pub record IsTry (p : ℕ) (s : Shared) : Type 0 where
  pub process : s.process ≡ p
  pub act : IsTryAct s.act

-- In front of the stamp stands a history that begins with what the caller had seen; what it did itself
-- since then were tries. The stamp comes next, and is the last step that the caller has seen: it
-- found the labels that the front gives, and put in their place those after a stamp of its process.
pub record Stamps (old : CallerView) (order : Labels) (new : CallerView) : Type 0 where
  pub front : List Shared
  pub begins : StartsWith front old.pass.seen
  pub tries : List Shared
  pub each : All (IsTry old.process) tries
  pub tried : mine old.process front ≡ own_steps old ++ tries
  pub others : (q : ℕ) → Holds old.pass.held q → q ≢ old.process → mine q front ≡ mine q old.pass.seen
  pub found : Labels
  pub finds : found ≡ (memory_of old.pass.table.n old.pass.table.rows front).labels
  pub stamps : order ≡ stamped old.process found
  pub last : new.pass.seen ≡ front ++ by old.process (Won (word found) (word order)) ∷ []
  pub legal : IsLegal old.pass.table.n old.pass.table.rows new.pass.seen

-- the caller's own steps are those before, then tries, then its stamp
pub record AddsTriesAndStamp (old : CallerView) (order : Labels) (new : CallerView) : Type 0 where
  pub tries : List Shared
  pub each : All (IsTry old.process) tries
  pub found : Labels
  pub stamps : order ≡ stamped old.process found
  pub own : own_steps new ≡ own_steps old ++ (tries ++ by old.process (Won (word found) (word order)) ∷ [])
