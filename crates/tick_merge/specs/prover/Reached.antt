-- How far `merge` has gone through a history.
use Rattle.std.specs.Prelude.{◌≡◌, ◌≤◌, ◌<◌, ◌+◌, ℕ, Bool, true, false, List, [], ◌∷◌, ◌++◌, length, replicate, slice_get, slice_index, Some, vec_items}
use Rattle.word_core.specs.History.{memory_of, IsLegal}
use Rattle.word_core.specs.declared.history.Shared.{Shared}
use Rattle.code_core.specs.Instructions.{StepCode}
use Rattle.code_core.specs.Verified.{IsVerified}
use Rattle.base.specs.declared.status.Status.TheVariants.{Running}
use Rattle.code_machine.specs.Machine.{CodeProcess, Moved, alone, did, start_process}
use Rattle.code_machine.specs.Process.{OneProcess, IsOf}
use Rattle.tick_merge.specs.Ran.{run_under, occurs}
use Rattle.tick_merge.specs.Merged.{alone_of, turns_left, led, through, merged, IsMerged}
use Rattle.tick_merge.specs.Laws.{MakesIts, AllMake}
use Rattle.tick_merge.specs.Refusals.{MakesWithin}
use Rattle.tick_merge.specs.declared.merging.Merging.{Merging}
use Rattle.tick_merge.specs.prover.Standing.{Stands}
use Rattle.tick_merge.specs.prover.Held.{memory_held}

-- process `p` stands where it stands under the schedule
pub record IsHeld (c : StepCode) (schedule : List ℕ) (p : ℕ) (one : OneProcess) : Type 0 where
  pub of : IsOf c one
  pub me : one.me ≡ p
  pub there : slice_get (run_under c schedule).processes p ≡ Some one.process

-- The schedule so far makes this history; the words, the processes and the instructions that are left to
-- them are those after it.
pub record Reached (c : StepCode) (turns : List ℕ) (history : List Shared) (m : Merging) : Type 0 where
  pub verified : IsVerified c.sizes c.instructions
  pub few : c.sizes.processes ≤ 6
  pub legal : IsLegal c.sizes.processes c.sizes.rows history
  pub stands : Stands c (vec_items m.schedule) history
  pub words : memory_held m.words ≡ memory_of c.sizes.processes c.sizes.rows history
  pub many : length (vec_items m.processes) ≡ c.sizes.processes
  pub each : (p : ℕ) (one : OneProcess) → slice_get (vec_items m.processes) p ≡ Some one → IsHeld c (vec_items m.schedule) p one
  pub all_left : length (vec_items m.left) ≡ c.sizes.processes
  pub left : (p : ℕ) → p < c.sizes.processes → occurs p (vec_items m.schedule) + slice_index (vec_items m.left) p ≡ slice_index turns p

-- it goes on by no instruction that it makes alone
abbrev pub IsQuiet : StepCode → ℕ → CodeProcess → Type 0
IsQuiet c p q = (m : Moved) → q.status ≡ Running → did c.sizes.processes p c.instructions q ≡ alone m → ⊥

-- Process `p` made alone what it could, and so many instructions are left to it: none, or it stops or asks.
pub record IsLed (c : StepCode) (turns : List ℕ) (history : List Shared) (p : ℕ) (old new : Merging) (left : ℕ) : Type 0 where
  pub reached : Reached c turns history new
  pub count : ℕ
  pub schedule : vec_items new.schedule ≡ vec_items old.schedule ++ replicate count p
  pub is : count ≡ alone_of c p (turns_left turns (vec_items old.schedule) p) (slice_get (run_under c (vec_items old.schedule)).processes p)
  pub all : count + left ≡ turns_left turns (vec_items old.schedule) p
  pub left_is : left ≡ slice_index (vec_items new.left) p
  pub words : memory_held new.words ≡ memory_held old.words
  pub quiet : (one : OneProcess) → slice_get (vec_items new.processes) p ≡ Some one → 0 < left → IsQuiet c p one.process

-- a step was made, and the schedule leads there; or its process can't make it
abbrev pub StepTaken : StepCode → List ℕ → List Shared → Shared → Merging → Merging → Bool → Type 0
StepTaken c turns history step old new true =
    Reached c turns (history ++ step ∷ []) new × (vec_items new.schedule ≡ led c turns (vec_items old.schedule) step.process)
StepTaken c turns history step old new false = ¬ MakesWithin c step.process (slice_index turns step.process) (history ++ step ∷ [])

-- process `p` made the rest of its instructions alone, or it can't
abbrev pub ProcessSpent : StepCode → List ℕ → List Shared → ℕ → Merging → Merging → Bool → Type 0
ProcessSpent c turns history p old new true =
    Reached c turns history new × (vec_items new.schedule ≡ vec_items old.schedule ++ replicate (turns_left turns (vec_items old.schedule) p) p)
    × (occurs p (vec_items new.schedule) ≡ slice_index turns p)
ProcessSpent c turns history p old new false = ¬ MakesIts c p (slice_index turns p) history

-- the first `k` processes of the code before their first step
pub record AreNew (c : StepCode) (k : ℕ) (ones : List OneProcess) : Type 0 where
  pub many : length ones ≡ k
  pub each : (p : ℕ) (one : OneProcess) → slice_get ones p ≡ Some one → IsOf c one × (one.me ≡ p) × (one.process ≡ start_process c.sizes)

-- the history was gone through
pub record AllTaken (c : StepCode) (turns : List ℕ) (history : List Shared) (m : Merging) : Type 0 where
  pub reached : Reached c turns history m
  pub led : vec_items m.schedule ≡ through c turns [] history

-- and each process made the rest of its instructions
pub record AllSpent (c : StepCode) (turns : List ℕ) (history : List Shared) (m : Merging) : Type 0 where
  pub legal : IsLegal c.sizes.processes c.sizes.rows history
  pub makes : AllMake c turns history
  pub merged : vec_items m.schedule ≡ merged c turns history
  pub whole : IsMerged c turns history (vec_items m.schedule)
