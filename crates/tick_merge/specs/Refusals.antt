-- The first place at which a history and numbers of instructions are no run of a code.
use Rattle.std.specs.Prelude.{◌≡◌, ◌⊎◌, ◌<◌, ◌≤◌, ℕ, List, [], ◌∷◌, ◌++◌, length, slice_index}
use Rattle.word_core.specs.History.{memory_of, MayFollow, IsLegal}
use Rattle.word_core.specs.declared.history.Shared.{Shared}
use Rattle.code_core.specs.Instructions.{StepCode}
use Rattle.tick_merge.specs.declared.fault.MergeFault.{MergeFault}
use Rattle.tick_merge.specs.declared.fault.MergeFault.TheVariants.{NotLegal, NotThisCode, NoMemory}
use Rattle.tick_merge.specs.Laws.{MakesIts, AllMake}

-- within so many instructions process `p` makes by itself just its own steps of the history
pub record MakesWithin (c : StepCode) (p turns : ℕ) (history : List Shared) : Type 0 where
  pub count : ℕ
  pub few : count ≤ turns
  pub makes : MakesIts c p count history

-- the history can be a beginning: it is legal, and each process makes its steps within its instructions
pub record CanBegin (c : StepCode) (turns : List ℕ) (history : List Shared) : Type 0 where
  pub legal : IsLegal c.sizes.processes c.sizes.rows history
  pub made : (p : ℕ) → p < c.sizes.processes → MakesWithin c p (slice_index turns p) history

-- after such a beginning the step can't come next, or, where it can, its process doesn't make it
abbrev pub IsRefusedAt : StepCode → List ℕ → List Shared → Shared → MergeFault → Type 0
IsRefusedAt c turns front step (NotLegal place) =
    (place ≡ length front) × ¬ MayFollow c.sizes.processes c.sizes.rows (memory_of c.sizes.processes c.sizes.rows front) step
IsRefusedAt c turns front step (NotThisCode p place) =
    (place ≡ length front) × (p ≡ step.process) × MayFollow c.sizes.processes c.sizes.rows (memory_of c.sizes.processes c.sizes.rows front) step
    × ¬ MakesWithin c p (slice_index turns p) (front ++ step ∷ [])
IsRefusedAt c turns front step NoMemory = ⊥

pub record IsRefusedWithin (c : StepCode) (turns : List ℕ) (history : List Shared) (fault : MergeFault) : Type 0 where
  pub front : List Shared
  pub step : Shared
  pub rest : List Shared
  pub is : history ≡ front ++ step ∷ rest
  pub begins : CanBegin c turns front
  pub refused : IsRefusedAt c turns front step fault

-- after the whole history the process is the first that doesn't make its number of instructions with
-- just these steps
abbrev pub IsRefusedLast : StepCode → List ℕ → List Shared → MergeFault → Type 0
IsRefusedLast c turns history (NotThisCode p place) =
    (place ≡ length history) × (p < c.sizes.processes) × ¬ MakesIts c p (slice_index turns p) history
    × ((j : ℕ) → j < p → MakesIts c j (slice_index turns j) history)
IsRefusedLast c turns history (NotLegal place) = ⊥
IsRefusedLast c turns history NoMemory = ⊥

pub record IsRefusedAtEnd (c : StepCode) (turns : List ℕ) (history : List Shared) (fault : MergeFault) : Type 0 where
  pub begins : CanBegin c turns history
  pub refused : IsRefusedLast c turns history fault

abbrev pub IsRefused : StepCode → List ℕ → List Shared → MergeFault → Type 0
IsRefused c turns history fault = IsRefusedWithin c turns history fault ⊎ IsRefusedAtEnd c turns history fault

-- a fault is a refusal, or want of memory
abbrev pub IsFault : StepCode → List ℕ → List Shared → MergeFault → Type 0
IsFault c turns history NoMemory = Unit {0}
IsFault c turns history fault = IsRefused c turns history fault

-- No history that is merged is refused, and none is refused in two ways.
pub record OneAnswerLaw : Type 0 where
  pub merged : (c : StepCode) (turns : List ℕ) (history : List Shared) (fault : MergeFault)
      → IsLegal c.sizes.processes c.sizes.rows history → AllMake c turns history → ¬ IsRefused c turns history fault
  pub refused : (c : StepCode) (turns : List ℕ) (history : List Shared) (fault other : MergeFault)
      → IsRefused c turns history fault → IsRefused c turns history other → fault ≡ other
