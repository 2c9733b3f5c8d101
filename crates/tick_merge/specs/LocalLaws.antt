-- What holds of every process of every code by itself.
use Rattle.std.specs.Prelude.{◌≡◌, ◌≤◌, ℕ, List, ◌++◌}
use Rattle.word_core.specs.declared.history.Shared.{Shared}
use Rattle.code_core.specs.Instructions.{StepCode}
use Rattle.tick_merge.specs.Local.{Local, IsLocalRun}

-- The answers decide, where a code has at most six processes: after as many instructions, with
-- answers from one list, a process is at one point only.
abbrev pub OncePerAnswersLaw : Type 0
OncePerAnswersLaw = (c : StepCode) → c.sizes.processes ≤ 6 → (p count : ℕ) (a b : Local) (left_over others : List Shared)
    → IsLocalRun c p count a → IsLocalRun c p count b → a.steps ++ left_over ≡ b.steps ++ others → a ≡ b

-- whoever came so far was at each number of instructions before, and had made the first of its steps
pub record CameBy (c : StepCode) (p count : ℕ) (l : Local) : Type 0 where
  pub local : Local
  pub is_local : IsLocalRun c p count local
  pub later : List Shared
  pub steps : l.steps ≡ local.steps ++ later

abbrev pub BeginningsLaw : Type 0
BeginningsLaw = (c : StepCode) (p count fewer : ℕ) (l : Local) → fewer ≤ count → IsLocalRun c p count l → CameBy c p fewer l
