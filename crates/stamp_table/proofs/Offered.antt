-- The lemmas that other crates may cite: on what one step adds to what a pass has seen, on the steps
-- of one process, and on beginnings.
use Rattle.std.proofs.Common.{◌≡◌, ◌≢◌, ◌⊎◌, ◌<◌, ℕ, Bool, List, [], ◌∷◌, ◌++◌, length, ap, ◌∙◌, subst, append_assoc}
use Rattle.std.proofs.lemmas.List.{append-nil}
use Rattle.word_core.specs.History.{IsLegal}
use Rattle.word_core.specs.declared.history.Shared.{Shared}
use Rattle.word_core.proofs.OfferedHistory.{next_step}
use Rattle.std.specs.Prelude.{slice_index_or}
use Rattle.stamp_table.specs.Passes.{Holds, none_held, together, mine, StartsWith, Extends, TableView, PassView, AllMeet}
use Rattle.stamp_table.proofs.Prefixes as prefixes
use Rattle.stamp_table.proofs.Sets as sets
use Rattle.stamp_table.proofs.Gathering as gathering

pub mine-append : (p : ℕ) (steps others : List Shared) → mine p (steps ++ others) ≡ mine p steps ++ mine p others
mine-append = prefixes.mine-append

pub mine-snoc_own : (p : ℕ) (steps : List Shared) (s : Shared) → s.process ≡ p → mine p (steps ++ s ∷ []) ≡ mine p steps ++ s ∷ []
mine-snoc_own = prefixes.mine-snoc_own

pub mine-snoc_other : (p : ℕ) (steps : List Shared) (s : Shared) → s.process ≢ p → mine p (steps ++ s ∷ []) ≡ mine p steps
mine-snoc_other = prefixes.mine-snoc_other

pub starts_itself : (steps : List Shared) → StartsWith steps steps
starts_itself = prefixes.starts_itself

pub starts_through : (steps middle front : List Shared) → StartsWith steps middle → StartsWith middle front → StartsWith steps front
starts_through = prefixes.starts_through

pub none_holds : (p : ℕ) → Holds none_held p → ⊥
none_holds = sets.none_holds

pub holds_together : (held others : List Bool) (p : ℕ) → Holds (together held others) p → Holds held p ⊎ Holds others p
holds_together = sets.holds_together

-- what was held by one of two is held by both together
pub together_first : (held others : List Bool) (p : ℕ) → Holds held p → Holds (together held others) p
together_first = sets.together_first

pub together_second : (held others : List Bool) (p : ℕ) → Holds others p → Holds (together held others) p
together_second = sets.together_second

-- what was held by one of all that met is held by them together
pub held_by_all : (t : TableView) (passes : List PassView) (met : PassView) → AllMeet t passes met → (k : ℕ) (d : PassView) → k < length passes
    → (p : ℕ) → Holds (slice_index_or passes k d).held p → Holds met.held p
held_by_all = gathering.held_by_all

-- the steps of a process that is held are those before, and the new one where it is its own
pub extends_front : (n rows : ℕ) (held : List Bool) (before after : List Shared) (s : Shared) (p : ℕ) → Holds held p
    → (e : Extends n rows held before s after) → mine p (before ++ e.between) ≡ mine p before
extends_front n rows held before after s p holds e =
    mine-append p before e.between ∙ ap (λ xs. mine p before ++ xs) (e.others p holds) ∙ append-nil (mine p before)

pub extends_own : (n rows : ℕ) (held : List Bool) (before after : List Shared) (s : Shared) → Holds held s.process
    → Extends n rows held before s after → mine s.process after ≡ mine s.process before ++ s ∷ []
extends_own n rows held before after s holds e =
    let p : ℕ = s.process in
    ap (mine p) e.is ∙ mine-snoc_own p (before ++ e.between) s (λ i. p) ∙ ap (λ xs. xs ++ s ∷ []) (extends_front n rows held before after s p holds e)

pub extends_other : (n rows : ℕ) (held : List Bool) (before after : List Shared) (s : Shared) (p : ℕ) → Holds held p → s.process ≢ p
    → Extends n rows held before s after → mine p after ≡ mine p before
extends_other n rows held before after s p holds other e =
    ap (mine p) e.is ∙ mine-snoc_other p (before ++ e.between) s other ∙ extends_front n rows held before after s p holds e

-- what was seen before is a beginning of what was seen after
pub extends_starts : (n rows : ℕ) (held : List Bool) (before after : List Shared) (s : Shared) → Extends n rows held before s after → StartsWith after before
extends_starts n rows held before after s e = (e.between ++ s ∷ [], e.is ∙ append_assoc before e.between (s ∷ []))

-- a step is of a process of the table
pub extends_range : (n rows : ℕ) (held : List Bool) (before after : List Shared) (s : Shared) → Extends n rows held before s after → s.process < n
extends_range n rows held before after s e =
    ((next_step n rows (before ++ e.between) s).0 (subst (IsLegal n rows) e.is e.legal)).1.0
