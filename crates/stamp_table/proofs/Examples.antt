-- Passes that met, worked by hand, and passes that did not.
use Rattle.std.proofs.Common.{◌≡◌, true, false, [], ◌∷◌, length, refl, sym, ap, subst, lit<, arith}
use Rattle.atomic_table.specs.Seated.{TableId}
use Rattle.word_core.specs.declared.history.Shared.{Shared}
use Rattle.word_core.specs.declared.history.SharedAct.TheVariants.{Load, Won}
use Rattle.stamp_table.specs.Passes.{by, mine, TableView, PassView, Meets}
use Rattle.stamp_table.proofs.Sets.{holds_alone}

-- process 0 has stamped, and process 1 has found its word
abbrev stamped : Shared
stamped = by 0 (Won 0 281474976710656)

abbrev found : Shared
found = by 1 (Load 281474976710656)

-- a table of two processes, the pass of each, and what both become
module _ (id : TableId) where
  abbrev two : TableView
  two = record { id = id; n = 2; rows = 0 }

  abbrev first : PassView
  first = record { table = two; held = true ∷ false ∷ false ∷ false ∷ false ∷ false ∷ []; seen = stamped ∷ [] }

  abbrev second : PassView
  second = record { table = two; held = false ∷ true ∷ false ∷ false ∷ false ∷ false ∷ []; seen = stamped ∷ found ∷ [] }

  abbrev both : PassView
  both = record { table = two; held = true ∷ true ∷ false ∷ false ∷ false ∷ false ∷ []; seen = stamped ∷ found ∷ [] }

  they_meet : Meets first second both
  they_meet = record {
    table = refl;
    held = refl;
    seen = refl;
    first_front = (found ∷ [], refl);
    second_front = ([], refl);
    first_mine = λ p holds. subst (λ k. mine k both.seen ≡ mine k first.seen) (sym (holds_alone 0 p holds)) refl;
    second_mine = λ p holds. refl;
    legal = ((lit< tt, (refl, refl)), ((lit< tt, refl), tt));
  }

  -- what one of the two has seen is not forgotten
  none_forgotten : Meets first second (record { table = two; held = both.held; seen = first.seen }) → ⊥
  none_forgotten meets = absurd (omega (arith, ap length meets.seen))
