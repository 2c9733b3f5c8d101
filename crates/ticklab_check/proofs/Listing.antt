-- What the files up to one come to, and what a listener heard of them.
use Rattle.std.proofs.Common.{◌≡◌, ◌+◌, ◌<◌, ◌≤◌, ◌++◌, ℕ, List, [], ◌∷◌, drop, get_or, length, refl, subst, sym}
use Rattle.std.proofs.Math.ListN.{drop_of_length-le}
use Rattle.std.proofs.lemmas.List.{append-nil, append_assoc, drop_more}
use Rattle.std.specs.List.{AllZip}
use Rattle.ticklab_check.specs.Listening.{Hears}
use Rattle.ticklab_check.specs.declared.checked.Timed.{Timed}
use Rattle.ticklab_check.specs.declared.source.Source.{Source}

-- What was made of the items up to a place is related to them: with all that may follow.
module _ {X Y : Type 0} (R : X → Y → Type 0) (xs : List X) where
  abbrev pub AreSoFar : ℕ → List Y → Type 0
  AreSoFar i ys = (more : List Y) → AllZip R (drop i xs) more → AllZip R xs (ys ++ more)

  pub one_more : (i : ℕ) (ys : List Y) (x : X) (y : Y) → i < length xs → x ≡ get_or xs i x → R x y → AreSoFar i ys → AreSoFar (i + 1) (ys ++ y ∷ [])
  one_more i ys x y within is related so_far = λ more rest.
      subst (AllZip R xs) (sym (append_assoc ys (y ∷ []) more))
      (so_far (y ∷ more) (subst (λ (l : List X). AllZip R l (y ∷ more)) (sym (drop_more xs i x within)) (subst (λ (z : X). R z y) is related, rest)))

  pub all_of_them : (i : ℕ) (ys : List Y) → length xs ≤ i → AreSoFar i ys → AllZip R xs ys
  all_of_them i ys past so_far =
      subst (AllZip R xs) (append-nil ys) (so_far [] (subst (λ (l : List X). AllZip R l []) (sym (drop_of_length-le xs past)) tt))

-- A listener that was the first one before all files heard of those up to a place: with all that it may hear of after.
module _ {L : Type 0} (hears : L → Source → Timed → L → Type 0) (sources : List Source) (first : L) where
  abbrev pub AreHeardSoFar : ℕ → List Timed → L → Type 0
  AreHeardSoFar i files now = (more : List Timed) (after : L) → Hears hears now (drop i sources) more after → Hears hears first sources (files ++ more) after

  pub one_more_heard : (i : ℕ) (files : List Timed) (now next : L) (source : Source) (timed : Timed) → i < length sources → source ≡ get_or sources i source
      → hears now source timed next → AreHeardSoFar i files now → AreHeardSoFar (i + 1) (files ++ timed ∷ []) next
  one_more_heard i files now next source timed within is heard so_far = λ more after rest.
      subst (λ (all : List Timed). Hears hears first sources all after) (sym (append_assoc files (timed ∷ []) more))
      (so_far (timed ∷ more) after (subst (λ (l : List Source). Hears hears now l (timed ∷ more) after) (sym (drop_more sources i source within))
      (next, subst (λ (s : Source). hears now s timed next) is heard, rest)))

  pub all_heard : (i : ℕ) (files : List Timed) (now : L) → length sources ≤ i → AreHeardSoFar i files now → Hears hears first sources files now
  all_heard i files now past so_far =
      subst (λ (all : List Timed). Hears hears first sources all now) (append-nil files)
      (so_far [] now (subst (λ (l : List Source). Hears hears now l [] now) (sym (drop_of_length-le sources past)) refl))
