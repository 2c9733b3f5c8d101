-- Any number of passes that meet, one after another.
use Rattle.std.proofs.Common.{◌≡◌, ◌↔◌, ◌⊎◌, ℕ, zero, suc, ◌<◌, Bool, true, false, cond, ltb, List, [], ◌∷◌, length, refl, sym, ◌∙◌, subst, inl, inr, ap, ⊎_elim, arith}
use Rattle.word_core.specs.History.{IsLegal}
use Rattle.std.specs.Prelude.{Any, slice_index_or}
use Rattle.std.proofs.lemmas.List.{get_or_default}
use Rattle.std.proofs.lemmas.List.Elements.{All-cons, All-nil, All-weaker}
use Rattle.stamp_table.specs.Passes.{Holds, together, mine, StartsWith, TableView, PassView, Meets, AllMeet}
use Rattle.stamp_table.proofs.Prefixes.{starts_itself, starts_through}
use Rattle.stamp_table.proofs.Sets.{holds_together, together_first, together_second}

any_here : {X : Type 0} (P : X → Type 0) (x : X) (xs : List X) → P x → Any P (x ∷ xs)
any_here P x xs is = (0, x, omega arith, refl, is)

any_there : {X : Type 0} (P : X → Type 0) (x : X) (xs : List X) → Any P xs → Any P (x ∷ xs)
any_there P x xs (k, y, below, at, is) = (suc k, y, omega (arith, below), at, is)

any_cases : {X : Type 0} (P : X → Type 0) (x : X) (xs : List X) → Any P (x ∷ xs) → P x ⊎ Any P xs
any_cases P x xs (zero, y, below, at, is) = inl (subst P (sym at) is)
any_cases P x xs (suc k, y, below, at, is) = inr (k, y, omega (arith, below), at, is)

-- one pass, looked at
pub one_meets : (t : TableView) (pass met : PassView) → met.table ≡ t → ((p : ℕ) → Holds met.held p ↔ Holds pass.held p) → met.seen ≡ pass.seen
    → IsLegal t.n t.rows met.seen → AllMeet t (pass ∷ []) met
one_meets t pass met here same seen legal = record {
  table = here;
  held = λ p. (
    λ holds. any_here (λ (x : PassView). Holds x.held p) pass [] ((same p).0 holds),
    λ some. ⊎_elim (λ holds. (same p).1 holds) (λ none. absurd (omega (arith, none.2))) (any_cases (λ (x : PassView). Holds x.held p) pass [] some),
  );
  seen = any_here (λ (x : PassView). met.seen ≡ x.seen) pass [] seen;
  fronts = All-cons (λ (x : PassView). StartsWith met.seen x.seen) pass [] (subst (λ s. StartsWith met.seen s) seen (starts_itself met.seen))
      (All-nil (λ (x : PassView). StartsWith met.seen x.seen));
  all_mine = All-cons (λ (x : PassView). (p : ℕ) → Holds x.held p → mine p met.seen ≡ mine p x.seen) pass [] (λ p holds. ap (mine p) seen)
      (All-nil (λ (x : PassView). (p : ℕ) → Holds x.held p → mine p met.seen ≡ mine p x.seen));
  legal = legal;
}

-- what one of the passes held, the new one holds
pub held_by_all : (t : TableView) (passes : List PassView) (met : PassView) → AllMeet t passes met → (k : ℕ) (d : PassView) → k < length passes
    → (p : ℕ) → Holds (slice_index_or passes k d).held p → Holds met.held p
held_by_all t passes met meet k d below p holds =
    let one : PassView = slice_index_or passes k d in
    (meet.held p).1 (k, one, below, get_or_default passes k one d below, holds)

-- one more pass
module _ (t : TableView) (pass : PassView) (passes : List PassView) (met more : PassView) (were : AllMeet t passes met) (meets : Meets met pass more) where
  held_more : (p : ℕ) → Holds more.held p ↔ Any (λ (x : PassView). Holds x.held p) (pass ∷ passes)
  held_more p =
      let P : PassView → Type 0 = λ x. Holds x.held p in
      let more_is : more.held ≡ together met.held pass.held = meets.held in (
        λ holds.
            ⊎_elim
            (λ before. any_there P pass passes ((were.held p).0 before))
            (λ now. any_here P pass passes now)
            (holds_together met.held pass.held p (subst (λ h. Holds h p) more_is holds)),
        λ some.
            subst (λ h. Holds h p) (sym more_is)
            (⊎_elim
            (λ now. together_second met.held pass.held p now)
            (λ before. together_first met.held pass.held p ((were.held p).1 before))
            (any_cases P pass passes some)),
      )

  one_of : (b : Bool) → more.seen ≡ cond b pass.seen met.seen → Any (λ (x : PassView). more.seen ≡ x.seen) (pass ∷ passes)
  one_of true is = any_here (λ (x : PassView). more.seen ≡ x.seen) pass passes is
  one_of false is =
      any_there (λ (x : PassView). more.seen ≡ x.seen) pass passes
      (were.seen.0, were.seen.1, were.seen.2, were.seen.3, is ∙ were.seen.4)

  pub one_more_meets : AllMeet t (pass ∷ passes) more
  one_more_meets = record {
    table = meets.table ∙ were.table;
    held = held_more;
    seen = one_of (ltb (length met.seen) (length pass.seen)) meets.seen;
    fronts =
        All-cons (λ (x : PassView). StartsWith more.seen x.seen) pass passes meets.second_front
        (All-weaker (λ (x : PassView). StartsWith met.seen x.seen) (λ (x : PassView). StartsWith more.seen x.seen)
        (λ x starts. starts_through more.seen met.seen x.seen meets.first_front starts) passes were.fronts);
    all_mine =
        All-cons (λ (x : PassView). (p : ℕ) → Holds x.held p → mine p more.seen ≡ mine p x.seen) pass passes meets.second_mine
        (λ k d below p holds.
        meets.first_mine p (held_by_all t passes met were k d below p holds) ∙ were.all_mine k d below p holds);
    legal = subst (λ (u : TableView). IsLegal u.n u.rows more.seen) were.table meets.legal;
  }
