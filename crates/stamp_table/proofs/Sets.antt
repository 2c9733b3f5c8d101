-- Sets of processes, as a list with an entry for each.
use Rattle.std.proofs.Common.{◌≡◌, ◌≢◌, ◌⊎◌, ℕ, zero, suc, Bool, true, false, List, [], ◌∷◌, get_or, set, refl, sym, ap, ◌∙◌, inl, inr, ⊎_elim, get_or-set_other}
use Rattle.std.specs.Prelude.{slice_set, ◌||◌}
use Rattle.std.proofs.lemmas.Bool.{cases_eq, both_ways, or_left, or_right}
use Rattle.stamp_table.specs.Passes.{Holds, none_held, together}

none_at : (p : ℕ) → get_or none_held p false ≡ false
none_at zero = refl
none_at (suc zero) = refl
none_at (suc (suc zero)) = refl
none_at (suc (suc (suc zero))) = refl
none_at (suc (suc (suc (suc zero)))) = refl
none_at (suc (suc (suc (suc (suc zero))))) = refl
none_at (suc (suc (suc (suc (suc (suc p)))))) = refl

pub none_holds : (p : ℕ) → Holds none_held p → ⊥
none_holds p holds = both_ways (get_or none_held p false) (none_at p) holds

cleared_at : (held : List Bool) (p : ℕ) → get_or (set held p false) p false ≡ false
cleared_at [] p = refl
cleared_at (here ∷ held) zero = refl
cleared_at (here ∷ held) (suc p) = cleared_at held p

-- what is held without `p` was held, and isn't `p`
pub holds_without : (held : List Bool) (p q : ℕ) → Holds (slice_set held p false) q → (q ≢ p) × Holds held q
holds_without held p q holds =
    ⊎_elim
    (λ same. absurd (both_ways (get_or (set held p false) q false) (ap (λ k. get_or (set held p false) k false) same ∙ cleared_at held p) holds))
    (λ other. (other, sym (get_or-set_other held p q false false other) ∙ holds))
    (cases_eq q p)

-- `p` alone
pub holds_alone : (p q : ℕ) → Holds (slice_set none_held p true) q → q ≡ p
holds_alone p q holds =
    ⊎_elim
    (λ same. same)
    (λ other. absurd (none_holds q (sym (get_or-set_other none_held p q true false other) ∙ holds)))
    (cases_eq q p)

or_either : (a b : Bool) → (a || b) ≡ true → (a ≡ true) ⊎ (b ≡ true)
or_either true b is = inl refl
or_either false b is = inr is

-- what is held together was held by one of the two
pub holds_together : (held others : List Bool) (p : ℕ) → Holds (together held others) p → Holds held p ⊎ Holds others p
holds_together [] others p holds = inr holds
holds_together (here ∷ held) [] p holds = inl holds
holds_together (here ∷ held) (there ∷ others) zero holds = or_either here there holds
holds_together (here ∷ held) (there ∷ others) (suc p) holds = holds_together held others p holds

pub together_first : (held others : List Bool) (p : ℕ) → Holds held p → Holds (together held others) p
together_first [] others p holds = absurd (both_ways false refl holds)
together_first (here ∷ held) [] p holds = holds
together_first (here ∷ held) (there ∷ others) zero holds = or_left here there holds
together_first (here ∷ held) (there ∷ others) (suc p) holds = together_first held others p holds

pub together_second : (held others : List Bool) (p : ℕ) → Holds others p → Holds (together held others) p
together_second [] others p holds = holds
together_second (here ∷ held) [] p holds = absurd (both_ways false refl holds)
together_second (here ∷ held) (there ∷ others) zero holds = or_right here there holds
together_second (here ∷ held) (there ∷ others) (suc p) holds = together_second held others p holds
