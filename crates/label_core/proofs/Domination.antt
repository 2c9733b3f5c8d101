-- No two labels dominate each other; of two different labels of one length just one dominates the
-- other.
use Rattle.std.proofs.Common.{◌≡◌, ℕ, suc, zero, ◌<◌, Bool, true, false, not, ◌&&◌, cond, eqb, List, [], ◌∷◌, length, refl, sym, ◌∙◌, arith}
use Rattle.std.specs.Prelude.{All}
use Rattle.std.proofs.lemmas.Bool.{cond-true, cond-false, eqb-true, eq-eqb, ne_eqb}
use Rattle.std.proofs.lemmas.List.Elements.{All-head, All-tail}
use Rattle.label_core.specs.Labels.{next_digit, dominates, same_label}

-- of two different digits just one is the next one of the other
pub turn : (d e : ℕ) → d < 3 → e < 3 → eqb d e ≡ false → eqb e (next_digit d) ≡ not (eqb d (next_digit e))
turn zero zero a b differ = cc
turn zero (suc zero) a b differ = refl
turn zero (suc (suc zero)) a b differ = refl
turn (suc zero) zero a b differ = refl
turn (suc zero) (suc zero) a b differ = cc
turn (suc zero) (suc (suc zero)) a b differ = refl
turn (suc (suc zero)) zero a b differ = refl
turn (suc (suc zero)) (suc zero) a b differ = refl
turn (suc (suc zero)) (suc (suc zero)) a b differ = cc
turn (suc (suc (suc d))) e a b differ = absurd (omega arith)
turn d (suc (suc (suc e))) a b differ = absurd (omega arith)

pub dominates_self : (label : List ℕ) → dominates label label ≡ false
dominates_self [] = refl
dominates_self (d ∷ label) = rw (eq-eqb d d refl) (dominates_self label)

-- no two digits are each the next one of the other
one_turn : (d e : ℕ) → d ≡ next_digit e → eqb e (next_digit d) ≡ false
one_turn d e turned = ne_eqb e (next_digit d) (λ back. omega (arith, turned, back))

-- no two labels dominate each other
pub dominates_one_way : (a b : List ℕ) → dominates a b ≡ true → dominates b a ≡ false
dominates_one_way [] b over = cc
dominates_one_way (d ∷ a) [] over = refl
dominates_one_way (d ∷ a) (e ∷ b) over =
    let P : Bool → Type 0 = λ t. eqb d e ≡ t → cond t (dominates a b) (eqb d (next_digit e)) ≡ true
    → cond (eqb e d) (dominates b a) (eqb e (next_digit d)) ≡ false in
    let by : (t : Bool) → P t = λ t. elim t as P [
      | true ↦ λ here rest. cond-true (eqb e d) _ _ (eq-eqb e d (sym (eqb-true d e here))) ∙ dominates_one_way a b rest
      | false ↦ λ here rest. cond-false (eqb e d) _ _ (grind (arith, here)) ∙ one_turn d e (eqb-true d (next_digit e) rest)
    ] in
    by (eqb d e) refl over

pub equal_from_same : (a b : List ℕ) → same_label a b ≡ true → a ≡ b
equal_from_same [] [] same = refl
equal_from_same [] (e ∷ b) same = cc
equal_from_same (d ∷ a) [] same = cc
equal_from_same (d ∷ a) (e ∷ b) same =
    let P : Bool → Type 0 = λ t. eqb d e ≡ t → (t && same_label a b) ≡ true → d ∷ a ≡ e ∷ b in
    let by : (t : Bool) → P t = λ t. elim t as P [
      | true ↦ λ here rest. let heads : d ≡ e = eqb-true d e here in let tails : a ≡ b = equal_from_same a b rest in cc
      | false ↦ λ here rest. cc
    ] in
    by (eqb d e) refl same

-- of two labels that differ just one dominates the other
pub dominates_turn : (a b : List ℕ) → length a ≡ length b → All (λ digit. digit < 3) a → All (λ digit. digit < 3) b
    → same_label a b ≡ false → dominates b a ≡ not (dominates a b)
dominates_turn [] [] len small_a small_b differ = cc
dominates_turn [] (e ∷ b) len small_a small_b differ = let none : 0 ≡ suc (length b) = len in absurd (omega arith)
dominates_turn (d ∷ a) [] len small_a small_b differ = let none : suc (length a) ≡ 0 = len in absurd (omega arith)
dominates_turn (d ∷ a) (e ∷ b) len small_a small_b differ =
    let len' : suc (length a) ≡ suc (length b) = len in
    let P : Bool → Type 0 = λ t. eqb d e ≡ t → (t && same_label a b) ≡ false
    → cond (eqb e d) (dominates b a) (eqb e (next_digit d)) ≡ not (cond t (dominates a b) (eqb d (next_digit e))) in
    let by : (t : Bool) → P t = λ t. elim t as P [
      | true ↦ λ here rest.
          cond-true (eqb e d) _ _ (eq-eqb e d (sym (eqb-true d e here)))
          ∙ dominates_turn a b (omega arith) (All-tail (λ digit. digit < 3) d a small_a) (All-tail (λ digit. digit < 3) e b small_b) rest
      | false ↦ λ here rest.
          cond-false (eqb e d) _ _ (grind (arith, here))
          ∙ turn d e (All-head (λ digit. digit < 3) d a small_a) (All-head (λ digit. digit < 3) e b small_b) here
    ] in
    by (eqb d e) refl differ
