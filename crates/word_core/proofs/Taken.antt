-- Numbers that are gone through, and marked as taken.
use Rattle.std.proofs.Common.{◌≡◌, ◌≢◌, ℕ, ◌+◌, ◌<◌, Bool, true, false, List, length, get_or, set, replicate, refl, sym, ap, ◌∙◌, arith, ⊎_elim, length-set, get_or-set_same, get_or-set_other}
use Rattle.std.specs.Prelude.{slice_index}
use Rattle.std.proofs.lemmas.Bool.{both_ways, cases_eq, cases_lt}
use Rattle.std.proofs.lemmas.List.{get_or-replicate, get_or_past}
use Rattle.word_core.specs.prover.Numbers.{AreApart}

-- the first `at` of the numbers are taken and no others, and are all different
pub record Taken (numbers : List ℕ) (taken : List Bool) (at : ℕ) : Type 0 where
  pub room : length taken ≡ 8
  pub each : (k : ℕ) → k < at → get_or taken (slice_index numbers k) false ≡ true
  pub only : (r : ℕ) → get_or taken r false ≡ true → (k : ℕ) × (k < at) × (slice_index numbers k ≡ r)
  pub apart : (i j : ℕ) → i < j → j < at → slice_index numbers i ≢ slice_index numbers j

pub none_taken : (numbers : List ℕ) → Taken numbers (replicate 8 false) 0
none_taken numbers = record {
  room = refl;
  each = λ k in_k. absurd (omega (arith, in_k));
  only = λ r here. ⊎_elim
      (λ inside. absurd (both_ways (get_or (replicate 8 false) r false) (get_or-replicate 8 r false false inside) here))
      (λ past. absurd (both_ways (get_or (replicate 8 false) r false) (get_or_past (replicate 8 false) r false past) here))
      (cases_lt r 8);
  apart = λ i j lt in_j. absurd (omega (arith, in_j));
}

-- one more that was not taken
pub taken_more : (numbers : List ℕ) (taken : List Bool) (at : ℕ) → slice_index numbers at < 8 → Taken numbers taken at
    → get_or taken (slice_index numbers at) false ≡ false → Taken numbers (set taken (slice_index numbers at) true) (at + 1)
taken_more numbers taken at small so_far free =
    let x : ℕ = slice_index numbers at in
    let here : get_or (set taken x true) x false ≡ true = get_or-set_same taken x true false (omega (arith, small, so_far.room)) in
    let there : (r : ℕ) → r ≢ x → get_or (set taken x true) r false ≡ get_or taken r false = λ r other. get_or-set_other taken x r true false other in
    record {
      room = length-set taken x true ∙ so_far.room;
      each = λ k in_k. ⊎_elim
          (λ same. ap (λ r. get_or (set taken x true) r false) same ∙ here)
          (λ other. there (slice_index numbers k) other ∙ so_far.each k (⊎_elim (λ last. absurd (other (ap (slice_index numbers) last))) (λ before. omega (arith, in_k, before)) (cases_eq k at)))
          (cases_eq (slice_index numbers k) x);
      only = λ r is. ⊎_elim
          (λ same. (at, omega arith, sym same))
          (λ other. let old = so_far.only r (sym (there r other) ∙ is) in (old.0, omega (arith, old.1), old.2))
          (cases_eq r x);
      apart = λ i j lt in_j same. ⊎_elim
          (λ last. both_ways (get_or taken x false) free (ap (λ r. get_or taken r false) (sym (same ∙ ap (slice_index numbers) last)) ∙ so_far.each i (omega (arith, lt, last))))
          (λ before. so_far.apart i j lt (omega (arith, in_j, before)) same)
          (cases_eq j at);
    }

-- one more that was taken is not different from all
pub not_apart : (numbers : List ℕ) (taken : List Bool) (at : ℕ) → at < length numbers → Taken numbers taken at
    → get_or taken (slice_index numbers at) false ≡ true → ¬ AreApart numbers
not_apart numbers taken at inside so_far twice = λ apart.
    let old = so_far.only (slice_index numbers at) twice in apart old.0 at old.1 inside old.2
