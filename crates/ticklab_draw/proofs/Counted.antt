-- A band has at most one lane more with another mark, and six at most.
use Rattle.std.proofs.Common.{◌≡◌, ◌∙◌, refl, ℕ, zero, suc, ◌+◌, ◌≤◌, Bool, true, false, if◌then◌else◌, List, [], ◌∷◌, arith, length}
use Rattle.std.specs.Prelude.{slice_set}
use Rattle.std.proofs.Math.ListN.{length-set}
use Rattle.std.proofs.lemmas.List.Sums.{count_by-le-length, sum_by-cons}
use Rattle.ticklab_draw.specs.LaneSets.{all_lanes, lane_count}

counted : (lane : Bool) (has : List Bool) → lane_count (lane ∷ has) ≡ (if lane then 1 else 0) + lane_count has
counted lane has = sum_by-cons (λ (one : Bool). if one then 1 else 0) lane has

pub one_more : (has : List Bool) (p : ℕ) → lane_count (slice_set has p true) ≤ lane_count has + 1
one_more [] p = omega arith
one_more (true ∷ has) zero = omega arith
one_more (false ∷ has) zero = omega (arith, counted true has, counted false has)
one_more (lane ∷ has) (suc p) = let more = one_more has p in let one = counted lane has in let other = counted lane (slice_set has p true) in omega arith

length_all : (n : ℕ) → length (all_lanes n) ≡ 6
length_all zero = refl
length_all (suc p) = length-set (all_lanes p) p true ∙ length_all p

pub at_most_six : (n : ℕ) → lane_count (all_lanes n) ≤ 6
at_most_six n = omega (arith, count_by-le-length (λ (one : Bool). one) (all_lanes n), length_all n)
