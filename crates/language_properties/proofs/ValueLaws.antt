-- The laws of values.
use Rattle.std.proofs.Common.{◌≡◌, ℕ, List, [], ◌∷◌, map, Ok, Err, refl, Bool, true, false, if◌then◌else◌}
use Rattle.std.specs.Prelude.{◌==◌, length, slice_set}
use Rattle.std.specs.List.{range_with_len}
use Rattle.base.specs.Refusing.{◌>>=◌}
use Rattle.language_properties.specs.declared.property.Junction.TheVariants as J
use Rattle.language_properties.specs.Values.{Valued, value, truth_of, some_of, all_of, junction}
use Rattle.language_properties.specs.Laws.{ValuesLaw}

abbrev the_value : ℕ → Valued
the_value v = Ok v

abbrev opposite : ℕ → Valued
opposite v = Ok (if v == 0 then 1 else 0)

twice_test : (none : Bool) → opposite (if none then 1 else 0) ≡ Ok (if none then 0 else 1)
twice_test true = refl
twice_test false = refl

twice_of : (v : Valued) → ((v >>= opposite) >>= opposite) ≡ (v >>= truth_of)
twice_of (Ok v) = twice_test (v == 0)
twice_of (Err t) = refl

truth_test : (none : Bool) → the_value (if none then 0 else 1) ≡ opposite (if (if none then 1 else 0) == 0 then 0 else 1)
truth_test true = refl
truth_test false = refl

opposite_twice : (v : Valued) → (v >>= truth_of) ≡ (((v >>= opposite) >>= truth_of) >>= opposite)
opposite_twice (Ok v) = truth_test (v == 0)
opposite_twice (Err t) = refl

either_test : (none : Bool) (w : Valued)
    → (if none then w >>= truth_of else the_value 1) ≡ ((if (if none then 1 else 0) == 0 then the_value 0 else ((w >>= opposite) >>= truth_of)) >>= opposite)
either_test true w = opposite_twice w
either_test false w = refl

either_of : (v w : Valued) → (v >>= λ x. junction J.Or x w) ≡ (((v >>= opposite) >>= λ x. junction J.And x (w >>= opposite)) >>= opposite)
either_of (Ok v) w = either_test (v == 0) w
either_of (Err t) w = refl

some_test : (none : Bool) (some all : Valued) → some ≡ (all >>= opposite)
    → (if none then some else the_value 1) ≡ ((if (if none then 1 else 0) == 0 then the_value 0 else all) >>= opposite)
some_test true some all is = is
some_test false some all is = refl

some_step : (v some all : Valued) → some ≡ (all >>= opposite)
    → (v >>= λ x. if x == 0 then some else the_value 1) ≡ (((v >>= opposite) >>= λ x. if x == 0 then the_value 0 else all) >>= opposite)
some_step (Ok v) some all is = some_test (v == 0) some all is
some_step (Err t) some all is = refl

some_of_list : (f : ℕ → Valued) (xs : List ℕ) → some_of (map f xs) ≡ (all_of (map (λ x. f x >>= opposite) xs) >>= opposite)
some_of_list f [] = refl
some_of_list f (x ∷ xs) =
    some_step (f x) (some_of (map f xs)) (all_of (map (λ x. f x >>= opposite) xs)) (some_of_list f xs)

pub values_law : ValuesLaw
values_law = record {
  twice = λ s processes e. twice_of (value s processes e);
  either = λ s processes e f. either_of (value s processes e) (value s processes f);
  some = λ s processes i e. some_of_list (λ p. value s (slice_set processes i p) e) (range_with_len 0 (length s.statuses));
}
