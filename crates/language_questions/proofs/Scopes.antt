-- The names of a scope, of which the code has a row of eight.
use Rattle.std.proofs.Common.{◌≡◌, ◌+◌, Bool, not, cond, nat_lt, List, [], ◌∷◌, length, map, Some, None, refl, sym, ap}
use Rattle.std.specs.List.{position, prefix_len}
use Rattle.std.proofs.lemmas.List.{length-map}

prefix_mapped : {X Y : Type 0} (f : X → Y) (test : Y → Bool) (xs : List X) → prefix_len (λ x. test (f x)) xs ≡ prefix_len test (map f xs)
prefix_mapped f test [] = refl
prefix_mapped f test (x ∷ xs) = ap (λ n. cond (test (f x)) (1 + n) 0) (prefix_mapped f test xs)

pub position_mapped : {X Y : Type 0} (f : X → Y) (test : Y → Bool) (xs : List X) → position (λ x. test (f x)) xs ≡ position test (map f xs)
position_mapped f test xs =
    let place : prefix_len (λ x. not (test (f x))) xs ≡ prefix_len (λ y. not (test y)) (map f xs) = prefix_mapped f (λ y. not (test y)) xs in
    let long : length xs ≡ length (map f xs) = sym (length-map xs f) in
    λ i. cond (nat_lt (place i) (long i)) (Some (place i)) None
