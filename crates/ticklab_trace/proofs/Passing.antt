-- The place after bytes that are passed in parts.
use Rattle.std.proofs.Common.{◌≡◌, ℕ, ◌+◌, ◌-◌, ◌≤◌, List, [], ◌∷◌, ◌++◌, length, refl, ap, ◌∙◌, sym, arith, take, drop, slice_range, take-add, length-drop, length-take, drop_of_length-le}
use Rattle.ticklab_trace.specs.declared.spots.LineColumn.{LineColumn}
use Rattle.ticklab_trace.specs.declared.spots.Passed.{Passed}
use Rattle.ticklab_trace.specs.Places.{first_place, next_place, place_after}
use Rattle.ticklab_trace.specs.prover.Heads.{HasPassed}

pub place_after-append : (place : LineColumn) (xs ys : List ℕ) → place_after place (xs ++ ys) ≡ place_after (place_after place xs) ys
place_after-append place [] ys = refl
place_after-append place (x ∷ xs) ys = place_after-append (next_place place x) xs ys

pub length_part : (bytes : List ℕ) (at start : ℕ) → start ≤ length bytes → length (slice_range bytes at start) ≡ start - at
length_part bytes at start within = length-take (start - at) (drop at bytes) ∙ omega (arith, length-drop at bytes)

pub passed_more : (bytes : List ℕ) (passed : Passed) (start i : ℕ) (place : LineColumn) → HasPassed bytes passed → passed.at ≤ start → start ≤ length bytes
    → length (slice_range bytes passed.at start) ≤ i → i ≤ length (slice_range bytes passed.at start)
    → place_after place (drop i (slice_range bytes passed.at start)) ≡ place_after passed.place (slice_range bytes passed.at start)
    → place.line ≤ 1 + passed.at + i → place.column ≤ 1 + passed.at + i → HasPassed bytes (record { at = start; place = place })
passed_more bytes passed start i place before order within done inside so_far line column =
    let part = slice_range bytes passed.at start in
    let long = length_part bytes passed.at start within in record {
      within = within;
      place = ap (place_after place) (sym (drop_of_length-le part done)) ∙ so_far ∙ ap (λ p. place_after p part) before.place
          ∙ sym (place_after-append first_place (take passed.at bytes) part)
          ∙ ap (place_after first_place) (sym (take-add passed.at (start - passed.at) bytes) ∙ ap (λ n. take n bytes) (omega arith));
      line = omega arith;
      column = omega arith;
    }
