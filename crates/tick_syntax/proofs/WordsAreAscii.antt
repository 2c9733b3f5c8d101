-- The bytes of a word are ASCII.
use Rattle.std.proofs.Common.{◌≡◌, ℕ, zero, suc, ◌<◌, true, List, [], ◌∷◌, ◌&&◌, arith, inl, inr, leb}
use Rattle.std.specs.List.{list_all}
use Rattle.std.specs.Str.{IsAscii}
use Rattle.std.proofs.lemmas.Bool.{and_parts, or_cases, leb-true, eqb-true}
use Rattle.tick_syntax.specs.Characters.{is_name_part}
use Rattle.tick_syntax.specs.Spelling.{is_word}

part_is_ascii : (b : ℕ) → is_name_part b ≡ true → b < 128
part_is_ascii b part =
    elim (or_cases _ _ part) [ inl letter ↦ elim (or_cases _ _ letter) [ inl alphabetic ↦ elim (or_cases (leb 65 b && leb b 90) (leb 97 b && leb b 122) alphabetic) [ inl upper ↦ omega (arith, leb-true b 90 (and_parts (leb 65 b) (leb b 90) upper).1) | inr lower ↦ omega (arith, leb-true b 122 (and_parts (leb 97 b) (leb b 122) lower).1) ] | inr low_line ↦ omega (arith, eqb-true b 95 low_line) ] | inr digit ↦ omega (arith, leb-true b 57 (and_parts (leb 48 b) (leb b 57) digit).1) ]

parts_are_ascii : (piece : List ℕ) → list_all is_name_part piece ≡ true → IsAscii piece
parts_are_ascii [] all i = omega arith
parts_are_ascii (b ∷ piece) all zero = part_is_ascii b (and_parts _ _ all).0
parts_are_ascii (b ∷ piece) all (suc i) = parts_are_ascii piece (and_parts _ _ all).1 i

pub word_is_ascii : (piece : List ℕ) → is_word piece ≡ true → IsAscii piece
word_is_ascii piece word = parts_are_ascii piece (and_parts _ _ word).1
