-- The bytes of a word are letters, which can be taken from the text.
use Rattle.std.proofs.Common.{◌≡◌, ℕ, zero, suc, ◌+◌, ◌-◌, ◌<◌, ◌≤◌, Bool, true, false, List, [], ◌∷◌, ◌&&◌, cond, drop, length, arith, inl, inr, leb, refl, subst, sym}
use Rattle.std.specs.List.{prefix_len, take_while}
use Rattle.std.specs.Str.{IsAscii}
use Rattle.std.proofs.lemmas.Bool.{and_parts, or_cases, leb-true, eqb-true}
use Rattle.std.proofs.lemmas.List.Sums.{take_while-cons}
use Rattle.language_questions.specs.Characters.{is_name_part}
use Rattle.language_questions.specs.Extents.{end_of}
use Rattle.language_questions.specs.Tokens.{letters_at}
use Rattle.language_questions.specs.declared.extents.Extent.TheVariants as E
use Rattle.language_questions.specs.prover.Letters.{IsLetters}

part_is_ascii : (b : ℕ) → is_name_part b ≡ true → b < 128
part_is_ascii b part =
    elim (or_cases _ _ part) [ inl letter ↦ elim (or_cases _ _ letter) [ inl alphabetic ↦ elim (or_cases (leb 65 b && leb b 90) (leb 97 b && leb b 122) alphabetic) [ inl upper ↦ omega (arith, leb-true b 90 (and_parts (leb 65 b) (leb b 90) upper).1) | inr lower ↦ omega (arith, leb-true b 122 (and_parts (leb 97 b) (leb b 122) lower).1) ] | inr low_line ↦ omega (arith, eqb-true b 95 low_line) ] | inr digit ↦ omega (arith, leb-true b 57 (and_parts (leb 48 b) (leb b 57) digit).1) ]

first_is_ascii : (b : ℕ) (part : Bool) → is_name_part b ≡ part → (rest : List ℕ) → IsAscii rest → IsAscii (cond part (b ∷ rest) [])
first_is_ascii b true is rest all zero = part_is_ascii b is
first_is_ascii b true is rest all (suc i) = all i
first_is_ascii b false is rest all i = omega arith

parts_are_ascii : (bytes : List ℕ) → IsAscii (take_while is_name_part bytes)
parts_are_ascii [] i = omega arith
parts_are_ascii (b ∷ bytes) i =
    subst IsAscii (sym (take_while-cons is_name_part b bytes)) (first_is_ascii b (is_name_part b) refl (take_while is_name_part bytes) (parts_are_ascii bytes)) i

word_is_ascii : (text : List ℕ) (from : ℕ) → IsAscii (letters_at text (record { start = from; end = end_of E.Word text from }))
word_is_ascii text from =
    let same : (from + prefix_len is_name_part (drop from text)) - from ≡ prefix_len is_name_part (drop from text) = omega arith in
    rw same (parts_are_ascii (drop from text))

pub word_letters : (text : List ℕ) (from end : ℕ) → end ≡ end_of E.Word text from → end ≤ length text → IsLetters text (record { start = from; end = end })
word_letters text from end is within = record {
  ordered = omega arith;
  within = within;
  ascii = subst (λ k. IsAscii (letters_at text (record { start = from; end = k }))) (sym is) (word_is_ascii text from);
}
