-- How a text that is written token by token, each followed by a blank, is spelled.
-- The idea. No gap stands before the bytes of a token (`token_no_gap`), and a blank before a text moves all its tokens on
-- by one (`blank_before`). So a piece, a blank and the rest are spelled by the token of the piece and those of the rest
-- (`spelled_piece`). A blank also ends the piece: `name_token`, `keyword_token`, `sign_token` and `number_token` say of the
-- four sorts that the piece is a token there.
-- Read `blank_before` first, then `spelled_piece` and `name_token`.
use Rattle.std.proofs.Common.{◌≡◌, ℕ, suc, ◌<◌, ◌≤◌, Bool, true, false, List, [], ◌∷◌, ◌++◌, ◌+◌, ◌-◌, ◌&&◌, ◌==◌, not, leb, length, take, drop, refl, sym, ap, ◌∙◌, subst, arith, inl, inr, slice_range, add-zero, map}
use Rattle.std.specs.Fmt.{decimal}
use Rattle.std.specs.List.{list_all}
use Rattle.std.specs.Str.Parse.{AllDigits}
use Rattle.std.proofs.lemmas.Bool.{and_parts, and_from, and_right, or_cases, or_from, not-true, not_from_false, false≢true, eqb-true, ne_eqb, leb-true, le-leb}
use Rattle.std.proofs.lemmas.Fmt.{decimal_is_IsNumeral, decimal_nonempty}
use Rattle.std.proofs.lemmas.List.{take_at, drop_at}
use Rattle.std.proofs.lemmas.Str.Parse.{digit_from_value}
use Rattle.base.specs.Blanks.{is_blank}
use Rattle.tick_syntax.specs.Characters.{hash, is_letter, is_digit, is_name_part, is_sign, is_keyword}
use Rattle.tick_syntax.specs.Spelling.{gap_length, comment_length, after_gap, starts, is_word, is_number, span_of, IsWord, IsNumber, IsSign, IsToken, TokenAt, SpellsFrom}
use Rattle.tick_syntax.specs.Terminals.{spelling, keywords}
use Rattle.tick_syntax.specs.declared.token.Sort.{Sort}
use Rattle.tick_syntax.specs.declared.token.Sort.TheVariants.{Name, Num, Keyword, Sign}
use Rattle.tick_syntax.specs.declared.token.Token.{Token}
use Rattle.tick_syntax.proofs.FirstToken.{among_words}
use Rattle.tick_syntax.proofs.LongestPieces.{word_starts, number_starts, sign_first}

-- a byte that begins no gap
abbrev begins_no_gap : ℕ → Bool
begins_no_gap b = not (is_blank b) && not (b == hash)

-- a gap goes on with a blank, and ends before what is neither a blank nor `#`
gap_blank : (b : ℕ) (bs : List ℕ) → is_blank b ≡ true → gap_length (b ∷ bs) ≡ 1 + gap_length bs
gap_blank b bs blank =
    subst (λ (t : Bool). elim t as (λ _. ℕ) [ true ↦ 1 + gap_length bs | false ↦ elim (b == hash) as (λ _. ℕ) [ true ↦ 1 + comment_length bs | false ↦ 0 ] ] ≡ 1 + gap_length bs) (sym blank) refl

gap_ends : (b : ℕ) (bs : List ℕ) → is_blank b ≡ false → (b == hash) ≡ false → gap_length (b ∷ bs) ≡ 0
gap_ends b bs blank no_hash =
    subst (λ (t : Bool). elim t as (λ _. ℕ) [ true ↦ 1 + gap_length bs | false ↦ elim (b == hash) as (λ _. ℕ) [ true ↦ 1 + comment_length bs | false ↦ 0 ] ] ≡ 0) (sym blank) (subst (λ (t : Bool). elim t as (λ _. ℕ) [ true ↦ 1 + comment_length bs | false ↦ 0 ] ≡ 0) (sym no_hash) refl)

no_gap : (text : List ℕ) → starts begins_no_gap text ≡ true → gap_length text ≡ 0
no_gap [] begins = refl
no_gap (b ∷ bs) begins =
    let parts = and_parts _ _ begins in
    gap_ends b bs (not-true _ parts.0) (not-true _ parts.1)

above_gap : (b : ℕ) → 48 ≤ b → begins_no_gap b ≡ true
above_gap b high =
    and_from _ _ (not_from_false _ (or_from _ _ (or_from _ _ (or_from _ _ (ne_eqb b 32 (λ e. omega arith)) (ne_eqb b 9 (λ e. omega arith))) (ne_eqb b 13 (λ e. omega arith))) (ne_eqb b 10 (λ e. omega arith)))) (not_from_false _ (ne_eqb b 35 (λ e. omega arith)))

letter_high : (b : ℕ) → is_letter b ≡ true → 48 ≤ b
letter_high b letter =
    elim (or_cases _ _ letter) [ inl alphabetic ↦ elim (or_cases (leb 65 b && leb b 90) (leb 97 b && leb b 122) alphabetic) [ inl upper ↦ omega (arith, leb-true 65 b (and_parts (leb 65 b) (leb b 90) upper).0) | inr lower ↦ omega (arith, leb-true 97 b (and_parts (leb 97 b) (leb b 122) lower).0) ] | inr low_line ↦ omega (arith, eqb-true b 95 low_line) ]

starts_weaker : (test other : ℕ → Bool) (text : List ℕ) → ((b : ℕ) → test b ≡ true → other b ≡ true) → starts test text ≡ true → starts other text ≡ true
starts_weaker test other [] weaker begins = begins
starts_weaker test other (b ∷ bs) weaker begins = weaker b begins

-- no gap stands before a token's own bytes
token_no_gap : (piece more : List ℕ) (sort : Sort) → IsToken piece more sort → gap_length (piece ++ more) ≡ 0
token_no_gap piece more Name kind =
    no_gap (piece ++ more) (starts_weaker is_letter begins_no_gap (piece ++ more) (λ b letter. above_gap b (letter_high b letter)) (word_starts piece more kind.0))
token_no_gap piece more (Num value) kind =
    no_gap (piece ++ more) (starts_weaker is_digit begins_no_gap (piece ++ more) (λ b digit. above_gap b (leb-true 48 b (and_parts _ _ digit).0)) (number_starts piece more kind.0))
token_no_gap piece more Keyword kind =
    no_gap (piece ++ more) (starts_weaker is_letter begins_no_gap (piece ++ more) (λ b letter. above_gap b (letter_high b letter)) (word_starts piece more kind.0))
token_no_gap piece more Sign kind = no_gap (piece ++ more) (sign_first begins_no_gap piece more refl refl kind.sign)

-- a blank before the text moves it on by one
pub blank_before : (at b : ℕ) (more : List ℕ) (tokens : List Token) → is_blank b ≡ true → SpellsFrom (at + 1) more tokens → SpellsFrom at (b ∷ more) tokens
blank_before at b more [] blank spells =
    let gap : gap_length (b ∷ more) ≡ suc (gap_length more) = gap_blank b more blank ∙ omega arith in
    ap (λ n. drop n (b ∷ more)) gap ∙ spells
blank_before at b more (token ∷ tokens) blank spells =
    let gap : gap_length (b ∷ more) ≡ suc (gap_length more) = gap_blank b more blank ∙ omega arith in
    let place : at + 1 + gap_length more ≡ at + gap_length (b ∷ more) = omega arith in
    let rest : after_gap more ≡ after_gap (b ∷ more) = sym (ap (λ n. drop n (b ∷ more)) gap) in (
      spells.0,
      subst (λ (n : ℕ). TokenAt n (after_gap (b ∷ more)) token spells.0) place (subst (λ (text : List ℕ). TokenAt (at + 1 + gap_length more) text token spells.0) rest spells.1),
      spells.2,
    )

-- a token, a blank, and what the rest is spelled by
pub spelled_piece : (at : ℕ) (piece : List ℕ) (b : ℕ) (more : List ℕ) (sort : Sort) (tokens : List Token) → is_blank b ≡ true → IsToken piece (b ∷ more) sort → SpellsFrom (at + length piece + 1) more tokens → SpellsFrom at (piece ++ b ∷ more) (record { sort = sort; span = span_of at piece } ∷ tokens)
spelled_piece at piece b more sort tokens blank kind spells =
    let text = piece ++ b ∷ more in
    let token : Token = record { sort = sort; span = span_of at piece } in
    let here : TokenAt at text token (b ∷ more) = record { piece = piece; split = refl; kind = kind; place = refl } in (
      b ∷ more,
      subst (λ (n : ℕ). TokenAt (at + n) (drop n text) token (b ∷ more)) (sym (token_no_gap piece (b ∷ more) sort kind)) (subst (λ (n : ℕ). TokenAt n text token (b ∷ more)) (sym (add-zero at)) here),
      blank_before (at + length piece) b more tokens blank spells,
    )

-- what holds of the four blanks holds of each blank
blank_is : (test : ℕ → Bool) (b : ℕ) → list_all test (32 ∷ 9 ∷ 13 ∷ 10 ∷ []) ≡ true → is_blank b ≡ true → test b ≡ true
blank_is test b all blank =
    let first = and_parts (test 32) _ all in
    let second = and_parts (test 9) _ first.1 in
    let third = and_parts (test 13) _ second.1 in
    let fourth = and_parts (test 10) _ third.1 in
    elim (or_cases _ _ blank) [ inl three ↦ elim (or_cases _ _ three) [ inl two ↦ elim (or_cases _ _ two) [ inl one ↦ ap test (eqb-true b 32 one) ∙ first.0 | inr tab ↦ ap test (eqb-true b 9 tab) ∙ second.0 ] | inr return ↦ ap test (eqb-true b 13 return) ∙ third.0 ] | inr feed ↦ ap test (eqb-true b 10 feed) ∙ fourth.0 ]

-- a blank ends each piece
pub word_before_blank : (piece : List ℕ) (b : ℕ) (more : List ℕ) → is_word piece ≡ true → is_blank b ≡ true → IsWord piece (b ∷ more)
word_before_blank piece b more word blank =
    record { word = word; longest = not-true _ (blank_is (λ c. not (is_name_part c)) b refl blank) }

pub number_before_blank : (piece : List ℕ) (b : ℕ) (more : List ℕ) → is_number piece ≡ true → is_blank b ≡ true → IsNumber piece (b ∷ more)
number_before_blank piece b more number blank =
    record { number = number; longest = not-true _ (blank_is (λ c. not (is_digit c)) b refl blank) }

pub sign_before_blank : (piece : List ℕ) (b : ℕ) (more : List ℕ) → is_sign piece ≡ true → is_blank b ≡ true → IsSign piece (b ∷ more)
sign_before_blank [] b more sign blank = absurd (false≢true sign)
sign_before_blank (a ∷ []) b more sign blank =
    record { sign = sign; longest = and_right _ _ (not-true _ (blank_is (λ c. not (c == 61)) b refl blank)) }
sign_before_blank (a ∷ c ∷ []) b more sign blank = record { sign = sign; longest = refl }
sign_before_blank (a ∷ c ∷ d ∷ piece) b more sign blank = absurd (false≢true sign)

-- the four sorts of token before a blank
pub name_token : (piece : List ℕ) (b : ℕ) (more : List ℕ) → is_word piece ≡ true → is_keyword piece ≡ false → length piece ≤ 64 → is_blank b ≡ true → IsToken piece (b ∷ more) Name
name_token piece b more word no_keyword short blank = (word_before_blank piece b more word blank, no_keyword, short)

pub keyword_token : (piece : List ℕ) (b : ℕ) (more : List ℕ) → is_keyword piece ≡ true → is_blank b ≡ true → IsToken piece (b ∷ more) Keyword
keyword_token piece b more keyword blank = (
  word_before_blank piece b more (among_words is_word piece (map spelling keywords) refl keyword) blank,
  keyword,
)

pub sign_token : (piece : List ℕ) (b : ℕ) (more : List ℕ) → is_sign piece ≡ true → is_blank b ≡ true → IsToken piece (b ∷ more) Sign
sign_token piece b more sign blank = sign_before_blank piece b more sign blank

all_digits : (ds : List ℕ) → AllDigits 10 ds → list_all is_digit ds ≡ true
all_digits [] all = refl
all_digits (d ∷ ds) all =
    let range = digit_from_value d all.0 in
    and_from _ _ (and_from _ _ (le-leb 48 d range.0) (le-leb d 57 range.1)) (all_digits ds all.1)

starts_all : (test : ℕ → Bool) (text : List ℕ) → 0 < length text → list_all test text ≡ true → starts test text ≡ true
starts_all test [] some all = absurd (omega arith)
starts_all test (b ∷ bs) some all = (and_parts _ _ all).0

pub number_token : (value b : ℕ) (more : List ℕ) → value ≤ 4294967295 → is_blank b ≡ true → IsToken (decimal value) (b ∷ more) (Num value)
number_token value b more small blank =
    let numeral = decimal_is_IsNumeral value (omega arith) in
    let all = all_digits (decimal value) numeral.0.1 in
    let number = and_from _ _ (starts_all is_digit (decimal value) (decimal_nonempty value (omega arith)) all) all in
    (number_before_blank (decimal value) b more number blank, numeral.1, small)

-- the bytes at a span that was given to a piece
pub piece_at : (before piece after : List ℕ) → slice_range (before ++ (piece ++ after)) (length before) (length before + length piece) ≡ piece
piece_at before piece after =
    let size : length before + length piece - length before ≡ length piece = omega arith in
    ap (λ text. take (length before + length piece - length before) text) (drop_at before (piece ++ after) (length before) refl) ∙ take_at piece after _ (sym size)
