-- The longest fronts of a text are its words, numbers and signs (`word_of_text`, `number_of_text`,
-- `sign_of_text`). Where it has none of them no token begins (`no_token`). And back: where a text begins with
-- such a piece, its front is as long as the piece (`word_length_is`, `number_length_is`, `sign_length_is`).
--
-- The idea. A word or a number is the longest front of which each byte passes a test. `front_passes` and
-- `front_stops` say so for any test, and `front_is` is the way back, all by induction on the bytes. A sign
-- has one byte or two, so its lemmas are a case split on the first bytes. The difficulty is there: a sign of
-- one byte is longest only where no `=` makes it one of two (`sign_of_text`, `lone_length`). That no sign
-- begins with a letter or a digit is computed over all first bytes of signs (`sign_first`). Read
-- `front_passes` and `word_of_text` first.
use Rattle.std.proofs.Common.{◌≡◌, ℕ, suc, inl, inr, ◌<◌, Bool, true, false, cond, List, [], ◌∷◌, ◌++◌, ◌+◌, length, take, drop, refl, ap, ◌∙◌, arith, ◌&&◌, ◌==◌, not}
use Rattle.std.specs.List.{list_all, list_any, prefix_len}
use Rattle.std.proofs.lemmas.Bool.{and_parts, and_from, and_left, and_right, or_cases, or_from, or_left, or_right, cond_both, cond-true, cond-false, eqb-true, ne_eqb, leb-true, lt-leb, not-true, false≢true}
use Rattle.tick_syntax.specs.Characters.{is_letter, is_digit, is_name_part, is_sign, lone_signs, is_lone_sign, before_equals, may_precede_equals}
use Rattle.tick_syntax.specs.prover.Extents.{word_length, number_length, sign_length}
use Rattle.tick_syntax.specs.Spelling.{starts, starts_token, IsWord, IsNumber, IsSign}

-- the longest front whose bytes pass, and the byte after it that doesn't
front_passes : (test : ℕ → Bool) (text : List ℕ) → list_all test (take (prefix_len test text) text) ≡ true
front_passes test [] = refl
front_passes test (b ∷ bs) =
    cond_both (test b) (1 + prefix_len test bs) 0 (λ n. list_all test (take n (b ∷ bs)) ≡ true) (λ passes. let e : 1 + prefix_len test bs ≡ suc (prefix_len test bs) = omega arith in rw e (and_from _ _ passes (front_passes test bs))) (λ fails. refl)

front_stops : (test : ℕ → Bool) (text : List ℕ) → starts test (drop (prefix_len test text) text) ≡ false
front_stops test [] = refl
front_stops test (b ∷ bs) =
    cond_both (test b) (1 + prefix_len test bs) 0 (λ n. starts test (drop n (b ∷ bs)) ≡ false) (λ passes. let e : 1 + prefix_len test bs ≡ suc (prefix_len test bs) = omega arith in rw e (front_stops test bs)) (λ fails. fails)

-- a front that is not empty begins as the text does
front_starts : (test first : ℕ → Bool) (text : List ℕ) → ((b : ℕ) → first b ≡ true → test b ≡ true) → starts first text ≡ true → starts first (take (prefix_len test text) text) ≡ true
front_starts test first [] passes begins = begins
front_starts test first (b ∷ bs) passes begins =
    let e : prefix_len test (b ∷ bs) ≡ suc (prefix_len test bs) = cond-true (test b) (1 + prefix_len test bs) 0 (passes b begins) ∙ omega arith in
    rw e begins

front_positive : (test first : ℕ → Bool) (text : List ℕ) → ((b : ℕ) → first b ≡ true → test b ≡ true) → starts first text ≡ true → 0 < prefix_len test text
front_positive test first [] passes begins = absurd (false≢true begins)
front_positive test first (b ∷ bs) passes begins =
    omega (arith, cond-true (test b) (1 + prefix_len test bs) 0 (passes b begins))

letter_is_part : (b : ℕ) → is_letter b ≡ true → is_name_part b ≡ true
letter_is_part b letter = or_left _ _ letter

pub word_of_text : (text : List ℕ) → starts is_letter text ≡ true → IsWord (take (word_length text) text) (drop (word_length text) text)
word_of_text text begins =
    record {
      word = and_from _ _ (front_starts is_name_part is_letter text letter_is_part begins) (front_passes is_name_part text);
      longest = front_stops is_name_part text;
    }

pub word_positive : (text : List ℕ) → starts is_letter text ≡ true → 0 < word_length text
word_positive text begins = front_positive is_name_part is_letter text letter_is_part begins

pub number_of_text : (text : List ℕ) → starts is_digit text ≡ true → IsNumber (take (number_length text) text) (drop (number_length text) text)
number_of_text text begins =
    record {
      number = and_from _ _ (front_starts is_digit is_digit text (λ b digit. digit) begins) (front_passes is_digit text);
      longest = front_stops is_digit text;
    }

pub number_positive : (text : List ℕ) → starts is_digit text ≡ true → 0 < number_length text
number_positive text begins = front_positive is_digit is_digit text (λ b digit. digit) begins

-- what holds of every byte of a list holds of each that is among them
pub among : (test : ℕ → Bool) (b : ℕ) (bs : List ℕ) → list_all test bs ≡ true → list_any (λ sign. b == sign) bs ≡ true → test b ≡ true
among test b [] all some = absurd (false≢true some)
among test b (c ∷ bs) all some =
    let parts = and_parts _ _ all in
    elim (or_cases _ _ some) [ inl same ↦ ap test (eqb-true b c same) ∙ parts.0 | inr later ↦ among test b bs parts.1 later ]

no_third : (a b : ℕ) (bs : List ℕ) → starts (λ next. is_sign (a ∷ b ∷ next ∷ [])) bs ≡ false
no_third a b [] = refl
no_third a b (c ∷ bs) = refl

pub sign_of_text : (text : List ℕ) → 0 < sign_length text → IsSign (take (sign_length text) text) (drop (sign_length text) text)
sign_of_text [] = λ positive. absurd (omega arith)
sign_of_text (a ∷ []) =
    let P : ℕ → Type 0 = λ n. 0 < n → IsSign (take n (a ∷ [])) (drop n (a ∷ [])) in
    cond_both (may_precede_equals a && false) 2 (cond (is_lone_sign a) 1 0) P (λ both. absurd (false≢true (and_parts _ _ both).1)) (λ alone. cond_both (is_lone_sign a) 1 0 P (λ lone positive. record { sign = lone; longest = refl }) (λ no positive. absurd (omega arith)))
sign_of_text (a ∷ b ∷ bs) =
    let P : ℕ → Type 0 = λ n. 0 < n → IsSign (take n (a ∷ b ∷ bs)) (drop n (a ∷ b ∷ bs)) in
    cond_both (may_precede_equals a && (b == 61)) 2 (cond (is_lone_sign a) 1 0) P (λ both positive. record { sign = both; longest = no_third a b bs }) (λ alone. cond_both (is_lone_sign a) 1 0 P (λ lone positive. record { sign = lone; longest = alone }) (λ no positive. absurd (omega arith)))

no_pair : (a : ℕ) (bs : List ℕ) → (may_precede_equals a && starts (λ next. next == 61) bs) ≡ false → starts (λ next. is_sign (a ∷ next ∷ [])) bs ≡ false
no_pair a [] alone = refl
no_pair a (b ∷ bs) alone = alone

-- neither a word nor a number nor a sign
pub no_token : (text : List ℕ) → starts is_letter text ≡ false → starts is_digit text ≡ false → sign_length text ≡ 0 → starts_token text ≡ false
no_token [] letter digit = λ none. refl
no_token (a ∷ bs) letter digit =
    let P : ℕ → Type 0 = λ n. n ≡ 0 → starts_token (a ∷ bs) ≡ false in
    cond_both (may_precede_equals a && starts (λ next. next == 61) bs) 2 (cond (is_lone_sign a) 1 0) P (λ both none. absurd (omega arith)) (λ alone. cond_both (is_lone_sign a) 1 0 P (λ lone none. absurd (omega arith)) (λ no none. or_from _ _ (or_from _ _ (or_from _ _ letter digit) no) (no_pair a bs alone)))

-- and the other way: how long the front of a text is that such a piece begins
front_is : (test : ℕ → Bool) (piece more : List ℕ) → list_all test piece ≡ true → starts test more ≡ false → prefix_len test (piece ++ more) ≡ length piece
front_is test [] [] all stops = refl
front_is test [] (b ∷ more) all stops = cond-false (test b) _ _ stops
front_is test (b ∷ piece) more all stops =
    let parts = and_parts _ _ all in
    let e : 1 + length piece ≡ suc (length piece) = omega arith in
    cond-true (test b) _ _ parts.0 ∙ ap (λ n. 1 + n) (front_is test piece more parts.1 stops) ∙ e

pub word_length_is : (piece more : List ℕ) → IsWord piece more → word_length (piece ++ more) ≡ length piece
word_length_is piece more w = front_is is_name_part piece more (and_parts _ _ w.word).1 w.longest

pub number_length_is : (piece more : List ℕ) → IsNumber piece more → number_length (piece ++ more) ≡ length piece
number_length_is piece more n = front_is is_digit piece more (and_parts _ _ n.number).1 n.longest

lone_length : (a : ℕ) (more : List ℕ) → is_lone_sign a ≡ true → starts (λ next. is_sign (a ∷ next ∷ [])) more ≡ false → sign_length (a ∷ more) ≡ 1
lone_length a [] lone stops =
    cond-false (may_precede_equals a && false) _ _ (and_right _ _ refl) ∙ cond-true (is_lone_sign a) 1 0 lone
lone_length a (b ∷ more) lone stops = cond-false _ _ _ stops ∙ cond-true (is_lone_sign a) 1 0 lone

pub sign_length_is : (piece more : List ℕ) → IsSign piece more → sign_length (piece ++ more) ≡ length piece
sign_length_is [] more s = absurd (false≢true s.sign)
sign_length_is (a ∷ []) more s = lone_length a more s.sign s.longest
sign_length_is (a ∷ b ∷ []) more s = cond-true (may_precede_equals a && (b == 61)) 2 _ s.sign
sign_length_is (a ∷ b ∷ c ∷ piece) more s = absurd (false≢true s.sign)

-- what a piece begins with
pub digit_no_letter : (b : ℕ) → is_digit b ≡ true → is_letter b ≡ false
digit_no_letter b digit =
    let low = leb-true b 57 (and_parts _ _ digit).1 in
    or_from _ _ (or_from _ _ (and_left _ _ (lt-leb 65 b (omega arith))) (and_left _ _ (lt-leb 97 b (omega arith)))) (ne_eqb b 95 (λ e. omega arith))

starts_more : (test : ℕ → Bool) (piece more : List ℕ) → starts test piece ≡ true → starts test (piece ++ more) ≡ true
starts_more test [] more begins = absurd (false≢true begins)
starts_more test (b ∷ piece) more begins = begins

starts_other : (test other : ℕ → Bool) (text : List ℕ) → ((b : ℕ) → test b ≡ true → other b ≡ false) → starts test text ≡ true → starts other text ≡ false
starts_other test other [] differs begins = refl
starts_other test other (b ∷ bs) differs begins = differs b begins

pub word_starts : (piece more : List ℕ) → IsWord piece more → starts is_letter (piece ++ more) ≡ true
word_starts piece more w = starts_more is_letter piece more (and_parts _ _ w.word).0

pub number_starts : (piece more : List ℕ) → IsNumber piece more → starts is_digit (piece ++ more) ≡ true
number_starts piece more n = starts_more is_digit piece more (and_parts _ _ n.number).0

pub number_no_letter : (piece more : List ℕ) → IsNumber piece more → starts is_letter (piece ++ more) ≡ false
number_no_letter piece more n = starts_other is_digit is_letter (piece ++ more) digit_no_letter (number_starts piece more n)

-- the first byte of a sign passes what all such bytes pass
pub sign_first : (test : ℕ → Bool) (piece more : List ℕ) → list_all test lone_signs ≡ true → list_all test before_equals ≡ true → is_sign piece ≡ true → starts test (piece ++ more) ≡ true
sign_first test [] more lone pair sign = absurd (false≢true sign)
sign_first test (a ∷ []) more lone pair sign = among test a lone_signs lone sign
sign_first test (a ∷ b ∷ []) more lone pair sign = among test a before_equals pair (and_parts (may_precede_equals a) (b == 61) sign).0
sign_first test (a ∷ b ∷ c ∷ piece) more lone pair sign = absurd (false≢true sign)

pub sign_no_letter : (piece more : List ℕ) → IsSign piece more → starts is_letter (piece ++ more) ≡ false
sign_no_letter piece more s =
    starts_other (λ b. not (is_letter b)) is_letter (piece ++ more) (λ b no. not-true _ no) (sign_first (λ b. not (is_letter b)) piece more refl refl s.sign)

pub sign_no_digit : (piece more : List ℕ) → IsSign piece more → starts is_digit (piece ++ more) ≡ false
sign_no_digit piece more s =
    starts_other (λ b. not (is_digit b)) is_digit (piece ++ more) (λ b no. not-true _ no) (sign_first (λ b. not (is_digit b)) piece more refl refl s.sign)

lone_starts : (a : ℕ) (bs : List ℕ) → is_lone_sign a ≡ true → starts_token (a ∷ bs) ≡ true
lone_starts a bs lone = or_left _ _ (or_right _ _ lone)

pub sign_starts : (piece more : List ℕ) → IsSign piece more → starts_token (piece ++ more) ≡ true
sign_starts [] more s = absurd (false≢true s.sign)
sign_starts (a ∷ []) more s = lone_starts a more s.sign
sign_starts (a ∷ b ∷ []) more s = or_right _ _ s.sign
sign_starts (a ∷ b ∷ c ∷ piece) more s = absurd (false≢true s.sign)
