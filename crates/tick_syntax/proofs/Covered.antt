-- Each text is spelled by tokens or has a first fault.
-- The idea. A text that is not empty has a token or a fault at its front (`front`): by its first byte, which is a letter
-- (`word_front`), a digit (`number_front`) or neither (`sign_front`). A token leaves a shorter text. So it goes on until
-- nothing is left or there is a fault (`covers`, by induction over a number above the length).
-- Read `Front` first, then `front` and `covers`.
use Rattle.std.proofs.Common.{◌≡◌, ℕ, zero, suc, ◌+◌, ◌<◌, ◌⊎◌, inl, inr, Bool, true, false, List, [], ◌∷◌, ◌++◌, length, take, drop, refl, sym, ap, subst, arith}
use Rattle.std.specs.Str.Parse.{digits_value}
use Rattle.std.proofs.lemmas.Bool.Decides.{leb_tells}
use Rattle.std.proofs.lemmas.List.{take-append-drop, length-drop}
use Rattle.tick_syntax.specs.Characters.{is_letter, is_digit, is_keyword}
use Rattle.tick_syntax.specs.prover.Extents.{word_length, number_length, sign_length}
use Rattle.tick_syntax.specs.Spelling.{starts, gap_length, after_gap, span_of, IsWord, IsNumber, IsSign, TokenAt, FaultAt, SpellsFrom, Spells, FaultAfter, FirstFault}
use Rattle.tick_syntax.specs.declared.token.Sort.TheVariants.{Name, Num, Keyword, Sign}
use Rattle.tick_syntax.specs.declared.token.Token.{Token}
use Rattle.tick_syntax.specs.declared.fault.TextFault.{TextFault}
use Rattle.tick_syntax.specs.declared.fault.TextFault.TheVariants.{BadCharacter, NumberTooBig, NameTooLong}
use Rattle.tick_syntax.proofs.LongestPieces.{word_of_text, word_positive, number_of_text, number_positive, sign_of_text, no_token}

-- a token at the front, with what follows it
record Front (at : ℕ) (text : List ℕ) : Type 0 where
  pub token : Token
  pub more : List ℕ
  pub here : TokenAt at text token more
  pub shorter : length more < length text

abbrev Fronts : ℕ → List ℕ → Type 0
Fronts at text = Front at text ⊎ ((fault : TextFault) × FaultAt at text fault)

shorter : (n : ℕ) (text : List ℕ) → 0 < n → 0 < length text → length (drop n text) < length text
shorter n text positive some = omega (arith, length-drop n text)

starts_some : (test : ℕ → Bool) (text : List ℕ) → starts test text ≡ true → 0 < length text
starts_some test [] none = absurd (cc)
starts_some test (b ∷ bs) some = omega arith

module _ (at : ℕ) (text : List ℕ) (some : 0 < length text) where
  -- the first bytes and what follows them
  split_at : (n : ℕ) → text ≡ take n text ++ drop n text
  split_at n = sym (take-append-drop n text)

  name_front : (n : ℕ) → 0 < n → IsWord (take n text) (drop n text) → is_keyword (take n text) ≡ false → Fronts at text
  name_front n positive word is =
      elim (leb_tells (length (take n text)) 64) [
        | inl short ↦ inl (record {
          token = record { sort = Name; span = span_of at (take n text) };
          more = drop n text;
          here = record { piece = take n text; split = split_at n; kind = (word, is, short.1); place = refl };
          shorter = shorter n text positive some;
        })
        | inr long ↦ inr (NameTooLong (span_of at (take n text)), (take n text, drop n text, split_at n, word, long.1, refl))
      ]

  word_front : (n : ℕ) → 0 < n → IsWord (take n text) (drop n text) → (b : Bool) → is_keyword (take n text) ≡ b → Fronts at text
  word_front n positive word true is = inl (record {
    token = record { sort = Keyword; span = span_of at (take n text) };
    more = drop n text;
    here = record { piece = take n text; split = split_at n; kind = (word, is); place = refl };
    shorter = shorter n text positive some;
  })
  word_front n positive word false is = name_front n positive word is

  number_front : (n : ℕ) → 0 < n → IsNumber (take n text) (drop n text) → Fronts at text
  number_front n positive number =
      elim (leb_tells (digits_value 10 (take n text)) 4294967295) [
        | inl small ↦ inl (record {
          token = record { sort = Num (digits_value 10 (take n text)); span = span_of at (take n text) };
          more = drop n text;
          here = record { piece = take n text; split = split_at n; kind = (number, refl, small.1); place = refl };
          shorter = shorter n text positive some;
        })
        | inr big ↦ inr (NumberTooBig (span_of at (take n text)), (take n text, drop n text, split_at n, number, big.1, refl))
      ]

  sign_front : (n : ℕ) → sign_length text ≡ n → starts is_letter text ≡ false → starts is_digit text ≡ false → Fronts at text
  sign_front zero is letter digit = inr (BadCharacter at, (some, no_token text letter digit is, refl))
  sign_front (suc n) is letter digit = inl (record {
    token = record { sort = Sign; span = span_of at (take (suc n) text) };
    more = drop (suc n) text;
    here = record {
      piece = take (suc n) text;
      split = split_at (suc n);
      kind = subst (λ k. IsSign (take k text) (drop k text)) is (sign_of_text text (omega (arith, is)));
      place = refl;
    };
    shorter = shorter (suc n) text (omega arith) some;
  })

  digit_front : (b : Bool) → starts is_digit text ≡ b → starts is_letter text ≡ false → Fronts at text
  digit_front true digit letter = number_front (number_length text) (number_positive text digit) (number_of_text text digit)
  digit_front false digit letter = sign_front (sign_length text) refl letter digit

  letter_front : (b : Bool) → starts is_letter text ≡ b → Fronts at text
  letter_front true letter =
      word_front (word_length text) (word_positive text letter) (word_of_text text letter) (is_keyword (take (word_length text) text)) refl
  letter_front false letter = digit_front (starts is_digit text) refl letter

  front : Fronts at text
  front = letter_front (starts is_letter text) refl

abbrev Covers : ℕ → List ℕ → Type 0
Covers at text =
    ((tokens : List Token) × SpellsFrom at text tokens)
    ⊎ ((before : List Token) × (fault : TextFault) × FaultAfter at text before fault)

later : (at : ℕ) (text : List ℕ) (f : Front (at + gap_length text) (after_gap text)) → Covers f.token.span.end f.more → Covers at text
later at text f (inl rest) = inl (f.token ∷ rest.0, (f.more, f.here, rest.1))
later at text f (inr rest) = inr (f.token ∷ rest.0, rest.1, (f.more, f.here, rest.2))

by_front : (at : ℕ) (text : List ℕ)
    → ((f : Front (at + gap_length text) (after_gap text)) → Covers f.token.span.end f.more)
    → Fronts (at + gap_length text) (after_gap text) → Covers at text
by_front at text go (inl f) = later at text f (go f)
by_front at text go (inr f) = inr ([], f.0, f.1)

by_rest : (at : ℕ) (text rest : List ℕ) → after_gap text ≡ rest
    → ((f : Front (at + gap_length text) (after_gap text)) → Covers f.token.span.end f.more) → Covers at text
by_rest at text [] is go = inl ([], is)
by_rest at text (b ∷ bs) is go =
    by_front at text go (front (at + gap_length text) (after_gap text) (omega (arith, ap length is)))

covers : (fuel at : ℕ) (text : List ℕ) → length text < fuel → Covers at text
covers zero at text l = absurd (omega (arith, l))
covers (suc fuel) at text l =
    by_rest at text (after_gap text) refl
    (λ f. covers fuel f.token.span.end f.more (omega (arith, l, f.shorter, length-drop (gap_length text) text)))

pub spelled_or_faulty : (text : List ℕ) → ((tokens : List Token) × Spells text tokens) ⊎ ((fault : TextFault) × FirstFault text fault)
spelled_or_faulty text =
    elim (covers (suc (length text)) 0 text (omega arith)) [ inl c ↦ inl c | inr c ↦ inr (c.1, (c.0, c.2)) ]
