-- What `parse` and `clap` read as a number, as `number_of` has it.
use Rattle.std.proofs.Common.{◌≡◌, ◌∙◌, ◌&&◌, ◌∷◌, [], List, ℕ, Bool, Option, Some, None, Result, Ok, Err, length, true, false, ap, sym, refl}
use Rattle.std.proofs.lemmas.Bool.{lt-ltb, ltb-true}
use Rattle.std.specs.Prelude.{◌^◌, if◌then◌else◌, is_some, nat_lt, option_and_then}
use Rattle.std.specs.Result.{result_ok}
use Rattle.std.specs.List.{list_all}
use Rattle.std.specs.Char.{digit_value}
use Rattle.std.specs.Str.Parse.{AllDigits, ExplainsUnsignedError, HasUnsignedDigitsIfOk, ParsesUnsigned, digits_value, without_leading_plus}
use Rattle.std.specs.declared.num.ParseIntError.{ParseIntError}
use Rattle.clap.proofs.WalkLemmas.{both, one_text-rows}
use Rattle.clap.specs.Matches.{ReadsOne, one_text}
use Rattle.clap.specs.Walk.{Row, Text, first_of, rows_of}
use Rattle.clap.specs.ValueTests.{is_numeral}
use Rattle.clap.specs.declared.parser.matches.Found.{Found}
use Rattle.ticklab_line.specs.Found.{number_in, number_of, number_or}

digits_pass : (ds : Text) → AllDigits 10 ds → list_all (λ d. nat_lt (digit_value d) 10) ds ≡ true
digits_pass [] h = refl
digits_pass (d ∷ ds) h = rw (lt-ltb (digit_value d) 10 h.0) (digits_pass ds h.1)

digits_from : (ds : Text) → list_all (λ d. nat_lt (digit_value d) 10) ds ≡ true → AllDigits 10 ds
digits_from [] e = tt
digits_from (d ∷ ds) e =
    let parts = both _ _ e in
    (ltb-true _ _ parts.0, digits_from ds parts.1)

abbrev is_in : ℕ → Text → Bool
is_in bits ds = is_numeral ds && nat_lt (digits_value 10 ds) (2 ^ bits)

pub number_parsed : {E : Type 0} (bits : ℕ) (text : Text) (r : Result ℕ E) → ParsesUnsigned bits 10 text r → result_ok r ≡ number_of bits text
number_parsed bits text (Ok n) h =
    let ds = without_leading_plus text in
    rw (lt-ltb 0 (length ds) h.0.0.0, digits_pass ds h.0.0.1, lt-ltb (digits_value 10 ds) (2 ^ bits) h.0.1) (ap (λ k. Some k) h.1)
number_parsed bits text (Err e) h = go (is_in bits (without_leading_plus text)) refl
  where
    go : (b : Bool) → is_in bits (without_leading_plus text) ≡ b → None ≡ number_of bits text
    go false t = ap (λ (b : Bool). if b then Some (digits_value 10 (without_leading_plus text)) else None) (sym t)
    go true t =
        let outer = both _ _ t in
        let inner = both _ _ outer.0 in
        absurd (h ((ltb-true _ _ inner.0, digits_from (without_leading_plus text) inner.1), ltb-true _ _ outer.1))

-- what `parse` gives at an unsigned type
abbrev Gives : ℕ → Text → Result ℕ ParseIntError → Type 0
Gives bits text r = ParsesUnsigned bits 10 text r × ExplainsUnsignedError 10 text r × HasUnsignedDigitsIfOk text r

read : (bits : ℕ) (text : Text) (a : Option ℕ) → ReadsOne (Gives bits) text a → a ≡ number_of bits text
read bits text (Some n) h = number_parsed {E = ParseIntError} bits text (Ok n) h.0
read bits text None h = number_parsed {E = ParseIntError} bits text (Err h.0) h.1.0

-- and a getter that reads by it
pub number_found : (bits : ℕ) (found : Found) (id : Text) (r : Option ℕ)
    → (one_text found id ≡ None → r ≡ None)
    → ((text : Text) → one_text found id ≡ Some text → ReadsOne (Gives bits) text r)
    → r ≡ number_in bits id (rows_of found)
number_found bits found id r none some =
    go (one_text found id) refl ∙ ap (option_and_then (number_of bits)) (one_text-rows found id)
  where
    go : (o : Option Text) → one_text found id ≡ o → r ≡ option_and_then (number_of bits) o
    go None e = none e
    go (Some text) e = read bits text r (some text e)

-- the same of an option that was given
pub number_given : (bits other : ℕ) (id : Text) (rows : List Row) (text : Text) (r : Option ℕ)
    → Some text ≡ first_of id rows
    → r ≡ number_in bits id rows
    → r ≡ number_or bits id other rows
number_given bits other id rows text r given is =
    is ∙ ap (λ (o : Option Text). if is_some o then number_in bits id rows else Some other) given
