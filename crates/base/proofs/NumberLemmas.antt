-- Capping the value so far changes no capped number.
use Rattle.std.proofs.Common.{◌≡◌, ◌∙◌, ◌+◌, ◌-◌, ◌*◌, ℕ, Bool, true, false, List, [], ◌∷◌, Option, Some, None, add-one, ap, arith, cond, drop, get_or, length, option_map, refl, sym, ◌<◌}
use Rattle.std.proofs.Math.Seq.{drop-cons}
use Rattle.std.specs.Char.{is_ascii_digit}
use Rattle.base.specs.Number.{capped, number_from}

pub number_from-capped : (value : ℕ) (bytes : List ℕ)
    → option_map capped (number_from (capped value) bytes) ≡ option_map capped (number_from value bytes)
number_from-capped value [] = ap Some (omega arith)
number_from-capped value (byte ∷ bytes) = digit_or_not (is_ascii_digit byte) (λ n. number_from-capped n bytes)
  where
    same : capped (10 * capped value + (byte - 48)) ≡ capped (10 * value + (byte - 48))
    same = omega arith

    digit_or_not : (b : Bool)
        → ((n : ℕ) → option_map capped (number_from (capped n) bytes) ≡ option_map capped (number_from n bytes))
        → option_map capped (cond b (number_from (10 * capped value + (byte - 48)) bytes) None)
        ≡ option_map capped (cond b (number_from (10 * value + (byte - 48)) bytes) None)
    digit_or_not true further =
        sym (further (10 * capped value + (byte - 48)))
        ∙ ap (λ (n : ℕ). option_map capped (number_from n bytes)) same
        ∙ further (10 * value + (byte - 48))
    digit_or_not false further = refl

pub number_from-next : (value next : ℕ) (text : List ℕ) (i : ℕ)
    → i < length text
    → is_ascii_digit (get_or text i 0) ≡ true
    → next ≡ capped (10 * value + (get_or text i 0 - 48))
    → option_map capped (number_from next (drop (i + 1) text)) ≡ option_map capped (number_from value (drop i text))
number_from-next value next text i within digit is =
    let F : ℕ → Option ℕ = λ n. option_map capped (number_from n (drop (i + 1) text)) in
    ap F is ∙ number_from-capped (10 * value + (get_or text i 0 - 48)) (drop (i + 1) text)
    ∙ rw (drop-cons text i 0, digit, add-one) refl
