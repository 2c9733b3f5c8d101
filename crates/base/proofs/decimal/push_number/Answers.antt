use Rattle.std.proofs.Common.{◌≡◌, ◌++◌, ◌+◌, ◌<◌, OnOk, ℕ, List, [], ◌∷◌, is_ok, Result, Ok, Err, if◌then◌else◌, arith, ap, sym, ◌∙◌}
use Rattle.std.proofs.lemmas.Fmt.{decimal_digit}
use Rattle.base.proofs.decimal.push_number.Goals as goal

-- a text to which bytes were added where it went well
added : {A E : Type 0} (r : Result A E) (new old bytes digits : List ℕ) → new ≡ (if is_ok r then old ++ bytes else old)
    → bytes ≡ digits → OnOk r (new ≡ old ++ digits)
added (Ok a) new old bytes digits is same = is ∙ ap (λ z. old ++ z) same
added (Err e) new old bytes digits is same = tt

pub returns-then-value-lt10 : goal.returns-then-value-lt10
returns-then-value-lt10 c =
    let small : c.args.value < 10 = omega (arith, c.if-value-lt10.true) in
    let digit : c.from.result ≡ 48 + c.args.value = omega (arith, c.from.ensures, small) in
    added c.push.result _ _ _ _ c.push.ensures.bytes
    (c.push.ensures.ascii (omega (arith, digit, small)) ∙ ap (λ k. k ∷ []) digit ∙ sym (decimal_digit c.args.value small))
