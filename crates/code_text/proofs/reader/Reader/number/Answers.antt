use Rattle.std.proofs.Common.{◌≡◌, ℕ, true, ◌+◌, ◌-◌, ◌*◌, ◌%◌, ◌<◌, List, ◌∷◌, length, get_or, drop, ap, ◌∙◌, sym, arith}
use Rattle.std.specs.Prelude.{if◌then◌else◌}
use Rattle.std.specs.Char.{is_ascii_digit}
use Rattle.std.proofs.lemmas.List.{at_drop_more}
use Rattle.code_text.specs.prover.Guess.{leading}
use Rattle.code_text.proofs.reader.Reader.number.Goals as goal

-- one digit more
digit_more : (all : List ℕ) (at v : ℕ) → at < length all → is_ascii_digit (get_or all at 0) ≡ true
    → leading v (drop at all) ≡ leading ((10 * v + (get_or all at 0 - 48)) % 4294967296) (drop (at + 1) all)
digit_more all at v inside digit =
    at_drop_more (leading v) all at 0 inside
    ∙ ap (λ t. if t then leading ((10 * v + (get_or all at 0 - 48)) % 4294967296) (drop (at + 1) all) else (v, get_or all at 0 ∷ drop (at + 1) all)) digit

pub loop-at-preserved : goal.loop-at-preserved
loop-at-preserved c =
    let all = c.args.self.now.rest.now in
    let at = c.loop-at.at in (
      c.loop-at.invariant.0
          ∙ digit_more all at c.loop-at.value c.loop-at-test.true (sym c.if-not-is_ascii_digit.ensures.value)
          ∙ ap (λ x. leading ((10 * c.loop-at.value + x) % 4294967296) (drop (at + 1) all)) (sym c.from.ensures),
      omega arith,
    )
