use Rattle.std.proofs.Common.{◌∙◌, arith, rules, sym}
use Rattle.base.proofs.NumberLemmas.{number_from-next}
use Rattle.base.proofs.decimal.number.Goals as goal

pub loop-byte-preserved : goal.loop-byte-preserved
loop-byte-preserved c = (
  omega arith,
  number_from-next _ _ _ _ c.loop-byte-test.true (sym c.if-not-is_ascii_digit.ensures.value)
      (search rules) ∙ c.loop-byte.invariant.1,
)
