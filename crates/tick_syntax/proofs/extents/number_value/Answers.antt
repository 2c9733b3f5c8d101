use Rattle.std.proofs.Common.{◌≡◌, ◌∙◌, arith, Some, None}
use Rattle.std.specs.Str.Parse.{digits_value}
use Rattle.base.specs.Number.{capped}
use Rattle.tick_syntax.proofs.NumberValues.{capped_value}
use Rattle.tick_syntax.proofs.extents.number_value.Goals as goal

pub returns-in_err-value : goal.returns-in_err-value
returns-in_err-value c =
    let e : None ≡ Some (capped (digits_value 10 c.args.digits.now)) =
    c.in_err-value.ensures ∙ capped_value c.args.digits.now c.requires in
    absurd (cc)

pub returns-then-value-gt-NUMBER_LIMIT : goal.returns-then-value-gt-NUMBER_LIMIT
returns-then-value-gt-NUMBER_LIMIT c =
    let e : Some c.in_ok-value.value ≡ Some (capped (digits_value 10 c.args.digits.now)) =
    c.in_ok-value.ensures ∙ capped_value c.args.digits.now c.requires in
    let same : c.in_ok-value.value ≡ capped (digits_value 10 c.args.digits.now) = cc in
    omega (arith, same, c.if-value-gt-NUMBER_LIMIT.true)

pub returns-else-value-gt-NUMBER_LIMIT : goal.returns-else-value-gt-NUMBER_LIMIT
returns-else-value-gt-NUMBER_LIMIT c =
    let e : Some c.in_ok-value.value ≡ Some (capped (digits_value 10 c.args.digits.now)) =
    c.in_ok-value.ensures ∙ capped_value c.args.digits.now c.requires in
    let same : c.in_ok-value.value ≡ capped (digits_value 10 c.args.digits.now) = cc in
    (omega (arith, same, c.if-value-gt-NUMBER_LIMIT.false), omega (arith, same, c.if-value-gt-NUMBER_LIMIT.false))
