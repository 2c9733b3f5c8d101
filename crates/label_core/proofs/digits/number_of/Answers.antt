use Rattle.std.proofs.Common.{◌≡◌, ◌+◌, arith, ap, sym, ◌∙◌, length}
use Rattle.std.proofs.lemmas.List.{take_all}
use Rattle.label_core.specs.Labels.{label_number, digits_in}
use Rattle.label_core.specs.prover.Numbers.{number_fits, digits_in-number}
use Rattle.label_core.proofs.Held.{number_more, front_in_table}
use Rattle.label_core.proofs.digits.number_of.Goals as goal

pub overflow_mul-number : goal.overflow_mul-number
overflow_mul-number c =
    let digits = c.args.digits.now in
    let at = c.loop-digit.digit-index in
    omega (arith, c.loop-digit.invariant, number_more digits at c.loop-digit-test.true, front_in_table digits (at + 1) c.requires.small c.requires.few)

pub overflow_add-number : goal.overflow_add-number
overflow_add-number c =
    let digits = c.args.digits.now in
    let at = c.loop-digit.digit-index in
    omega (arith, c.loop-digit.invariant, number_more digits at c.loop-digit-test.true, front_in_table digits (at + 1) c.requires.small c.requires.few)

pub loop-digit-preserved : goal.loop-digit-preserved
loop-digit-preserved c =
    let digits = c.args.digits.now in
    let at = c.loop-digit.digit-index in
    omega (arith, c.loop-digit.invariant, number_more digits at c.loop-digit-test.true)

pub returns-clause-small : goal.returns-clause-small
returns-clause-small c =
    let digits = c.args.digits.now in
    let whole : label_number digits ≡ c.loop-digit.number = sym (c.loop-digit.invariant ∙ ap label_number (take_all c.loop-digit.digit-index digits (omega arith))) in
    omega (arith, whole, number_fits digits c.requires.small)

pub returns-clause-digits : goal.returns-clause-digits
returns-clause-digits c =
    let digits = c.args.digits.now in
    ap (digits_in (length digits)) (c.loop-digit.invariant ∙ ap label_number (take_all c.loop-digit.digit-index digits (omega arith)))
    ∙ digits_in-number digits c.requires.small
