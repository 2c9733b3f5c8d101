use Rattle.std.proofs.Common.{◌≡◌, Ok, Err, ap}
use Rattle.tick_lower.specs.declared.fault.LowerFault.TheVariants as lowering
use Rattle.ticketc_answers.proofs.Lowering.{has_code, lower_stops, no_program_stops}
use Rattle.ticketc_answers.proofs.Weakening.{err_is}
use Rattle.ticketc_answers.proofs.codes.lowering_of.Goals as goal

pub returns-in_err-program-clause-refused : goal.returns-in_err-program-clause-refused
returns-in_err-program-clause-refused c =
    rw (err_is c.from_residual.result c.from_residual.ensures.1) (no_program_stops c.args.input.now _ c.in_err-program.ensures.refused)

pub returns-in_err-code-clause-refused : goal.returns-in_err-code-clause-refused
returns-in_err-code-clause-refused c =
    rw (err_is c.from_residual-in_err-code.result c.from_residual-in_err-code.ensures.1)
    (lower_stops c.args.input.now c.in_ok-program.program c.in_ok-program.ensures.ok
    c.in_err-code.field-0.0 (λ is. c.in_err-code.ensures.too_long.0 (ap Err is)))

pub returns-clause-lowered : goal.returns-clause-lowered
returns-clause-lowered c =
    has_code c.args.input.now c.in_ok-program.program c.in_ok-program.ensures.ok c.in_ok-code.code c.in_ok-code.ensures.code
    (λ long. let both : Ok c.in_ok-code.code ≡ Err lowering.TooLong = c.in_ok-code.ensures.too_long.1 long in cc)
