use Rattle.ticketc_refusals.specs.Refusals.{code_taken, program_taken, code_refused, program_refused}
use Rattle.ticklab_explain.proofs.Weakening.{weakened}
use Rattle.ticklab_explain.proofs.explaining.explain.Goals as goal

pub returns-then-begins_code : goal.returns-then-begins_code
returns-then-begins_code c =
    let begins = c.begins_code.ensures.yes c.if-begins_code.true in
    weakened c.explain_code.result (λ h. code_taken begins h) (λ t h. record { refusal = h.refusal; had = code_refused begins h.had; told = h.told }) c.explain_code.ensures

pub returns-else-begins_code : goal.returns-else-begins_code
returns-else-begins_code c =
    let begins = c.begins_code.ensures.no c.if-begins_code.false in
    weakened c.explain_program.result (λ h. program_taken begins h) (λ t h. record { refusal = h.refusal; had = program_refused begins h.had; told = h.told })
    c.explain_program.ensures
