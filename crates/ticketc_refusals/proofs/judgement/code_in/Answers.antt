use Rattle.std.proofs.Common.{ℕ, List, Ok, Err, refl, subst}
use Rattle.code_text.specs.CodeText.{ReadsAs}
use Rattle.ticketc_refusals.specs.Refusals.{no_code}
use Rattle.ticketc_refusals.proofs.judgement.code_in.Goals as goal

pub returns-in_default : goal.returns-in_default
returns-in_default c =
    let fault = c.in-Err-read_code.fault in
    let P : List ℕ → Type 0 = λ t. ReadsAs t (Err fault) in
    no_code fault c.in-Ok.ensures.0 (subst P c.in-Ok.ensures.1 (c.in-Err-read_code.ensures.err c.in_default.not-NoMemory)) refl

pub returns-in-Ok-read_code : goal.returns-in-Ok-read_code
returns-in-Ok-read_code c =
    let code = c.in-Ok-read_code.code in
    let P : List ℕ → Type 0 = λ t. ReadsAs t (Ok code) in (
      record {
        text = c.in-Ok.ensures.0;
        code = code;
        reads = subst P c.in-Ok.ensures.1 c.in-Ok-read_code.ensures.ok;
      },
      refl,
    )
