use Rattle.std.proofs.Common.{◌≢◌, List, ℕ, IfErr, subst}
use Rattle.tick_syntax.specs.Spelling.{FirstFault}
use Rattle.tick_syntax.specs.declared.fault.TextFault.TheVariants.{NoMemory}
use Rattle.tick_syntax.proofs.TokensTold.{told_refusal}
use Rattle.tick_syntax.proofs.lexer.valued_tokens.Goals as goal

pub returns-clause-err : goal.returns-clause-err
returns-clause-err c =
    told_refusal c.args.text.now c.read_tokens.result c.if-text-gt-TEXT_LIMIT.false
    (subst (λ (bytes : List ℕ). IfErr c.read_tokens.result (λ fault. fault ≢ NoMemory → FirstFault bytes fault)) c.as_bytes.ensures.value c.read_tokens.ensures.err)
