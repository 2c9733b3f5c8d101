use Rattle.tick_syntax.proofs.TokensSoFar.{sign_here, no_sign_here}
use Rattle.tick_syntax.proofs.lexer.sign_at.Goals as goal

pub returns-in-Some : goal.returns-in-Some
returns-in-Some c =
    sign_here c.args.bytes.now c.args.from c.sign_end-end.result c.in-Some.sign c.sign_end-end.ensures.within c.sign_end-end.ensures.end c.in-Some.ensures

pub returns-in-None : goal.returns-in-None
returns-in-None c =
    no_sign_here c.args.bytes.now c.args.from c.sign_end-end.result c.requires.within c.requires.letter c.requires.digit c.sign_end-end.ensures.end c.in-None.ensures
