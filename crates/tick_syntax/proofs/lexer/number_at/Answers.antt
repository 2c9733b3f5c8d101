use Rattle.std.proofs.Common.{refl, sym}
use Rattle.tick_syntax.specs.declared.token.Sort.TheVariants.{Num}
use Rattle.tick_syntax.specs.declared.valued_token.Meaning.TheVariants.{Number}
use Rattle.tick_syntax.proofs.TokensSoFar.{read_at, number_in, big_number}
use Rattle.tick_syntax.proofs.lexer.number_at.Goals as goal

pub number_value-requires : goal.number_value-requires
number_value-requires c =
    (number_in c.args.bytes.now c.args.from _ c.requires.within c.requires.digit c.number_end-end.ensures.end).0.number

pub returns-in-Some : goal.returns-in-Some
returns-in-Some c =
    let number = number_in c.args.bytes.now c.args.from _ c.requires.within c.requires.digit c.number_end-end.ensures.end in
    read_at c.args.bytes.now c.args.from c.number_end-end.result (Number c.in-Some.value) (Num c.in-Some.value) refl number.1 c.number_end-end.ensures.within
    (number.0, sym c.in-Some.ensures.0, c.in-Some.ensures.1) refl

pub returns-in-None : goal.returns-in-None
returns-in-None c =
    let number = number_in c.args.bytes.now c.args.from _ c.requires.within c.requires.digit c.number_end-end.ensures.end in
    big_number c.args.bytes.now c.args.from c.number_end-end.result number.1 c.number_end-end.ensures.within number.0 c.in-None.ensures
