use Rattle.tick_syntax.proofs.TokensSoFar.{word_in, keyword_here, name_here, long_name}
use Rattle.tick_syntax.proofs.WordsAreAscii.{word_is_ascii}
use Rattle.tick_syntax.proofs.lexer.word_at.Goals as goal

pub letters-requires : goal.letters-requires
letters-requires c =
    word_is_ascii _ (word_in c.args.bytes.now c.args.from _ c.requires.within c.requires.letter c.word_end-end.ensures.end).0.word

pub returns-in-Some : goal.returns-in-Some
returns-in-Some c =
    let word = word_in c.args.bytes.now c.args.from _ c.requires.within c.requires.letter c.word_end-end.ensures.end in
    keyword_here c.args.bytes.now c.args.from c.word_end-end.result c.in-Some.keyword word.1 c.word_end-end.ensures.within word.0 c.in-Some.ensures

pub returns-in-None : goal.returns-in-None
returns-in-None c =
    let word = word_in c.args.bytes.now c.args.from _ c.requires.within c.requires.letter c.word_end-end.ensures.end in
    long_name c.args.bytes.now c.args.from c.word_end-end.result word.1 c.word_end-end.ensures.within word.0 c.if-end-from-gt-NAME_LIMIT.true

pub returns-in-None-2 : goal.returns-in-None-2
returns-in-None-2 c =
    let word = word_in c.args.bytes.now c.args.from _ c.requires.within c.requires.letter c.word_end-end.ensures.end in
    name_here c.args.bytes.now c.args.from c.word_end-end.result c.letters.result word.1 c.word_end-end.ensures.within word.0 c.in-None-2.ensures c.if-end-from-gt-NAME_LIMIT.false c.letters.ensures
