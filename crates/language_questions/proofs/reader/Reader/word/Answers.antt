use Rattle.std.proofs.Common.{arith}
use Rattle.language_questions.proofs.Letters.{word_letters}
use Rattle.language_questions.proofs.reader.Reader.word.Goals as goal

pub letters-letters-requires : goal.letters-letters-requires
letters-letters-requires c =
    word_letters c.args.self.now.text.now c.args.from c.end-end.result c.end-end.ensures.end (c.end-end.ensures.within (omega (arith, c.requires)))

pub returns-clause-name : goal.returns-clause-name
returns-clause-name c =
    word_letters c.args.self.now.text.now c.args.from c.end-end.result c.end-end.ensures.end (c.end-end.ensures.within (omega (arith, c.requires)))
