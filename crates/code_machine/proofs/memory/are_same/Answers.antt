use Rattle.std.proofs.Common.{◌≤◌, ◌∙◌, arith}
use Rattle.code_machine.proofs.Words.{equal_words}
use Rattle.code_machine.proofs.memory.are_same.Goals as goal

pub returns : goal.returns
returns c =
    let few : c.requires.0 ≤ 6 = omega (arith, c.n-n.ensures.count, c.n-n.ensures.at_most_six, c.requires.1.count) in
    c.eq.ensures ∙ equal_words c.requires.0 few c.args.labels.now c.args.others.now c.requires.1 c.requires.2
