use Rattle.std.proofs.Common.{◌<◌}
use Rattle.std.proofs.lemmas.List.Elements.{All-get_or}
use Rattle.word_core.proofs.Taken.{taken_more}
use Rattle.word_core.proofs.order.are_apart.Goals as goal

pub loop-number-preserved : goal.loop-number-preserved
loop-number-preserved c =
    let numbers = c.args.numbers.now in
    let at = c.loop-number.number-index in
    taken_more numbers c.loop-number.taken at (All-get_or (λ number. number < 8) numbers at 0 c.loop-number-test.true c.requires) c.loop-number.invariant c.if-taken-number.false
