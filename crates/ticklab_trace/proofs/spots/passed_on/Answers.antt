use Rattle.ticklab_trace.proofs.Passing.{passed_more}
use Rattle.ticklab_trace.proofs.spots.passed_on.Goals as goal

pub returns-clause-passed : goal.returns-clause-passed
returns-clause-passed c =
    let kept = c.loop-byte.invariant in
    passed_more c.args.bytes.now c.args.passed c.args.start c.loop-byte.byte-index c.loop-byte.place c.requires.passed c.requires.order c.requires.within
    c.loop-byte-test.false c.loop-byte.auto.byte-index-end kept.0 kept.1 kept.2
