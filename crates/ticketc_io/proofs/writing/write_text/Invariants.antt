use Rattle.std.proofs.Common.{◌+◌, ◌-◌, ◌*◌, length}
use Rattle.ticketc_io.proofs.WritingLemmas.{HasWritten}
use Rattle.ticketc_io.proofs.writing.write_text.Given as goal

abbrev pub invariant-loop-sent : goal.invariant-loop-sent
invariant-loop-sent g l =
    let written = g.W.ByteSink.written in
    let counts = g.W.ByteSink.counts in
    HasWritten (written l.fn.writer) (written l.writer) (counts l.fn.writer) (counts l.writer) l.text l.sent l.interruptions

abbrev pub decreases-loop-sent : goal.decreases-loop-sent
decreases-loop-sent g l = (length l.text - l.sent) * 1001 + (1000 - l.interruptions)
