use Rattle.ticketc_io.proofs.ReadingLemmas.{HasRead}
use Rattle.ticketc_io.proofs.reading.read_input.Given as goal

abbrev pub invariant-calls : goal.invariant-calls
invariant-calls g l =
    let remaining = g.R.ByteSource.remaining in
    let counts = g.R.ByteSource.counts in
    HasRead (remaining l.fn.reader) (remaining l.reader) (counts l.fn.reader) (counts l.reader) l.input.items l.counter
