use Rattle.stamp_table.proofs.Kept.{moves}
use Rattle.stamp_table.proofs.steps.masked.Goals as goal

pub fetch_and-requires : goal.fetch_and-requires
fetch_and-requires g c = let w = c.requires.layout in (
  c.requires.fits.0,
  c.requires.fits.1,
  rw (← w.0, ← w.1) (moves g.J.Doing.n g.J.Doing.rows c.args.words.now.table_id.slots c.args.seat.now.id c.args.seat.now.me c.requires.plain 0 _ g.J.Doing.makes c.requires.goes),
)
