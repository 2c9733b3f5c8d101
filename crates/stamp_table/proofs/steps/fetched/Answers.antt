use Rattle.std.proofs.Common.{◌+◌}
use Rattle.stamp_table.proofs.Kept.{moves}
use Rattle.stamp_table.proofs.steps.fetched.Goals as goal

pub load-requires : goal.load-requires
load-requires g c = let w = c.requires.layout in (
  c.requires.fits.0,
  c.requires.fits.1,
  rw (← w.0, ← w.1) (moves g.J.Doing.n g.J.Doing.rows c.args.words.now.table_id.slots c.args.seat.now.id c.args.seat.now.me c.requires.plain (1 + c.args.place) _ g.J.Doing.makes c.requires.goes),
)
