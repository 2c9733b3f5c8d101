use Rattle.stamp_table.proofs.Parting.{settles}
use Rattle.stamp_table.proofs.steps.looked.Goals as goal

pub load-requires : goal.load-requires
load-requires g c = let w = c.requires.layout in (
  c.requires.fits.0,
  c.requires.fits.1,
  rw (← w.0, ← w.1) (settles g.J.Doing.n g.J.Doing.rows c.args.words.now.table_id.slots c.args.seat.now.id c.args.seat.now.me),
)
