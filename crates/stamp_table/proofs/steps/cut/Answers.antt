use Rattle.std.proofs.Common.{ap}
use Rattle.stamp_table.proofs.Parting.{splits}
use Rattle.stamp_table.proofs.steps.cut.Goals as goal

pub split_seat-requires : goal.split_seat-requires
split_seat-requires g c = (
  c.requires.fits.0,
  c.requires.fits.1,
  splits c.args.words.now.key.n c.args.words.now.key.rows c.args.seat.now.id g.J.OfProcess.who c.args.seat.now.me.0 (ap (λ z. z.0) c.requires.plain) c.requires.held,
)
