use Rattle.std.proofs.Common.{ℕ, ◌+◌}
use Rattle.stamp_table.proofs.Kept.{moves}
use Rattle.stamp_table.proofs.steps.stored.Goals as goal

pub store-requires : goal.store-requires
store-requires g c = let w = c.requires.layout in (
  c.requires.fits.0,
  c.requires.fits.1,
  rw (c.from.ensures, ← w.0, ← w.1) (moves g.J.Doing.n g.J.Doing.rows c.args.words.now.table_id.slots c.args.seat.now.id c.args.seat.now.me c.requires.plain (1 + c.args.place) (λ (found : ℕ). c.args.value) (λ (found : ℕ). g.J.Doing.makes c.args.value) c.requires.goes),
)
