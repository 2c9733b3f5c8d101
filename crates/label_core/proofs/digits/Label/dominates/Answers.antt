use Rattle.label_core.proofs.Dominated.{dominates_bit}
use Rattle.label_core.proofs.digits.Label.dominates.Goals as goal

pub returns : goal.returns
returns c =
    dominates_bit c.args.self.now c.args.other.now c.dominated.result.now c.place-at.result
    c.place-place.ensures.digits c.place-at.ensures.digits c.requires c.dominated.ensures c.place-at.ensures.place
