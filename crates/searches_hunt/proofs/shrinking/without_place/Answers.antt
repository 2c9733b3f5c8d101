use Rattle.searches_hunt.proofs.Left.{left_all}
use Rattle.searches_hunt.proofs.shrinking.without_place.Goals as goal

pub returns-then-place-len : goal.returns-then-place-len
returns-then-place-len c = left_all c.args.schedule.items
