use Rattle.ticklab_draw.proofs.Shown.{lanes_law, stack_law}
use Rattle.ticklab_draw.proofs.laws.law_lanes.Goals as goal

pub returns : goal.returns
returns c = record { lanes = lanes_law; stacked = stack_law }
