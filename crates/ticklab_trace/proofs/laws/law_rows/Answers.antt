use Rattle.ticklab_trace.proofs.Rows.{in_order_law, stands_law, together_law}
use Rattle.ticklab_trace.proofs.laws.law_rows.Goals as goal

pub returns : goal.returns
returns c = record { in_order = in_order_law; stands = stands_law; together = together_law }
