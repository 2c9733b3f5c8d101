-- The code shows the statuses that the program shows.
use Rattle.std.proofs.Common.{ap, ◌∙◌, sym}
use Rattle.std.specs.List.{list_any}
use Rattle.tick_lower.specs.Lowered.{lowered, lowered_sizes}
use Rattle.tick_sim.specs.Maps.{dropped}
use Rattle.tick_sim.proofs.Offered.{drop_law, lift_law}
use Rattle.searches_explore.specs.Explored.{is_trap}
use Rattle.ticklab_answers.specs.Laws.{CodeLaw}

pub code_law : CodeLaw
code_law = record {
  never = λ a never schedule. ap (λ o. list_any is_trap o.statuses) (drop_law a schedule) ∙ never (dropped (lowered_sizes a) (lowered a) schedule);
  traps = λ a schedule trapped. ap (λ o. list_any is_trap o.statuses) (sym (lift_law a schedule)) ∙ trapped;
}
