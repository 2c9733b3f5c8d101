-- A program and its code give each property the same value, since of both all see the same.
use Rattle.std.proofs.Common.{sym}
use Rattle.language_properties.specs.Seen.{seen_of}
use Rattle.language_properties.proofs.Offered.{alike_law}
use Rattle.tick_source.specs.Source.{source}
use Rattle.tick_lower.specs.Lowered.{lowered, lowered_sizes}
use Rattle.tick_sim.specs.Maps.{dropped, lifted}
use Rattle.tick_sim.specs.Properties.{PropertiesLaw, code_state_after, seen_by_labels}
use Rattle.tick_sim.proofs.Dropped.{dropped_alike}
use Rattle.tick_sim.proofs.Lifted.{lifted_alike}

pub properties_law : PropertiesLaw
properties_law = record {
  dropped = λ a processes e schedule.
      alike_law (seen_by_labels (code_state_after a schedule)) (seen_of (source a (dropped (lowered_sizes a) (lowered a) schedule)))
      (dropped_alike a schedule) processes e;
  lifted = λ a processes e schedule.
      sym (alike_law (seen_by_labels (code_state_after a (lifted (lowered_sizes a) (lowered a) schedule))) (seen_of (source a schedule))
      (lifted_alike a schedule) processes e);
}
