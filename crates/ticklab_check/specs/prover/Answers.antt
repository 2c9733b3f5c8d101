-- What is found, by the verdict of a search.
use Rattle.std.specs.Prelude.{ℕ}
use Rattle.searches_states.specs.declared.verdict.Verdict.{Verdict}
use Rattle.searches_states.specs.declared.verdict.Verdict.TheVariants as V
use Rattle.searches_fairness.specs.declared.liveness.Liveness.{Liveness}
use Rattle.searches_fairness.specs.declared.liveness.Liveness.TheVariants as L
use Rattle.searches_wait_free.specs.declared.answer.OwnSteps.{OwnSteps}
use Rattle.searches_wait_free.specs.declared.answer.OwnSteps.TheVariants.{Stop, ForEver}
use Rattle.searches_explore.specs.declared.conditions.Known.{Known}
use Rattle.searches_explore.specs.declared.fault.Fault.{Fault}
use Rattle.searches_explore.specs.declared.fault.Fault.TheVariants.{Trapped, Broken}
use Rattle.ticklab_check.specs.declared.found.Found.{Found}
use Rattle.ticklab_check.specs.declared.found.Found.TheVariants as F

abbrev pub fault_of : Fault → Found
fault_of (Trapped schedule) = F.Trap
fault_of (Broken schedule line v) = F.Never

abbrev pub found_of : Verdict Fault (Unit {0}) → Found
found_of (V.Found states fault) = fault_of fault
found_of (V.Nowhere states known) = F.Safe states
found_of (V.Limit states) = F.Limit states

abbrev pub own_found : OwnSteps → OwnSteps → ℕ → Found
own_found (ForEver p prefix cycle) alone states = F.NotWaitFree states
own_found Stop (ForEver p prefix cycle) states = F.NotAlone states
own_found Stop Stop states = F.Ends states

abbrev pub ended_found : Liveness → OwnSteps → OwnSteps → ℕ → Found
ended_found (L.Stuck schedule lead_in cycle) wait_free alone states = F.Stuck states
ended_found (L.Endless prefix cycle) wait_free alone states = F.Endless states
ended_found L.Ends wait_free alone states = own_found wait_free alone states

abbrev pub known_of : Known → ℕ → Found
known_of known states = ended_found known.fair known.wait_free known.alone states

abbrev pub asked_found : Verdict Fault Known → Found
asked_found (V.Found states fault) = fault_of fault
asked_found (V.Nowhere states known) = known_of known states
asked_found (V.Limit states) = F.Limit states
