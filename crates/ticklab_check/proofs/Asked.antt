-- What is found where processes are asked for.
use Rattle.std.proofs.Common.{ℕ, List}
use Rattle.base.specs.Plain.{WholeProgram}
use Rattle.language_properties.specs.Properties.{Formula}
use Rattle.searches_states.specs.declared.limits.Limits.{Limits}
use Rattle.searches_states.specs.declared.verdict.Verdict.{Verdict}
use Rattle.searches_states.specs.declared.verdict.Verdict.TheVariants as V
use Rattle.searches_fairness.specs.declared.liveness.Liveness.{Liveness}
use Rattle.searches_fairness.specs.declared.liveness.Liveness.TheVariants as L
use Rattle.searches_wait_free.specs.declared.answer.OwnSteps.{OwnSteps}
use Rattle.searches_wait_free.specs.declared.answer.OwnSteps.TheVariants.{Stop, ForEver}
use Rattle.searches_explore.specs.BySteps.{KnowsAlone, KnowsEnds, KnowsFair, KnowsWaitFree}
use Rattle.searches_explore.specs.Ending.{CanAlwaysEnd, EndsIfFair}
use Rattle.searches_explore.specs.declared.conditions.Conditions.{Conditions}
use Rattle.searches_explore.specs.declared.conditions.Known.{Known}
use Rattle.searches_explore.specs.Never.{IfBroken, IfKnown, IfLimit, IfSafe, IfTrapped, IsBroken, IsMergedLimit, IsMergedSafe}
use Rattle.searches_explore.specs.Trap.{IsTrap}
use Rattle.searches_explore.specs.declared.exploring.StepKind.TheVariants.{Merged}
use Rattle.searches_explore.specs.declared.fault.Fault.{Fault}
use Rattle.searches_explore.specs.declared.fault.Fault.TheVariants.{Trapped, Broken}
use Rattle.ticklab_check.specs.Checking.{IsFoundOfAsked}
use Rattle.ticklab_check.specs.prover.Answers.{asked_found, ended_found, own_found}

module _ (a : WholeProgram ℕ) (lines : List Formula) (limits : Limits) (asked : Conditions) where
  own_is : (o q : OwnSteps) (states : ℕ) → IsMergedSafe a lines limits states → CanAlwaysEnd a asked.fair → EndsIfFair a asked.fair
      → KnowsWaitFree a asked.wait_free o → KnowsAlone a asked.alone q → IsFoundOfAsked a lines limits asked (own_found o q states)
  own_is (ForEver p prefix cycle) q states safe can ends o_known q_known = (safe, can, ends, p, prefix.items, cycle.items, o_known.endless, o_known.for_ever)
  own_is Stop (ForEver p prefix cycle) states safe can ends o_known q_known = (safe, can, ends, o_known.ends, p, prefix.items, cycle.items, q_known.endless, q_known.for_ever)
  own_is Stop Stop states safe can ends o_known q_known = (safe, can, ends, o_known.ends, q_known.ends)

  ended_is : (l : Liveness) (o q : OwnSteps) (states : ℕ) → IsMergedSafe a lines limits states → KnowsFair a asked.fair Merged l
      → KnowsWaitFree a asked.wait_free o → KnowsAlone a asked.alone q → IsFoundOfAsked a lines limits asked (ended_found l o q states)
  ended_is (L.Stuck schedule lead_in cycle) o q states safe known o_known q_known = (safe, schedule.items, known.stuck)
  ended_is (L.Endless prefix cycle) o q states safe known o_known q_known = (safe, known.can, prefix.items, cycle.items, known.for_ever)
  ended_is L.Ends o q states safe known o_known q_known = own_is o q states safe known.can known.ends o_known q_known

  pub asked_is : (e : Verdict Fault Known) → IfTrapped e (IsTrap a) → IfBroken e (IsBroken a lines) → IfSafe e (IsMergedSafe a lines limits)
      → IfLimit e (IsMergedLimit a lines limits) → IfKnown e (KnowsEnds a asked Merged) → IsFoundOfAsked a lines limits asked (asked_found e)
  asked_is (V.Found seen (Trapped schedule)) trapped broken safe limit known = (schedule.items, trapped)
  asked_is (V.Found seen (Broken schedule line v)) trapped broken safe limit known = (schedule.items, line, v, broken)
  asked_is (V.Nowhere states k) trapped broken safe limit known = ended_is k.fair k.wait_free k.alone states safe known.fair known.wait_free known.alone
  asked_is (V.Limit states) trapped broken safe limit known = limit
