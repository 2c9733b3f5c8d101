use Rattle.std.proofs.Common.{rules, arith, ◌<◌, ◌≤◌, ◌∙◌, refl, min, vec_items, vec_capacity}
use Rattle.tick_run.specs.prover.Work.{CanWork}
use Rattle.tick_run.proofs.Readying.{none_split, one_split, can_work}
use Rattle.tick_run.proofs.jobs.jobs_for.Goals as goal

pub loop-gate-preserved : goal.loop-gate-preserved
loop-gate-preserved g c =
    let was = c.loop-gate.invariant.0 in
    let made = c.in_ok-proc.ensures in
    let few : c.loop-gate.process < 6 = search rules in
    let room : min c.args.limits.turns c.args.limits.outs ≤ vec_capacity c.in_ok-outputs.outputs = search rules in
    let can : CanWork c.args.table.now c.args.code.now c.loop-gate.process c.args.limits.turns c.args.limits.outs c.in_ok-proc.proc c.split-rest.result.1
    (vec_items c.in_ok-outputs.outputs) (vec_capacity c.in_ok-outputs.outputs) =
    can_work _ _ _ _ _ c.in_ok-proc.proc c.loop-gate.left c.split-rest.result.1 _ _ made.me made.of made.start was.here was.unseen few
    c.split-rest.ensures.one c.in_ok-outputs.ensures.items room in (
      one_split _ _ _ _ _ _ _ _ _ _ was c.split-rest.ensures.rest c.push_reserved.ensures.items refl can,
      search rules,
      search rules,
    )

pub split-rest-requires-clause-here : goal.split-rest-requires-clause-here
split-rest-requires-clause-here g c = c.loop-gate.invariant.0.here

pub returns-clause-ready : goal.returns-clause-ready
returns-clause-ready g c = c.loop-gate.invariant.0.ready

pub loop-gate-init : goal.loop-gate-init
loop-gate-init g c = (
  none_split _ _ _ _ _ _ (omega (arith, c.requires.fits.processes, c.requires.few)) (c.all.view_is ∙ c.requires.all) c.in_ok-jobs.ensures.items,
  search rules,
  search rules,
)

pub split-rest-requires-clause-held : goal.split-rest-requires-clause-held
split-rest-requires-clause-held g c =
    let below : c.loop-gate.process < c.args.code.now.sizes.processes = search rules in
    c.loop-gate.invariant.0.held c.loop-gate.process (omega arith) (omega (arith, below, c.requires.fits.processes))
