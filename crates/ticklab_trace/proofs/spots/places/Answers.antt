use Rattle.std.proofs.Common.{ap, ◌∙◌, length, arith}
use Rattle.base.specs.Plain.{nowhere}
use Rattle.tick_syntax.proofs.Offered.{spells_in_order}
use Rattle.ticklab_trace.proofs.Cutting.{head_fits}
use Rattle.ticklab_trace.proofs.spots.places.Goals as goal

pub passed_to-passed-requires-clause-within : goal.passed_to-passed-requires-clause-within
passed_to-passed-requires-clause-within c =
    let order = spells_in_order c.args.text.now c.args.tokens.now c.requires in
    let fits = head_fits c.args.text.now c.args.tokens.now c.args.program.now c.deref-head-items.result.now c.utf8.text order
    (c.deref-head-items.ensures.value ∙ c.in_ok-heads.ensures) c.loop-head.head-index nowhere c.loop-head-test.true in
    omega (arith, fits.0, ap length c.as_bytes.ensures.value)

pub spot_at-requires : goal.spot_at-requires
spot_at-requires c =
    let order = spells_in_order c.args.text.now c.args.tokens.now c.requires in
    let fits = head_fits c.args.text.now c.args.tokens.now c.args.program.now c.deref-head-items.result.now c.utf8.text order
    (c.deref-head-items.ensures.value ∙ c.in_ok-heads.ensures) c.loop-head.head-index nowhere c.loop-head-test.true in
    fits.1
