use Rattle.std.proofs.Common.{◌≡◌, length, ◌∙◌, arith}
use Rattle.tick_kinds.specs.Resolution.{resolved}
use Rattle.searches_explore.specs.Lines.{lines_of}
use Rattle.searches_hunt.proofs.Left.{fault_again, left_part, left_short}
use Rattle.searches_hunt.proofs.shrinking.shrink.Goals as goal

pub passes-init : goal.passes-init
passes-init c =
    let a = resolved c.args.program.now in
    let lines = lines_of c.args.lines.now in
    let kept = c.in_ok-kept.kept.items in (
      fault_again a lines c.args.schedule.items c.in_ok-pieces.pieces.items kept c.in_ok-pieces.ensures c.in_ok-kept.ensures,
      omega (arith, c.len-before.ensures),
      λ same. absurd (omega (arith, same, c.len-before.ensures)),
    )

pub passes-preserved : goal.passes-preserved
passes-preserved c =
    let a = resolved c.args.program.now in
    let lines = lines_of c.args.lines.now in
    let kept = c.passes.kept.items in
    let kept' = c.in_ok-kept-2.kept.items in
    let long : c.len-before-in-passes.result ≡ length kept = omega (arith, c.len-before-in-passes.ensures) in (
      fault_again a lines c.args.schedule.items kept kept' c.passes.invariant.0 c.in_ok-kept-2.ensures.of_whole,
      omega (arith, left_short kept' kept c.in_ok-kept-2.ensures.of_whole.left, long),
      λ same. c.in_ok-kept-2.ensures.needed (same ∙ long),
    )

pub returns-clause-part : goal.returns-clause-part
returns-clause-part c = left_part c.passes.kept.items c.args.schedule.items c.passes.invariant.0.left
