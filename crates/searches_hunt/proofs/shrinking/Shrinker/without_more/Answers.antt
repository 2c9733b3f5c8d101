use Rattle.std.proofs.Common.{arith}
use Rattle.tick_kinds.specs.Resolution.{resolved}
use Rattle.searches_explore.specs.Lines.{lines_of}
use Rattle.searches_hunt.specs.prover.Parts.{IsFaultOf}
use Rattle.searches_hunt.proofs.Left.{fault_all, fault_seen, some_at}
use Rattle.searches_hunt.proofs.shrinking.Shrinker.without_more.Goals as goal

pub more-init : goal.more-init
more-init c = (fault_all (resolved c.args.self.now.program.now) (lines_of c.args.self.now.lines.now) c.args.schedule.items c.requires, omega arith)

pub more-preserved : goal.more-preserved
more-preserved c =
    let a = resolved c.args.self.now.program.now in
    let lines = lines_of c.args.self.now.lines.now in
    let seen = c.deref-in-more.result.now in (
      fault_seen a lines c.args.schedule.items c.more.kept.items seen c.in-Some.left.items c.more.invariant.0 c.deref-in-more.ensures.value
          (some_at (λ made. IsFaultOf a lines seen made.items) c.in_ok-left.field-0 c.in-Some.left c.in-Some.is c.in_ok-left.ensures.fault),
      first_of (omega (arith, c.saturating_mul-size.ensures, c.more.invariant.1), grind (arith, c.saturating_mul-size.ensures, c.more.invariant.1)),
    )
