use Rattle.std.proofs.Common.{sym, subst, arith}
use Rattle.tick_kinds.specs.Resolution.{resolved}
use Rattle.searches_explore.specs.Lines.{lines_of}
use Rattle.searches_hunt.specs.prover.Parts.{IsFaultOf}
use Rattle.searches_hunt.proofs.Left.{fault_all, fault_seen, some_at}
use Rattle.searches_hunt.proofs.shrinking.Shrinker.without_last.Goals as goal
use Rattle.searches_hunt.proofs.shrinking.Shrinker.without_last.Goals.{in-Some, in-None, in-None-2}

pub returns-then-len-le-SHORT : goal.returns-then-len-le-SHORT
returns-then-len-le-SHORT c = fault_all (resolved c.args.self.now.program.now) (lines_of c.args.self.now.lines.now) c.args.schedule.items c.requires

pub processes-init : goal.processes-init
processes-init c = (
  fault_all (resolved c.args.self.now.program.now) (lines_of c.args.self.now.lines.now) c.args.schedule.items c.requires,
  omega arith,
)

pub processes-preserved : goal.processes-preserved
processes-preserved c =
    let a = resolved c.args.self.now.program.now in
    let lines = lines_of c.args.self.now.lines.now in
    let whole = c.args.schedule.items in
    let kept = c.processes.kept.items in
    let seen = c.deref-in-processes-2.result.now in
    let inv = c.processes.invariant in
    elim c.match-branch-3.branch [
      | in-Some w ↦ (
        subst (λ v. IsFaultOf a lines whole v.items) (sym w.kept-is)
            (fault_seen a lines whole kept seen w.in-Some.left.items inv.0 c.deref-in-processes-2.ensures.value
            (some_at (λ made. IsFaultOf a lines seen made.items) c.in_ok-left.field-0 w.in-Some.left w.in-Some.is c.in_ok-left.ensures.fault)),
        first_of (omega (arith, w.size-is, w.saturating_mul-size.ensures, inv.1), grind (arith, w.size-is, w.saturating_mul-size.ensures, inv.1)),
      )
      | in-None w ↦ (subst (λ v. IsFaultOf a lines whole v.items) (sym w.kept-is) inv.0, omega (arith, w.size-is))
      | in-None-2 w ↦ (subst (λ v. IsFaultOf a lines whole v.items) (sym w.kept-is) inv.0, omega (arith, w.size-is, inv.1))
    ]
