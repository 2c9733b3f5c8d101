use Rattle.std.proofs.Common.{sym, subst}
use Rattle.tick_kinds.specs.Resolution.{resolved}
use Rattle.searches_explore.specs.Lines.{lines_of}
use Rattle.searches_hunt.specs.prover.Parts.{IsFaultOf}
use Rattle.searches_hunt.proofs.Left.{fault_all, fault_seen, some_at}
use Rattle.searches_hunt.proofs.shrinking.Shrinker.without_pieces.Goals as goal
use Rattle.searches_hunt.proofs.shrinking.Shrinker.without_pieces.Goals.{in-Some, in-None}

pub pieces-init : goal.pieces-init
pieces-init c = fault_all (resolved c.args.self.now.program.now) (lines_of c.args.self.now.lines.now) c.args.schedule.items c.requires.fault

pub pieces-preserved : goal.pieces-preserved
pieces-preserved c =
    let a = resolved c.args.self.now.program.now in
    let lines = lines_of c.args.self.now.lines.now in
    let whole = c.args.schedule.items in
    let seen = c.deref-in-pieces.result.now in
    elim c.match-branch-3.branch [
      | in-Some w ↦ subst (λ v. IsFaultOf a lines whole v.items) (sym w.kept-is)
          (fault_seen a lines whole c.pieces.kept.items seen w.in-Some.left.items c.pieces.invariant c.deref-in-pieces.ensures.value
          (some_at (λ made. IsFaultOf a lines seen made.items) c.in_ok-left.field-0 w.in-Some.left w.in-Some.is c.in_ok-left.ensures.fault))
      | in-None w ↦ subst (λ v. IsFaultOf a lines whole v.items) (sym w.kept-is) c.pieces.invariant
    ]
