use Rattle.tick_kinds.specs.Resolution.{resolved}
use Rattle.searches_explore.specs.Lines.{lines_of}
use Rattle.searches_hunt.proofs.Left.{fault_again, fault_all}
use Rattle.searches_hunt.proofs.shrinking.Shrinker.in_pieces.Goals as goal

pub sizes-init : goal.sizes-init
sizes-init c = fault_all (resolved c.args.self.now.program.now) (lines_of c.args.self.now.lines.now) c.args.schedule.items c.requires

pub sizes-preserved : goal.sizes-preserved
sizes-preserved c =
    fault_again (resolved c.args.self.now.program.now) (lines_of c.args.self.now.lines.now) c.args.schedule.items c.sizes.kept.items c.in_ok-kept.kept.items c.sizes.invariant c.in_ok-kept.ensures

pub returns-then-before-size-ge-ENOUGH_PIECES : goal.returns-then-before-size-ge-ENOUGH_PIECES
returns-then-before-size-ge-ENOUGH_PIECES c =
    fault_again (resolved c.args.self.now.program.now) (lines_of c.args.self.now.lines.now) c.args.schedule.items c.sizes.kept.items c.in_ok-kept.kept.items c.sizes.invariant c.in_ok-kept.ensures

pub returns-then-steps_by-gt-MOST_STEPS : goal.returns-then-steps_by-gt-MOST_STEPS
returns-then-steps_by-gt-MOST_STEPS c =
    fault_again (resolved c.args.self.now.program.now) (lines_of c.args.self.now.lines.now) c.args.schedule.items c.sizes.kept.items c.in_ok-kept.kept.items c.sizes.invariant c.in_ok-kept.ensures
