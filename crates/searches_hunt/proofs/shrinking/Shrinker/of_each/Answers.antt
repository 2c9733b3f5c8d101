use Rattle.tick_kinds.specs.Resolution.{resolved}
use Rattle.searches_explore.specs.Lines.{lines_of}
use Rattle.searches_hunt.proofs.Left.{fault_again, fault_all, fault_once_more}
use Rattle.searches_hunt.proofs.shrinking.Shrinker.of_each.Goals as goal

pub loop-p-init : goal.loop-p-init
loop-p-init c = fault_all (resolved c.args.self.now.program.now) (lines_of c.args.self.now.lines.now) c.args.schedule.items c.requires.fault

pub loop-p-preserved : goal.loop-p-preserved
loop-p-preserved c =
    fault_again (resolved c.args.self.now.program.now) (lines_of c.args.self.now.lines.now) c.args.schedule.items c.loop-p.kept.items c.in_ok-kept.kept.items c.loop-p.invariant c.in_ok-kept.ensures

pub returns : goal.returns
returns c =
    fault_once_more (resolved c.args.self.now.program.now) (lines_of c.args.self.now.lines.now) c.args.schedule.items c.loop-p.kept.items c.without_pieces-2.result
    c.loop-p.invariant c.without_pieces-2.ensures
