use Rattle.tick_kinds.specs.Resolution.{resolved}
use Rattle.searches_explore.specs.Lines.{lines_of}
use Rattle.searches_hunt.proofs.Left.{fault_all}
use Rattle.searches_hunt.proofs.shrinking.Shrinker.without_vain_looks.Goals as goal

pub returns-then-len-le-SHORT : goal.returns-then-len-le-SHORT
returns-then-len-le-SHORT c = fault_all (resolved c.args.self.now.program.now) (lines_of c.args.self.now.lines.now) c.args.schedule.items c.requires

pub returns-in-None : goal.returns-in-None
returns-in-None c = fault_all (resolved c.args.self.now.program.now) (lines_of c.args.self.now.lines.now) c.args.schedule.items c.requires
