use Rattle.tick_merge.proofs.Stepping.{spent_or_not}
use Rattle.tick_merge.proofs.merging.Merging.spend.Goals as goal

pub returns-clause-ok : goal.returns-clause-ok
returns-clause-ok c = λ turns history r.
    spent_or_not c.args.code.now turns history c.args.p c.args.self.now c.lead.new.self c.in_ok-left.left (c.in_ok-left.ensures.led turns history r) c.requires.in_range
