use Rattle.std.proofs.Common.{sym, subst}
use Rattle.code_machine.specs.Process.{answered_by}
use Rattle.code_machine.specs.prover.Held.{does_of, Becomes}
use Rattle.code_machine.proofs.proc.Proc.take_reply.Goals as goal

pub returns-in-Scan : goal.returns-in-Scan
returns-in-Scan c =
    subst (λ i. Becomes c.args.self.now (answered_by c.args.self.now.process (does_of c.args.code.now c.args.self.now i) c.args.reply).process c.finish_scan.new.self)
    (sym c.in-Scan.is) (c.finish_scan.ensures c.args.code.now.sizes.processes)
