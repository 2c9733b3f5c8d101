use Rattle.code_machine.proofs.Steps.{one_more}
use Rattle.code_machine.proofs.machine.processes_of.Goals as goal

pub loop-p-preserved : goal.loop-p-preserved
loop-p-preserved c =
    one_more c.args.code.now c.loop-p.p c.loop-p.processes.items _ c.in_ok-process.process c.in_ok-push.ensures.items c.loop-p.invariant
    c.in_ok-process.ensures.of c.in_ok-process.ensures.me c.in_ok-process.ensures.start
