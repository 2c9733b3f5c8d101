use Rattle.code_machine.proofs.Kept.{finish_kept}
use Rattle.code_machine.proofs.proc.Proc.finish.Goals as goal

pub returns-clause-of : goal.returns-clause-of
returns-clause-of c =
    finish_kept c.args.code.now c.args.self.now c.take_reply.new.self c.requires.of c.args.instruction c.requires.here
    c.args.reply c.requires.word c.take_reply.ensures
