use Rattle.std.proofs.Common.{sym, subst}
use Rattle.code_machine.specs.Process.{AsksLawfully}
use Rattle.code_machine.proofs.Kept.{make_kept, make_lawful}
use Rattle.code_machine.proofs.proc.Proc.make.Goals as goal

pub returns-clause-of : goal.returns-clause-of
returns-clause-of c = make_kept c.args.code.now c.args.self.now c.perform.new.self c.requires.of c.args.instruction c.requires.here c.perform.ensures.becomes

pub returns-clause-lawful : goal.returns-clause-lawful
returns-clause-lawful c =
    let code = c.args.code.now in
    let one = c.args.self.now in
    subst (AsksLawfully code.sizes one.me) (sym c.perform.ensures.answer) (make_lawful code one one c.requires.of c.args.instruction c.requires.here)
