use Rattle.std.proofs.Common.{List, Bool, subst, map}
use Rattle.std.proofs.lemmas.List.{take_all}
use Rattle.std.specs.Borrow.{Bor}
use Rattle.clap.specs.Simple.{App}
use Rattle.clap.specs.Walk.{Text}
use Rattle.ticketc_line.specs.Line.{IsLine, plain_row, with_commands}
use Rattle.ticketc_line.proofs.AskingLemmas.{one_more_of}
use Rattle.ticketc_line.proofs.asking.with_all.Goals as goal

pub loop-name-preserved : goal.loop-name-preserved
loop-name-preserved c = λ app is_line.
    subst (λ (app : App). IsLine app c.with-line.result) (one_more_of app c.args.commands.now c.loop-name.name-index _ c.loop-name-test.true)
    (c.with-line.ensures _ _ (c.loop-name.invariant app is_line) c.command.ensures)

pub returns : goal.returns
returns c = λ app is_line.
    subst (λ (commands : List (Bor Text × Bool)). IsLine (with_commands app (map plain_row commands)) c.loop-name.line)
    (take_all c.loop-name.name-index c.args.commands.now c.loop-name-test.false) (c.loop-name.invariant app is_line)
