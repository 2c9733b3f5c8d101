use Rattle.std.proofs.Common.{map, take}
use Rattle.clap.specs.Simple.{App}
use Rattle.ticketc_line.specs.Line.{IsLine, plain_row, with_commands}
use Rattle.ticketc_line.proofs.asking.with_all.Given as goal

abbrev pub invariant-loop-name : goal.invariant-loop-name
invariant-loop-name l =
    (app : App) → IsLine app l.fn.first → IsLine (with_commands app (map plain_row (take l.name-index l.commands))) l.line
