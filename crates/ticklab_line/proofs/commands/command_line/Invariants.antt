-- what was told so far, with the commands that are left behind it, is the whole line
use Rattle.std.proofs.Common.{◌≡◌, drop}
use Rattle.clap.specs.Simple.{App}
use Rattle.ticklab_line.specs.CommandLine.{IsLine}
use Rattle.ticklab_line.specs.Commands.{ticklab}
use Rattle.ticklab_line.specs.prover.Described.{with_commands}
use Rattle.ticklab_line.proofs.commands.command_line.Given as goal

abbrev pub invariant-loop-description : goal.invariant-loop-description
invariant-loop-description l =
    (above : App) × IsLine above l.line × (with_commands above (drop l.description-index l.description-items) ≡ ticklab)
