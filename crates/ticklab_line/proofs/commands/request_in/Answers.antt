use Rattle.std.proofs.Common.{◌∙◌, ap, sym}
use Rattle.ticklab_line.specs.Commands.{request_in as found_request}
use Rattle.ticklab_line.proofs.Subcommands.{of_one}
use Rattle.ticklab_line.proofs.commands.request_in.Goals as goal

pub returns-in_ok-found-in-Some : goal.returns-in_ok-found-in-Some
returns-in_ok-found-in-Some c =
    c.in_ok-found-in-Some.ensures ∙ sym (ap found_request (of_one _ _ _ _ _ c.in-Some.ensures.name c.in-Some.ensures.rows))
