-- One more subcommand, and one more word.
use Rattle.std.proofs.Common.{◌≡◌, ◌∙◌, ◌||◌, Bool, false, ap₂}
use Rattle.clap.specs.Walk.{Rule}
use Rattle.clap.specs.Words.{AddsArg, AddsSubcommand}
use Rattle.clap.specs.Simple.{App, app_of, with_rule, with_subcommand}
use Rattle.clap.specs.declared.builder.arg.Arg.{Arg}
use Rattle.clap.specs.declared.builder.command.Command.{Command}
use Rattle.clap.specs.declared.builder.command.Command.TheViews.{out-Command}
use Rattle.ticklab_line.specs.CommandLine.{IsWord, with_app}

-- a command with no global argument
abbrev Is : App → Command → Type 0
Is app command = (app_of command ≡ app) × ((out-Command command).has_globals ≡ false)

pub one_more_command : (old more new : Command) (above app : App)
    → AddsSubcommand old more new
    → app_of old ≡ above
    → Is app more
    → app_of new ≡ with_app above app
one_more_command old more new above app adds is_above is_app =
    adds.shape is_app.1 ∙ ap₂ (λ (a b : App). with_subcommand a b.top) is_above is_app.0

pub one_more_word : (old new : Command) (arg : Arg) (app : App) (rule : Rule)
    → AddsArg old arg new
    → Is app old
    → IsWord rule arg
    → Is (with_rule app rule) new
one_more_word old new arg app rule adds is_app is_word =
    (adds.shape is_word.1 ∙ ap₂ with_rule is_app.0 is_word.0, adds.globals ∙ ap₂ (λ (a b : Bool). a || b) is_app.1 is_word.1)
