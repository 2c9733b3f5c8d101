-- What a command line means: `clap`'s parse of the command described here.
use Rattle.std.specs.Prelude.{◌≡◌, Bool, true, false, IfOk, List, Result, Err, [], ◌∷◌, Option, Some, None, codes}
use Rattle.std.specs.Borrow.{Bor}
use Rattle.std.specs.Prelude.{if◌then◌else◌, fold}
use Rattle.clap.specs.Walk.{Row, Text, first_of}
use Rattle.clap.specs.Simple.{App, Shape, app_of, shape_of, new_app, new_rule, on_top, subcommand_of, with_rule, with_subcommand}
use Rattle.clap.specs.Kinds.{Kinds}
use Rattle.clap.specs.Faults.{fault_of}
use Rattle.clap.specs.declared.builder.command.Command.{Command}
use Rattle.clap.specs.declared.builder.command.Command.TheViews.{out-Command}
use Rattle.ticketc_line.specs.Asked.{Asked, named}
use Rattle.ticketc_line.specs.declared.command.LineFault.TheVariants.{Usage}

-- the commands, and whether a text has to follow each
abbrev pub commands : List (Text × Bool)
commands = (codes "order", true) ∷ (codes "check", false) ∷ (codes "emit", false) ∷ (codes "source", true)
    ∷ (codes "code", true) ∷ (codes "lift", true) ∷ (codes "drop", true) ∷ (codes "run", true) ∷ []

abbrev pub plain_row : Bor Text × Bool → Text × Bool
plain_row (name, takes_text) = (name.now, takes_text)

abbrev pub command_shape : Text × Bool → Shape
command_shape (name, true) = (with_rule (new_app name) (record (new_rule (codes "value")) { required = true })).top
command_shape (name, false) = (new_app name).top

-- the command line that is told to `clap`: no word of its own, and one of eight subcommands
abbrev pub subcommand_wanted : App
subcommand_wanted = on_top (λ s. record s { subcommand_required = true }) (new_app (codes "ticketc"))

abbrev pub with_commands : App → List (Text × Bool) → App
with_commands = fold (λ app command. with_subcommand app (command_shape command))

abbrev pub ticketc : App
ticketc = with_commands subcommand_wanted commands

-- memory aside, what is told to `clap` is this command line, and a command of it this one
abbrev pub IsLine : {E : Type 0} → App → Result Command E → Type 0
IsLine app line = IfOk line (λ command. app_of command ≡ app)

abbrev pub IsPart : {E : Type 0} → Shape → Result Command E → Type 0
IsPart shape part = IfOk part (λ command. (shape_of command ≡ shape) × ((out-Command command).has_globals ≡ false))

abbrev pub asked_in_rows : Option (Text × List Row) → Asked
asked_in_rows None = Err Usage
asked_in_rows (Some p) = named p.0 (first_of (codes "value") p.1)

abbrev pub is_faultless : Kinds → Bool
is_faultless [] = true
is_faultless (kind ∷ kinds) = false

-- whether `clap` takes the words, the first of which is the program's name
unfoldable pub is_taken : List Text → Bool
is_taken words = is_faultless (fault_of ticketc words)

-- the subcommand that it finds in them, with the values that it read
unfoldable pub command_in : List Text → Option (Text × List Row)
command_in words = subcommand_of ticketc words

-- what the words ask for, or why they are refused
abbrev pub asked_in : List Text → Asked
asked_in words = if is_taken words then asked_in_rows (command_in words) else Err Usage
