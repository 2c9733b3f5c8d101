-- What the words of a command line ask for.
use Rattle.std.specs.Prelude.{◌≡◌, ◌≢◌, List, [], ◌∷◌, MatchOption, ◌++◌, Option, Some, None, codes, if◌then◌else◌, string_bytes}
use Rattle.clap.specs.Walk.{Row, Text}
use Rattle.clap.specs.Simple.{subcommand_of}
use Rattle.clap.specs.Faults.{fault_of}
use Rattle.clap.specs.Kinds.{IsAmong, Kinds}
use Rattle.clap.specs.declared.error.kind.ErrorKind.{ErrorKind}
use Rattle.clap.specs.declared.error.kind.ErrorKind.TheVariants as kind
use Rattle.ticklab_line.specs.Conflicts.{conflict_in, conflict_text}
use Rattle.ticklab_line.specs.Commands.{plain_request, request_in, ticklab}
use Rattle.ticklab_line.specs.Found.{is_set}
use Rattle.ticklab_line.specs.Slips.{hint_for, hint_line}
use Rattle.ticklab_line.specs.declared.asking.Line.{Line}
use Rattle.ticklab_line.specs.declared.asking.Line.TheVariants as line
use Rattle.ticklab_line.specs.declared.asking.Output.{Output}
use Rattle.ticklab_line.specs.declared.asking.Output.TheVariants as output

-- the command that `clap` finds in the words, the first of which is the program's name, with the values that it read
unfoldable pub command_in : List Text → Option (Text × List Row)
command_in words = subcommand_of ticklab words

-- The kinds of which one is told in place of a command: none where `clap` takes the words, more than one only
-- where it may tell either, as help or an unknown command after `help`.
unfoldable pub faults : List Text → Kinds
faults words = fault_of ticklab words

-- what is told where a number is out of its range
abbrev pub number_text : Text
number_text = codes "error: a number is out of its range\n"

-- what `--version` tells of a program of this version
abbrev pub version_text : Text → Text
version_text version = codes "ticklab " ++ version ++ codes "\n"

-- what is to be printed of the answer
abbrev pub output_in : List Row → Output
output_in rows =
    if is_set (codes "schedule-only") rows then output.ScheduleAlone
    else if is_set (codes "json") rows then output.Json
    else output.Text

abbrev pub output_of : Option (Text × List Row) → Output
output_of None = output.Text
output_of (Some found) = output_in found.1

-- what is answered to words that have no conflict
abbrev pub IsMeant : Option (Text × List Row) → Line → Type 0
IsMeant found (line.Request request output) = (output ≡ output_of found) × (request_in found ≡ Some (plain_request request))
IsMeant found (line.Help text) = ⊥
IsMeant found (line.Version text) = ⊥
IsMeant found (line.Refused text) = (request_in found ≡ None) × (string_bytes text ≡ number_text)

abbrev pub IsRefused : Text → Line → Type 0
IsRefused wanted (line.Refused text) = string_bytes text ≡ wanted
IsRefused wanted _ = ⊥

-- what is answered where `clap` takes the words
abbrev pub IsFound : Option (Text × List Row) → Line → Type 0
IsFound found l = MatchOption (conflict_in found) (IsMeant found l) (λ options. IsRefused (conflict_text options) l)

-- the hint for the words stands behind whatever `clap` tells of them
abbrev pub IsHinted : List Text → Text → Type 0
IsHinted words text = (told : Text) × (text ≡ told ++ hint_line (hint_for words))

-- What is answered where it does not, by a program of this version: help only where help is one of the kinds, its version
-- only where that is, a refusal only where another is, and that with its hint.
abbrev pub IsTold : Text → List Text → Kinds → Line → Type 0
IsTold version words kinds (line.Help text) = IsAmong kind.DisplayHelp kinds
IsTold version words kinds (line.Version text) = IsAmong kind.DisplayVersion kinds × (string_bytes text ≡ version_text version)
IsTold version words kinds (line.Refused text) =
    ((k : ErrorKind) × (k ≢ kind.DisplayHelp) × (k ≢ kind.DisplayVersion) × IsAmong k kinds) × IsHinted words (string_bytes text)
IsTold version words kinds _ = ⊥

abbrev pub AnswersBy : Text → List Text → Kinds → Option (Text × List Row) → Line → Type 0
AnswersBy version words [] found = IsFound found
AnswersBy version words (k ∷ ks) found = IsTold version words (k ∷ ks)

-- the words ask for this, or this is told of them by a program of this version
abbrev pub Answers : Text → List Text → Line → Type 0
Answers version words = AnswersBy version words (faults words) (command_in words)

-- the same by the one kind that is told
abbrev pub IsToldBy : Text → List Text → ErrorKind → Line → Type 0
IsToldBy version words k (line.Help text) = k ≡ kind.DisplayHelp
IsToldBy version words k (line.Version text) = (k ≡ kind.DisplayVersion) × (string_bytes text ≡ version_text version)
IsToldBy version words k (line.Refused text) = (k ≢ kind.DisplayHelp) × (k ≢ kind.DisplayVersion) × IsHinted words (string_bytes text)
IsToldBy version words k _ = ⊥
