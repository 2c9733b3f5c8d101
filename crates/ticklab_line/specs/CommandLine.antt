-- Parts of the command line of `ticklab`, as they are described to `clap`.
use Rattle.std.specs.Prelude.{◌≡◌, ℕ, IfOk, Result, Some, true, false, codes, pos}
use Rattle.clap.specs.Walk.{Rule, Text, rule_of}
use Rattle.clap.specs.Simple.{App, app_of, new_app, new_rule, with_rule, with_subcommand}
use Rattle.clap.specs.declared.builder.action.ArgAction.TheVariants.{Append, SetTrue}
use Rattle.clap.specs.declared.builder.arg.Arg.{Arg}
use Rattle.clap.specs.declared.builder.command.Command.{Command}
use Rattle.clap.specs.declared.builder.command.Command.TheViews.{out-Command}
use Rattle.clap.specs.declared.builder.value_parser.ValueParser.{ValueParser}
use Rattle.clap.specs.declared.builder.value_parser.ValueParser.TheVariants.{Signed, Unsigned}

-- a word that has to be there
abbrev pub word_rule : Text → Rule
word_rule name = record (new_rule name) { value_names = 1; required = true }

-- one word or more
abbrev pub words_rule : Text → Rule
words_rule name = record (word_rule name) {
  range = Some (record { start_inclusive = 1; end_inclusive = 18446744073709551615 });
  action = Some Append;
}

-- a word that may be there
abbrev pub further_rule : Text → Rule
further_rule name = record (new_rule name) { value_names = 1 }

-- `--name`
abbrev pub flag_rule : Text → Rule
flag_rule name = record (new_rule name) { long = Some name; action = Some SetTrue }

-- `--name NUMBER`
abbrev pub number_rule : Text → ValueParser → Rule
number_rule name parser = record (new_rule name) { long = Some name; value_names = 1; parser = Some parser }

-- a number that has to be there
abbrev pub number_word_rule : Text → ValueParser → Rule
number_word_rule name parser = record (word_rule name) { parser = Some parser }

-- `--name`, and `--name NUMBER`
abbrev pub perhaps_number_rule : Text → ValueParser → Rule
perhaps_number_rule name parser = record (number_rule name parser) { range = Some (record { start_inclusive = 0; end_inclusive = 1 }) }

-- `--name` with two numbers, for which so many words stand in the usage
abbrev pub two_numbers_rule : Text → ℕ → ValueParser → Rule
two_numbers_rule name count parser = record (new_rule name) {
  long = Some name;
  range = Some (record { start_inclusive = 2; end_inclusive = 2 });
  value_names = count;
  parser = Some parser;
}

-- `--name TEXT`
abbrev pub text_rule : Text → Rule
text_rule name = record (new_rule name) { long = Some name; value_names = 1 }

-- `--name TEXT`, again and again
abbrev pub repeated_rule : Text → Rule
repeated_rule name = record (new_rule name) { long = Some name; value_names = 1; action = Some Append }

abbrev pub up_to : ℕ → ValueParser
up_to most = Signed (pos 0) (pos most)

abbrev pub from_one_to : ℕ → ValueParser
from_one_to most = Signed (pos 1) (pos most)

-- how many states a search may have, and how many megabytes these may take
abbrev pub limit_rule : Rule
limit_rule = number_rule (codes "limit") (up_to 4294967295)

abbrev pub memory_rule : Rule
memory_rule = number_rule (codes "memory") (from_one_to 1000000)

-- how much is done side by side
abbrev pub jobs_rule : Rule
jobs_rule = number_rule (codes "jobs") (from_one_to 64)

abbrev pub json_rule : Rule
json_rule = flag_rule (codes "json")

abbrev pub processes_rule : Rule
processes_rule = number_word_rule (codes "processes") (from_one_to 6)

-- `--ends`, and `--ends P`
abbrev pub ends_rule : Rule
ends_rule = perhaps_number_rule (codes "ends") (up_to 5)

-- `--threads TIMES TURNS`
abbrev pub threads_rule : Rule
threads_rule = two_numbers_rule (codes "threads") 2 (Unsigned 1 1000000000)

abbrev pub with_file : Text → App
with_file name = with_rule (new_app name) (word_rule (codes "file"))

abbrev pub with_app : App → App → App
with_app above app = with_subcommand above app.top

-- memory aside, what is told to `clap` is this command line, this command of it, and this word of a command
abbrev pub IsLine : {E : Type 0} → App → Result Command E → Type 0
IsLine app line = IfOk line (λ command. app_of command ≡ app)

abbrev pub IsCommand : {E : Type 0} → App → Result Command E → Type 0
IsCommand app part = IfOk part (λ command. (app_of command ≡ app) × ((out-Command command).has_globals ≡ false))

abbrev pub IsWord : Rule → Arg → Type 0
IsWord rule arg = (rule_of arg ≡ rule) × (arg.global ≡ false)
