-- Which options do not go together: of `hunt` `--threads`, and each option of a hunt by random schedules; of `explore`
-- `--merged` and `--single`, and `--wait-free` and `--alone`; of both commands `--json` and `--schedule-only`; of `trace`,
-- `draw` and `page` `--never`, and `--code` or `--lift`.
use Rattle.std.specs.Prelude.{Bool, true, false, List, ◌++◌, ◌&&◌, ◌||◌, Option, Some, None, codes, bytes_eq, map}
use Rattle.std.specs.Prelude.{if◌then◌else◌, find, is_some, option_and_then, option_map}
use Rattle.std.specs.Option.{option_map_or}
use Rattle.clap.specs.Walk.{Row, Text, all_of}
use Rattle.ticklab_line.specs.Found.{is_given, is_set}
use Rattle.ticklab_line.specs.declared.conflicts.Conflict.{Conflict}

-- two options that do not go together, the command that they are of, and the words that it takes
pub record Shown : Type 0 where
  pub command : Text
  pub words : Text
  pub first : Text
  pub second : Text

abbrev pub is_of_plan : Text → Bool
is_of_plan id = bytes_eq id (codes "seed") || (bytes_eq id (codes "runs")
    || (bytes_eq id (codes "from") || (bytes_eq id (codes "steps") || (bytes_eq id (codes "jobs")
    || (bytes_eq id (codes "uniform") || (bytes_eq id (codes "never") || (bytes_eq id (codes "schedule-only") || bytes_eq id (codes "json"))))))))

-- the first option of a plan that is given, as it is shown
abbrev pub plan_option : List Row → Option Text
plan_option rows =
    if is_given (codes "seed") rows then Some (codes "--seed <N>")
    else if is_given (codes "runs") rows then Some (codes "--runs <N>")
    else if is_given (codes "from") rows then Some (codes "--from <RUN>")
    else if is_given (codes "steps") rows then Some (codes "--steps <N>")
    else if is_given (codes "jobs") rows then Some (codes "--jobs <N>")
    else if is_set (codes "uniform") rows then Some (codes "--uniform")
    else if is_given (codes "never") rows then Some (codes "--never <EXPR>")
    else if is_set (codes "schedule-only") rows then Some (codes "--schedule-only")
    else if is_set (codes "json") rows then Some (codes "--json")
    else None

abbrev pub may_conflict : Text → Bool
may_conflict id = bytes_eq id (codes "threads") || is_of_plan id

-- of these names in the order in which the words gave them, `threads` is the first
abbrev pub threads_lead : List Text → Bool
threads_lead ids = option_map_or (bytes_eq (codes "threads")) (find may_conflict ids) false

-- two options of a command that takes a file
abbrev pub of_file : Text → Text → Text → Shown
of_file command first second = record { command = command; words = codes " <FILE>"; first = first; second = second }

-- two options, in the order in which they were given
abbrev pub in_order : Bool → Text → Shown
in_order true option = of_file (codes "hunt") (codes "--threads <TIMES> <TURNS>") option
in_order false option = of_file (codes "hunt") option (codes "--threads <TIMES> <TURNS>")

-- the texts of a conflict
abbrev pub shown : Conflict → Shown
shown conflict = record { command = conflict.command.now; words = conflict.words.now; first = conflict.first.now; second = conflict.second.now }

abbrev pub threads_conflict : List Row → Option Shown
threads_conflict rows = if is_some (all_of (codes "threads") rows)
    then option_map (in_order (threads_lead (map (λ r. r.id) rows))) (plan_option rows) else None

abbrev pub merged_and_single : Shown
merged_and_single = of_file (codes "explore") (codes "--merged") (codes "--single")

abbrev pub steps_conflict : List Row → Option Shown
steps_conflict rows = if is_set (codes "merged") rows && is_set (codes "single") rows then Some merged_and_single else None

abbrev pub wait_free_and_alone : Shown
wait_free_and_alone = of_file (codes "explore") (codes "--wait-free") (codes "--alone")

abbrev pub conditions_conflict : List Row → Option Shown
conditions_conflict rows = if is_set (codes "wait-free") rows && is_set (codes "alone") rows then Some wait_free_and_alone else None

-- the command of this name whose answer may have a schedule
abbrev pub search_named : Text → Text
search_named name = if bytes_eq name (codes "hunt") then codes "hunt" else codes "explore"

abbrev pub json_and_schedule : Text → Shown
json_and_schedule name = of_file (search_named name) (codes "--json") (codes "--schedule-only")

abbrev pub json_conflict : Text → List Row → Option Shown
json_conflict name rows = if is_set (codes "json") rows && is_set (codes "schedule-only") rows then Some (json_and_schedule name) else None

-- the command of this name that takes a schedule
abbrev pub run_named : Text → Text
run_named name =
    if bytes_eq name (codes "draw") then codes "draw"
    else if bytes_eq name (codes "page") then codes "page"
    else codes "trace"

abbrev pub beside_never : Text → Text → Shown
beside_never name option = record {
  command = run_named name;
  words = codes " <FILE> <SCHEDULE>";
  first = option;
  second = codes "--never <EXPR>";
}

-- the option by which a code is taken, as it is shown
abbrev pub code_option : List Row → Option Text
code_option rows =
    if is_set (codes "code") rows then Some (codes "--code")
    else if is_set (codes "lift") rows then Some (codes "--lift")
    else None

abbrev pub code_conflict : Text → List Row → Option Shown
code_conflict name rows = if is_given (codes "never") rows then option_map (beside_never name) (code_option rows) else None

-- two options of a command that do not go together
abbrev pub conflict_of : Text → List Row → Option Shown
conflict_of name rows =
    if is_some (threads_conflict rows) then threads_conflict rows
    else if is_some (steps_conflict rows) then steps_conflict rows
    else if is_some (conditions_conflict rows) then conditions_conflict rows
    else if is_some (json_conflict name rows) then json_conflict name rows
    else code_conflict name rows

abbrev pub conflict_in : Option (Text × List Row) → Option Shown
conflict_in = option_and_then (λ p. conflict_of p.0 p.1)

-- what is told of them
abbrev pub conflict_text : Shown → Text
conflict_text options =
    codes "error: the argument '" ++ options.first ++ codes "' cannot be used with '" ++ options.second
    ++ codes "'\n\nUsage: ticklab " ++ options.command ++ codes " " ++ options.first
    ++ options.words ++ codes "\n\nFor more information, try '--help'.\n"
