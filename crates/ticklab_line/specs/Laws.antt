-- What command lines ask for, computed from the description of the command line alone.
use Rattle.std.specs.Prelude.{◌≡◌, true, false, List, [], ◌∷◌, Option, Some, None, codes, map}
use Rattle.clap.specs.Walk.{Text}
use Rattle.clap.specs.Kinds.{Kinds}
use Rattle.clap.specs.declared.error.kind.ErrorKind.TheVariants as kind
use Rattle.ticklab_line.specs.Commands.{Asked, request_in, rows}
use Rattle.ticklab_line.specs.Lines.{command_in, faults, output_of}
use Rattle.ticklab_line.specs.Conflicts.{Shown, beside_never, conflict_in, json_and_schedule, merged_and_single, of_file, wait_free_and_alone}
use Rattle.ticklab_line.specs.declared.asking.Output.{Output}
use Rattle.ticklab_line.specs.declared.asking.Output.TheVariants as output
use Rattle.ticklab_line.specs.declared.commands.Request.TheVariants.{Explore, Hunt, Runs}
use Rattle.ticklab_line.specs.declared.commands.Steps.TheVariants.{MergedFirst}

abbrev pub line : List Text → List Text
line words = codes "ticklab" ∷ words

-- `clap` takes the words after the program's name, and these two options of them, if any, do not go together
abbrev pub IsTaken : List Text → Option Shown → Type 0
IsTaken words conflict = (faults (line words) ≡ []) × (conflict_in (command_in (line words)) ≡ conflict)

-- the words ask for this
abbrev pub Asks : List Text → Asked → Type 0
Asks words request = IsTaken words None × (request_in (command_in (line words)) ≡ Some request)

-- one of these kinds is told of the words
abbrev pub Tells : List Text → Kinds → Type 0
Tells words kinds = faults (line words) ≡ kinds

-- what is told of the words, their options that do not go together, and what they ask for
abbrev pub read : List Text → Kinds × Option Shown × Option Asked
read words = (faults (line words), conflict_in (command_in (line words)), request_in (command_in (line words)))

-- what is to be printed of the answer
abbrev pub output_asked : List Text → Output
output_asked words = output_of (command_in (line words))

pub record CommandsLaw : Type 0 where
  pub explore : (rest : Text) → Asks (codes "explore" ∷ (97 ∷ rest) ∷ []) (Explore (97 ∷ rest) [] 4294967295 1000 MergedFirst)
  pub code_never : IsTaken (codes "trace" ∷ codes "a" ∷ codes "0" ∷ codes "--never=1" ∷ codes "--code" ∷ []) (Some (beside_never (codes "trace") (codes "--code")))
  pub drawn_code_never : IsTaken (codes "draw" ∷ codes "--code" ∷ codes "a" ∷ codes "0" ∷ codes "--never" ∷ codes "n" ∷ []) (Some (beside_never (codes "draw") (codes "--code")))
  pub lift_never : IsTaken (codes "draw" ∷ codes "a" ∷ codes "0" ∷ codes "--never" ∷ codes "n" ∷ codes "--lift" ∷ []) (Some (beside_never (codes "draw") (codes "--lift")))
  pub page_lift : IsTaken (codes "page" ∷ codes "a" ∷ codes "0" ∷ codes "--lift" ∷ codes "--never" ∷ codes "n" ∷ []) (Some (beside_never (codes "page") (codes "--lift")))
  pub alone : output_asked (codes "explore" ∷ codes "a" ∷ codes "--schedule-only" ∷ []) ≡ output.ScheduleAlone
  pub alone_of_ends : output_asked (codes "explore" ∷ codes "--schedule-only" ∷ codes "a" ∷ codes "--ends" ∷ []) ≡ output.ScheduleAlone
  pub alone_of_a_hunt : output_asked (codes "hunt" ∷ codes "a" ∷ codes "--schedule-only" ∷ []) ≡ output.ScheduleAlone
  pub whole : output_asked (codes "explore" ∷ codes "a" ∷ codes "--ends" ∷ []) ≡ output.Text
  pub whole_of_a_trace : output_asked (codes "trace" ∷ codes "a" ∷ codes "0" ∷ []) ≡ output.Text
  pub json : output_asked (codes "trace" ∷ codes "--json" ∷ codes "a" ∷ codes "0" ∷ []) ≡ output.Json
  pub json_of_a_hunt : output_asked (codes "hunt" ∷ codes "a" ∷ codes "--json" ∷ []) ≡ output.Json
  pub json_of_explore : output_asked (codes "explore" ∷ codes "--json" ∷ codes "a" ∷ []) ≡ output.Json
  pub json_of_ends : output_asked (codes "explore" ∷ codes "a" ∷ codes "--ends" ∷ codes "3" ∷ codes "--json" ∷ []) ≡ output.Json
  pub json_of_a_check : output_asked (codes "check" ∷ codes "a" ∷ codes "--json" ∷ codes "b" ∷ []) ≡ output.Json
  pub json_of_explain : output_asked (codes "explain" ∷ codes "a" ∷ codes "--json" ∷ codes "0" ∷ []) ≡ output.Json
  pub whole_of_explain : output_asked (codes "explain" ∷ codes "a" ∷ codes "0" ∷ []) ≡ output.Text
  pub whole_of_a_check : output_asked (codes "check" ∷ codes "a" ∷ []) ≡ output.Text
  pub merged_single : IsTaken (codes "explore" ∷ codes "a" ∷ codes "--merged" ∷ codes "--single" ∷ []) (Some merged_and_single)
  pub single_merged : IsTaken (codes "explore" ∷ codes "--single" ∷ codes "a" ∷ codes "--ends" ∷ codes "--merged" ∷ []) (Some merged_and_single)
  pub wait_free_alone : IsTaken (codes "explore" ∷ codes "a" ∷ codes "--wait-free" ∷ codes "--alone" ∷ []) (Some wait_free_and_alone)
  pub alone_wait_free : IsTaken (codes "explore" ∷ codes "--alone" ∷ codes "a" ∷ codes "--ends" ∷ codes "--wait-free" ∷ []) (Some wait_free_and_alone)
  pub json_schedule : IsTaken (codes "explore" ∷ codes "a" ∷ codes "--json" ∷ codes "--schedule-only" ∷ []) (Some (json_and_schedule (codes "explore")))
  pub schedule_json : IsTaken (codes "explore" ∷ codes "--schedule-only" ∷ codes "a" ∷ codes "--ends" ∷ codes "--json" ∷ []) (Some (json_and_schedule (codes "explore")))
  pub all : map (λ row. read row.0) rows ≡ map (λ row. ([], None, Some row.1)) rows

-- the words after `hunt` and a program ask for this
abbrev pub HuntsBy : List Text → Asked → Type 0
HuntsBy words = Asks (codes "hunt" ∷ codes "a" ∷ words)

-- they have two options that do not go together, shown so
abbrev pub Conflicts : List Text → Text → Text → Type 0
Conflicts words first second = IsTaken (codes "hunt" ∷ codes "a" ∷ words) (Some (of_file (codes "hunt") first second))

-- `--threads 5 9` and more words
abbrev pub threads : List Text → List Text
threads words = codes "--threads" ∷ codes "5" ∷ codes "9" ∷ words

abbrev pub shown_threads : Text
shown_threads = codes "--threads <TIMES> <TURNS>"

pub record HuntsLaw : Type 0 where
  pub plain : HuntsBy [] (Hunt (codes "a") [] 0 10000 0 300 false 64)
  pub seed : HuntsBy (codes "--seed" ∷ codes "18446744073709551615" ∷ []) (Hunt (codes "a") [] 18446744073709551615 10000 0 300 false 64)
  pub runs : HuntsBy (codes "--runs" ∷ codes "2" ∷ []) (Hunt (codes "a") [] 0 2 0 300 false 64)
  pub from : HuntsBy (codes "--from" ∷ codes "7" ∷ []) (Hunt (codes "a") [] 0 10000 7 300 false 64)
  pub steps : HuntsBy (codes "--steps" ∷ codes "2" ∷ []) (Hunt (codes "a") [] 0 10000 0 2 false 64)
  pub jobs : HuntsBy (codes "--jobs" ∷ codes "4" ∷ []) (Hunt (codes "a") [] 0 10000 0 300 false 4)
  pub least : HuntsBy (codes "--runs=1" ∷ codes "--steps=0" ∷ codes "--jobs=1" ∷ []) (Hunt (codes "a") [] 0 1 0 0 false 1)
  pub most_runs : HuntsBy (codes "--runs=4294967295" ∷ codes "--from=4294967294" ∷ []) (Hunt (codes "a") [] 0 4294967295 4294967294 300 false 64)
  pub most_steps : HuntsBy (codes "--steps=10000000" ∷ codes "--jobs=64" ∷ []) (Hunt (codes "a") [] 0 10000 0 10000000 false 64)
  pub least_threads : HuntsBy (codes "--threads" ∷ codes "1" ∷ codes "1" ∷ []) (Runs (codes "a") 1 1)
  pub most_threads : HuntsBy (codes "--threads" ∷ codes "1000000000" ∷ codes "1000000000" ∷ []) (Runs (codes "a") 1000000000 1000000000)
  pub uniform : HuntsBy (codes "--uniform" ∷ []) (Hunt (codes "a") [] 0 10000 0 300 true 64)
  pub never : HuntsBy (codes "--never" ∷ codes "n" ∷ codes "--never=1" ∷ []) (Hunt (codes "a") (codes "n" ∷ codes "1" ∷ []) 0 10000 0 300 false 64)
  pub threads_alone : HuntsBy (threads []) (Runs (codes "a") 5 9)
  pub threads_seed : Conflicts (threads (codes "--seed" ∷ codes "0" ∷ [])) shown_threads (codes "--seed <N>")
  pub threads_runs_given : Conflicts (threads (codes "--runs=10000" ∷ [])) shown_threads (codes "--runs <N>")
  pub threads_from : Conflicts (threads (codes "--from=0" ∷ [])) shown_threads (codes "--from <RUN>")
  pub threads_steps : Conflicts (threads (codes "--steps" ∷ codes "5" ∷ [])) shown_threads (codes "--steps <N>")
  pub threads_jobs : Conflicts (threads (codes "--jobs" ∷ codes "2" ∷ [])) shown_threads (codes "--jobs <N>")
  pub threads_uniform : Conflicts (threads (codes "--uniform" ∷ [])) shown_threads (codes "--uniform")
  pub threads_never : Conflicts (threads (codes "--never" ∷ codes "n" ∷ [])) shown_threads (codes "--never <EXPR>")
  pub threads_schedule : Conflicts (threads (codes "--schedule-only" ∷ [])) shown_threads (codes "--schedule-only")
  pub threads_json : Conflicts (threads (codes "--json" ∷ [])) shown_threads (codes "--json")
  pub json_threads : Conflicts (codes "--json" ∷ threads []) (codes "--json") shown_threads
  pub json_schedule : Conflicts (codes "--json" ∷ codes "--schedule-only" ∷ []) (codes "--json") (codes "--schedule-only")
  pub schedule_json : Conflicts (codes "--schedule-only" ∷ codes "--json" ∷ []) (codes "--json") (codes "--schedule-only")
  pub steps_threads : Conflicts (codes "--steps" ∷ codes "5" ∷ threads []) (codes "--steps <N>") shown_threads
  pub uniform_threads : Conflicts (codes "--uniform" ∷ threads []) (codes "--uniform") shown_threads
  pub all : Conflicts (codes "--steps" ∷ codes "5" ∷ threads (codes "--uniform" ∷ codes "--seed" ∷ codes "1" ∷ [])) (codes "--seed <N>") shown_threads

pub record NoCommandsLaw : Type 0 where
  pub nothing : Tells [] (kind.DisplayHelpOnMissingArgumentOrSubcommand ∷ [])
  pub unknown : Tells (codes "sort" ∷ codes "a" ∷ []) (kind.UnknownArgument ∷ kind.InvalidSubcommand ∷ [])
  pub help : Tells (codes "--help" ∷ []) (kind.DisplayHelp ∷ [])
  pub explore_help : Tells (codes "explore" ∷ codes "--help" ∷ []) (kind.DisplayHelp ∷ [])
  pub hunt_help : Tells (codes "hunt" ∷ codes "-h" ∷ []) (kind.DisplayHelp ∷ [])
  pub help_command : Tells (codes "help" ∷ []) (kind.DisplayHelp ∷ kind.InvalidSubcommand ∷ [])
  pub merged_true : Tells (codes "explore" ∷ codes "a" ∷ codes "--merged=true" ∷ []) (kind.TooManyValues ∷ [])
  pub alone_true : Tells (codes "explore" ∷ codes "a" ∷ codes "--alone=true" ∷ []) (kind.TooManyValues ∷ [])
  pub version : Tells (codes "--version" ∷ []) (kind.DisplayVersion ∷ [])
  pub short_version : Tells (codes "-V" ∷ []) (kind.DisplayVersion ∷ [])
  pub version_first : Tells (codes "--version" ∷ codes "explore" ∷ codes "a" ∷ []) (kind.DisplayVersion ∷ [])
  pub explore_version : Tells (codes "explore" ∷ codes "a" ∷ codes "--version" ∷ []) (kind.UnknownArgument ∷ [])
  pub labels_version : Tells (codes "labels" ∷ codes "-V" ∷ []) (kind.UnknownArgument ∷ [])
  pub no_file : Tells (codes "explore" ∷ []) (kind.MissingRequiredArgument ∷ [])
  pub no_path : Tells (codes "check" ∷ codes "--limit=7" ∷ []) (kind.MissingRequiredArgument ∷ [])
  pub no_jobs : Tells (codes "check" ∷ codes "a" ∷ codes "--jobs=0" ∷ []) (kind.ValueValidation ∷ [])
  pub no_schedule : Tells (codes "trace" ∷ codes "a" ∷ []) (kind.MissingRequiredArgument ∷ [])
  pub no_moves : Tells (codes "labels" ∷ codes "2" ∷ []) (kind.MissingRequiredArgument ∷ [])
  pub no_number : Tells (codes "explore" ∷ codes "a" ∷ codes "--limit" ∷ codes "x" ∷ []) (kind.ValueValidation ∷ [])
  pub large_number : Tells (codes "explore" ∷ codes "a" ∷ codes "--limit" ∷ codes "4294967296" ∷ []) (kind.ValueValidation ∷ [])
  pub no_memory : Tells (codes "explore" ∷ codes "a" ∷ codes "--memory" ∷ codes "0" ∷ []) (kind.ValueValidation ∷ [])
  pub much_memory : Tells (codes "explore" ∷ codes "a" ∷ codes "--memory=1000001" ∷ []) (kind.ValueValidation ∷ [])
  pub no_step : Tells (codes "draw" ∷ codes "a" ∷ codes "0" ∷ codes "--from" ∷ codes "0" ∷ []) (kind.ValueValidation ∷ [])
  pub too_narrow : Tells (codes "draw" ∷ codes "a" ∷ codes "0" ∷ codes "--width=299" ∷ []) (kind.ValueValidation ∷ [])
  pub trace_title : Tells (codes "trace" ∷ codes "a" ∷ codes "0" ∷ codes "--title" ∷ codes "b" ∷ []) (kind.UnknownArgument ∷ [])
  pub draw_json : Tells (codes "draw" ∷ codes "a" ∷ codes "0" ∷ codes "--json" ∷ []) (kind.UnknownArgument ∷ [])
  pub no_process : Tells (codes "explore" ∷ codes "a" ∷ codes "--ends" ∷ codes "6" ∷ []) (kind.ValueValidation ∷ [])
  pub many_steps : Tells (codes "hunt" ∷ codes "a" ∷ codes "--steps" ∷ codes "10000001" ∷ []) (kind.ValueValidation ∷ [])
  pub large_seed : Tells (codes "hunt" ∷ codes "a" ∷ codes "--seed=18446744073709551616" ∷ []) (kind.ValueValidation ∷ [])
  pub many_runs : Tells (codes "hunt" ∷ codes "a" ∷ codes "--runs=4294967296" ∷ []) (kind.ValueValidation ∷ [])
  pub no_run : Tells (codes "hunt" ∷ codes "a" ∷ codes "--runs=0" ∷ []) (kind.ValueValidation ∷ [])
  pub late_run : Tells (codes "hunt" ∷ codes "a" ∷ codes "--from=4294967295" ∷ []) (kind.ValueValidation ∷ [])
  pub many_jobs : Tells (codes "check" ∷ codes "a" ∷ codes "--jobs=65" ∷ []) (kind.ValueValidation ∷ [])
  pub no_jobs_of_a_hunt : Tells (codes "hunt" ∷ codes "a" ∷ codes "--jobs=0" ∷ []) (kind.ValueValidation ∷ [])
  pub many_jobs_of_a_hunt : Tells (codes "hunt" ∷ codes "a" ∷ codes "--jobs=65" ∷ []) (kind.ValueValidation ∷ [])
  pub no_times : Tells (codes "hunt" ∷ codes "a" ∷ codes "--threads" ∷ codes "0" ∷ codes "1" ∷ []) (kind.ValueValidation ∷ [])
  pub no_turns : Tells (codes "hunt" ∷ codes "a" ∷ codes "--threads" ∷ codes "1" ∷ codes "0" ∷ []) (kind.ValueValidation ∷ [])
  pub many_turns : Tells (codes "hunt" ∷ codes "a" ∷ codes "--threads" ∷ codes "5" ∷ codes "1000000001" ∷ []) (kind.ValueValidation ∷ [])
  pub late_step : Tells (codes "draw" ∷ codes "a" ∷ codes "0" ∷ codes "--from=10000001" ∷ []) (kind.ValueValidation ∷ [])
  pub no_last_step : Tells (codes "draw" ∷ codes "a" ∷ codes "0" ∷ codes "--to=0" ∷ []) (kind.ValueValidation ∷ [])
  pub late_last_step : Tells (codes "draw" ∷ codes "a" ∷ codes "0" ∷ codes "--to=10000001" ∷ []) (kind.ValueValidation ∷ [])
  pub too_wide : Tells (codes "draw" ∷ codes "a" ∷ codes "0" ∷ codes "--width=20001" ∷ []) (kind.ValueValidation ∷ [])
  pub no_processes : Tells (codes "labels" ∷ codes "0" ∷ codes "0" ∷ []) (kind.ValueValidation ∷ [])
  pub seven_processes : Tells (codes "labels" ∷ codes "7" ∷ codes "0" ∷ []) (kind.ValueValidation ∷ [])
  pub one_number : Tells (codes "hunt" ∷ codes "a" ∷ codes "--threads" ∷ codes "5" ∷ []) (kind.WrongNumberOfValues ∷ [])
