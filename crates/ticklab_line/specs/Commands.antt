-- Each command: what it takes, and what its words ask for.
use Rattle.std.specs.Prelude.{ℕ, true, false, List, [], ◌∷◌, Option, Some, None, Vec, codes, bytes_eq, map, pos}
use Rattle.std.specs.Prelude.{if◌then◌else◌, option_and_then, option_map}
use Rattle.std.specs.Borrow.{Bor}
use Rattle.std.specs.Global.{Global}
use Rattle.std.specs.Option.{option_map_or}
use Rattle.clap.specs.Walk.{Row, Text, all_of, first_of}
use Rattle.clap.specs.Simple.{App, new_app, on_top, with_rule}
use Rattle.clap.specs.declared.builder.value_parser.ValueParser.TheVariants.{Signed, Unsigned}
use Rattle.language_questions.specs.declared.questions.Condition.{Condition}
use Rattle.language_questions.specs.declared.questions.Condition.TheVariants.{Alone, Fair, WaitFree}
use Rattle.ticklab_line.specs.CommandLine.{ends_rule, flag_rule, from_one_to, further_rule, jobs_rule, json_rule, limit_rule, memory_rule, number_rule, processes_rule, repeated_rule, text_rule, threads_rule, up_to, with_app, with_file, word_rule, words_rule}
use Rattle.ticklab_line.specs.Found.{for_file, for_number, for_number_or, is_set, list_of, number_of, number_or}
use Rattle.ticklab_line.specs.declared.commands.Steps.{Steps}
use Rattle.ticklab_line.specs.declared.commands.Steps.TheVariants.{Merged, MergedFirst, Single}
use Rattle.ticklab_line.specs.declared.commands.Drawing.{Drawing}
use Rattle.ticklab_line.specs.declared.commands.Paging.{Paging}
use Rattle.ticklab_line.specs.declared.commands.Request.{Request}
use Rattle.ticklab_line.specs.declared.commands.AskedRun.{AskedRun}
use Rattle.ticklab_line.specs.declared.commands.Request.TheVariants.{Explore, Ends, Check, Lasso, Hunt, Runs, Trace, Draw, Page, Explain, Labels}
use Rattle.ticklab_line.specs.declared.commands.Side.{Side}
use Rattle.ticklab_line.specs.declared.commands.Side.TheVariants.{Program, Code, Lifted}

-- what a command asks for, its texts and its lists of texts as they are
abbrev pub Asked : Type 0
Asked = Request Text (List Text)

abbrev pub explore_app : App
explore_app = with_rule (with_rule (with_rule (with_rule (with_rule (with_rule (with_rule (with_rule (with_rule (with_rule (with_file (codes "explore")) limit_rule) memory_rule)
    (flag_rule (codes "merged")))
    (flag_rule (codes "single")))
    (repeated_rule (codes "never")))
    (flag_rule (codes "schedule-only")))
    json_rule)
    ends_rule)
    (flag_rule (codes "wait-free")))
    (flag_rule (codes "alone"))

abbrev pub check_app : App
check_app = with_rule (with_rule (with_rule (with_rule (with_rule (new_app (codes "check")) (words_rule (codes "path")))
    limit_rule) memory_rule) jobs_rule) json_rule

abbrev pub lasso_app : App
lasso_app = with_rule (with_rule (with_file (codes "lasso")) (word_rule (codes "prefix"))) (further_rule (codes "cycle"))

abbrev pub hunt_app : App
hunt_app = with_rule (with_rule (with_rule (with_rule (with_rule (with_rule (with_rule (with_rule (with_rule (with_rule (with_file (codes "hunt"))
    (number_rule (codes "seed") (Unsigned 0 18446744073709551615)))
    (number_rule (codes "runs") (from_one_to 4294967295)))
    (number_rule (codes "from") (up_to 4294967294)))
    (number_rule (codes "steps") (up_to 10000000)))
    jobs_rule)
    (flag_rule (codes "uniform")))
    (repeated_rule (codes "never")))
    (flag_rule (codes "schedule-only")))
    json_rule)
    threads_rule

-- `trace`, `draw` and `page`
abbrev pub run_app : Text → App
run_app name = with_rule (with_rule (with_rule (with_rule (with_file name) (word_rule (codes "schedule")))
    (flag_rule (codes "code")))
    (flag_rule (codes "lift")))
    (repeated_rule (codes "never"))

abbrev pub trace_app : App
trace_app = with_rule (with_rule (run_app (codes "trace")) (flag_rule (codes "shared"))) json_rule

abbrev pub draw_app : App
draw_app = with_rule (with_rule (with_rule (with_rule (with_rule (run_app (codes "draw"))
    (text_rule (codes "title")))
    (number_rule (codes "from") (from_one_to 10000000)))
    (number_rule (codes "to") (from_one_to 10000000)))
    (flag_rule (codes "shared")))
    (number_rule (codes "width") (Signed (pos 300) (pos 20000)))

abbrev pub page_app : App
page_app = with_rule (with_rule (run_app (codes "page")) (text_rule (codes "title"))) (flag_rule (codes "shared"))

abbrev pub explain_app : App
explain_app = with_rule (with_rule (with_file (codes "explain")) (further_rule (codes "schedule"))) json_rule

abbrev pub labels_app : App
labels_app = with_rule (with_rule (new_app (codes "labels")) processes_rule) (word_rule (codes "moves"))

-- a command has to come first; `--version` is an option of no command
abbrev pub command_wanted : App
command_wanted =
    on_top (λ s. record s { has_version = true; subcommand_required = true; arg_required_else_help = true })
    (new_app (codes "ticklab"))

abbrev pub ticklab : App
ticklab = with_app (with_app (with_app (with_app (with_app (with_app (with_app (with_app (with_app command_wanted
    explore_app) check_app) lasso_app) hunt_app) trace_app) draw_app) page_app) explain_app) labels_app

abbrev pub limit_in : List Row → Option ℕ
limit_in = number_or 32 (codes "limit") 4294967295

-- megabytes
abbrev pub memory_in : List Row → Option ℕ
memory_in = number_or 32 (codes "memory") 1000

-- by merged steps first, unless one kind of steps is asked for
abbrev pub steps_in : List Row → Steps
steps_in rows =
    if is_set (codes "merged") rows then Merged
    else if is_set (codes "single") rows then Single
    else MergedFirst

-- all schedules, with the texts of what must never hold
abbrev pub schedules_of : List Text → List Row → Option Asked
schedules_of never rows = for_file rows (λ file. for_number_or 32 (codes "limit") 4294967295 rows (λ limit.
    for_number_or 32 (codes "memory") 1000 rows (λ memory. Some (Explore file never limit memory (steps_in rows)))))

-- the condition under which it is asked who ends
abbrev pub condition_in : List Row → Condition
condition_in rows =
    if is_set (codes "wait-free") rows then WaitFree
    else if is_set (codes "alone") rows then Alone
    else Fair

abbrev pub ends_of : List Text → Option ℕ → List Row → Option Asked
ends_of never process rows = for_file rows (λ file. for_number_or 32 (codes "limit") 4294967295 rows (λ limit.
    for_number_or 32 (codes "memory") 1000 rows (λ memory. Some (Ends file never process (condition_in rows) limit memory (steps_in rows)))))

-- no text after `--ends`, or one
abbrev pub ends_in : List Text → List Row → List Text → Option Asked
ends_in never rows [] = ends_of never None rows
ends_in never rows (process ∷ []) = option_and_then (λ process. ends_of never (Some process) rows) (number_of 8 process)
ends_in never rows texts = None

abbrev pub unless_conditioned : Condition → List Text → List Row → Option Asked
unless_conditioned Fair never rows = schedules_of never rows
unless_conditioned _ never rows = ends_of never None rows

-- without `--ends`: all schedules; and who ends under a condition, where one is asked for
abbrev pub without_ends : List Text → List Row → Option Asked
without_ends never rows = unless_conditioned (condition_in rows) never rows

-- with these texts of what must never hold
abbrev pub explore_of : List Text → List Row → Option Asked
explore_of never rows = option_map_or (ends_in never rows) (all_of (codes "ends") rows) (without_ends never rows)

abbrev pub explore_in : List Row → Option Asked
explore_in rows = explore_of (list_of (codes "never") rows) rows

-- files and folders, of which there is at least one
abbrev pub check_of : List Text → List Row → Option Asked
check_of paths rows = for_number_or 32 (codes "limit") 4294967295 rows (λ limit. for_number_or 32 (codes "memory") 1000 rows (λ memory.
    for_number_or 32 (codes "jobs") 64 rows (λ jobs. Some (Check paths limit memory jobs))))

abbrev pub check_in : List Row → Option Asked
check_in rows = check_of (list_of (codes "path") rows) rows

abbrev pub lasso_in : List Row → Option Asked
lasso_in rows = for_file rows (λ file.
    option_map (λ prefix. Lasso file prefix (first_of (codes "cycle") rows)) (first_of (codes "prefix") rows))

-- random schedules, with the texts of what must never hold
abbrev pub plan_of : List Text → List Row → Option Asked
plan_of never rows = for_file rows (λ file. for_number_or 64 (codes "seed") 0 rows (λ seed.
    for_number_or 32 (codes "runs") 10000 rows (λ runs. for_number_or 32 (codes "from") 0 rows (λ from.
    for_number_or 32 (codes "steps") 300 rows (λ steps. for_number_or 32 (codes "jobs") 64 rows (λ jobs.
    Some (Hunt file never seed runs from steps (is_set (codes "uniform") rows) jobs)))))))

abbrev pub plan_in : List Row → Option Asked
plan_in rows = plan_of (list_of (codes "never") rows) rows

-- two texts after `--threads`
abbrev pub runs_in : List Row → List Text → Option Asked
runs_in rows (times ∷ turns ∷ []) = for_file rows (λ file. option_and_then (λ times.
    option_map (λ turns. Runs file times turns) (number_of 64 turns)) (number_of 32 times))
runs_in rows texts = None

abbrev pub hunt_in : List Row → Option Asked
hunt_in rows = option_map_or (runs_in rows) (all_of (codes "threads") rows) (plan_in rows)

abbrev pub side_in : List Row → Side
side_in rows = if is_set (codes "lift") rows then Lifted else if is_set (codes "code") rows then Code else Program

-- what is shown of a run where no option says another thing: all steps, under the file's name
abbrev pub whole_run : Drawing Text
whole_run = record { title = None; from = 1; to = 10000000; is_shared = false; width = 1000 }

abbrev pub whole_page : Paging Text
whole_page = record { title = None; is_shared = false }

abbrev pub drawing_in : List Row → Option (Drawing Text)
drawing_in rows = for_number_or 32 (codes "from") 1 rows (λ from. for_number_or 32 (codes "to") 10000000 rows (λ to.
    for_number_or 32 (codes "width") 1000 rows (λ width.
    Some (record { title = first_of (codes "title") rows; from = from; to = to; is_shared = is_set (codes "shared") rows; width = width }))))

abbrev pub paging_in : List Row → Paging Text
paging_in rows = record { title = first_of (codes "title") rows; is_shared = is_set (codes "shared") rows }

abbrev pub run_by : Text → Text → List Text → Side → AskedRun Text (List Text)
run_by file schedule never side = record { file = file; schedule = schedule; never = never; side = side }

-- what a command of this name asks for that takes a schedule, with the texts of what must never hold
abbrev pub run_of : Text → List Text → List Row → Option Asked
run_of name never rows = for_file rows (λ file. option_and_then (λ schedule.
    if bytes_eq name (codes "draw") then option_map (Draw (run_by file schedule never (side_in rows))) (drawing_in rows)
    else if bytes_eq name (codes "page") then Some (Page (run_by file schedule never (side_in rows)) (paging_in rows))
    else Some (Trace (run_by file schedule never (side_in rows)) (is_set (codes "shared") rows))) (first_of (codes "schedule") rows))

abbrev pub run_in : Text → List Row → Option Asked
run_in name rows = run_of name (list_of (codes "never") rows) rows

abbrev pub explain_in : List Row → Option Asked
explain_in rows = for_file rows (λ file. Some (Explain file (first_of (codes "schedule") rows)))

abbrev pub labels_in : List Row → Option Asked
labels_in rows = for_number 8 (codes "processes") rows (λ processes.
    option_map (Labels processes) (first_of (codes "moves") rows))

-- what a command of this name asks for
abbrev pub named : Text → List Row → Option Asked
named name rows =
    if bytes_eq name (codes "explore") then explore_in rows
    else if bytes_eq name (codes "check") then check_in rows
    else if bytes_eq name (codes "lasso") then lasso_in rows
    else if bytes_eq name (codes "hunt") then hunt_in rows
    else if bytes_eq name (codes "trace") then run_in name rows
    else if bytes_eq name (codes "draw") then run_in name rows
    else if bytes_eq name (codes "page") then run_in name rows
    else if bytes_eq name (codes "explain") then explain_in rows
    else if bytes_eq name (codes "labels") then labels_in rows
    else None

abbrev pub request_in : Option (Text × List Row) → Option Asked
request_in = option_and_then (λ p. named p.0 p.1)

-- texts that are lent, as the texts themselves
abbrev pub plain_drawing : Drawing (Bor Text) → Drawing Text
plain_drawing d = record { title = option_map (λ text. text.now) d.title; from = d.from; to = d.to; is_shared = d.is_shared; width = d.width }

abbrev pub plain_paging : Paging (Bor Text) → Paging Text
plain_paging p = record { title = option_map (λ text. text.now) p.title; is_shared = p.is_shared }

abbrev pub plain_run : AskedRun (Bor Text) (Vec (Bor Text) Global) → AskedRun Text (List Text)
plain_run run = run_by run.file.now run.schedule.now (map (λ text. text.now) run.never.items) run.side

abbrev pub plain_request : Request (Bor Text) (Vec (Bor Text) Global) → Asked
plain_request (Explore file never limit memory steps) = Explore file.now (map (λ text. text.now) never.items) limit memory steps
plain_request (Ends file never process condition limit memory steps) = Ends file.now (map (λ text. text.now) never.items) process condition limit memory steps
plain_request (Check paths limit memory jobs) = Check (map (λ text. text.now) paths.items) limit memory jobs
plain_request (Lasso file prefix cycle) = Lasso file.now prefix.now (option_map (λ text. text.now) cycle)
plain_request (Hunt file never seed runs from steps is_uniform jobs) = Hunt file.now (map (λ text. text.now) never.items) seed runs from steps is_uniform jobs
plain_request (Runs file times turns) = Runs file.now times turns
plain_request (Trace run is_shared) = Trace (plain_run run) is_shared
plain_request (Draw run drawing) = Draw (plain_run run) (plain_drawing drawing)
plain_request (Page run paging) = Page (plain_run run) (plain_paging paging)
plain_request (Explain file schedule) = Explain file.now (option_map (λ text. text.now) schedule)
plain_request (Labels processes moves) = Labels processes moves.now

-- words, and what they ask for: each command but `hunt`, with its options and without
abbrev pub rows : List (List Text × Asked)
rows = (codes "explore" ∷ codes "a" ∷ codes "--limit" ∷ codes "7" ∷ [], Explore (codes "a") [] 7 1000 MergedFirst)
    ∷ (codes "explore" ∷ codes "--memory" ∷ codes "20" ∷ codes "a" ∷ codes "--limit=7" ∷ [], Explore (codes "a") [] 7 20 MergedFirst)
    ∷ (codes "explore" ∷ codes "--merged" ∷ codes "a" ∷ [], Explore (codes "a") [] 4294967295 1000 Merged)
    ∷ (codes "explore" ∷ codes "a" ∷ codes "--single" ∷ [], Explore (codes "a") [] 4294967295 1000 Single)
    ∷ (codes "explore" ∷ codes "--never" ∷ codes "n" ∷ codes "a" ∷ [], Explore (codes "a") (codes "n" ∷ []) 4294967295 1000 MergedFirst)
    ∷ (
      codes "explore" ∷ codes "a" ∷ codes "--never=1 < n" ∷ codes "--merged" ∷ codes "--never" ∷ codes "0" ∷ [],
      Explore (codes "a") (codes "1 < n" ∷ codes "0" ∷ []) 4294967295 1000 Merged,
    )
    ∷ (codes "explore" ∷ codes "a" ∷ codes "--ends" ∷ [], Ends (codes "a") [] None Fair 4294967295 1000 MergedFirst)
    ∷ (codes "explore" ∷ codes "a" ∷ codes "--ends" ∷ codes "2" ∷ [], Ends (codes "a") [] (Some 2) Fair 4294967295 1000 MergedFirst)
    ∷ (codes "explore" ∷ codes "--ends=5" ∷ codes "a" ∷ codes "--limit" ∷ codes "7" ∷ [], Ends (codes "a") [] (Some 5) Fair 7 1000 MergedFirst)
    ∷ (codes "explore" ∷ codes "--ends=5" ∷ codes "a" ∷ codes "--memory=1000000" ∷ [], Ends (codes "a") [] (Some 5) Fair 4294967295 1000000 MergedFirst)
    ∷ (codes "explore" ∷ codes "a" ∷ codes "--never" ∷ codes "n" ∷ codes "--ends" ∷ [], Ends (codes "a") (codes "n" ∷ []) None Fair 4294967295 1000 MergedFirst)
    ∷ (codes "explore" ∷ codes "a" ∷ codes "--merged" ∷ codes "--ends" ∷ [], Ends (codes "a") [] None Fair 4294967295 1000 Merged)
    ∷ (codes "explore" ∷ codes "--single" ∷ codes "--ends=1" ∷ codes "a" ∷ [], Ends (codes "a") [] (Some 1) Fair 4294967295 1000 Single)
    ∷ (codes "explore" ∷ codes "a" ∷ codes "--ends" ∷ codes "0" ∷ codes "--merged" ∷ [], Ends (codes "a") [] (Some 0) Fair 4294967295 1000 Merged)
    ∷ (codes "explore" ∷ codes "--schedule-only" ∷ codes "a" ∷ codes "--ends" ∷ [], Ends (codes "a") [] None Fair 4294967295 1000 MergedFirst)
    ∷ (codes "explore" ∷ codes "--json" ∷ codes "a" ∷ [], Explore (codes "a") [] 4294967295 1000 MergedFirst)
    ∷ (codes "explore" ∷ codes "a" ∷ codes "--ends" ∷ codes "3" ∷ codes "--json" ∷ [], Ends (codes "a") [] (Some 3) Fair 4294967295 1000 MergedFirst)
    ∷ (codes "explore" ∷ codes "a" ∷ codes "--wait-free" ∷ [], Ends (codes "a") [] None WaitFree 4294967295 1000 MergedFirst)
    ∷ (codes "explore" ∷ codes "--alone" ∷ codes "a" ∷ [], Ends (codes "a") [] None Alone 4294967295 1000 MergedFirst)
    ∷ (codes "explore" ∷ codes "a" ∷ codes "--ends" ∷ codes "1" ∷ codes "--alone" ∷ [], Ends (codes "a") [] (Some 1) Alone 4294967295 1000 MergedFirst)
    ∷ (codes "explore" ∷ codes "--wait-free" ∷ codes "a" ∷ codes "--single" ∷ codes "--ends" ∷ [], Ends (codes "a") [] None WaitFree 4294967295 1000 Single)
    ∷ (
      codes "explore" ∷ codes "a" ∷ codes "--never" ∷ codes "n" ∷ codes "--wait-free" ∷ codes "--limit=7" ∷ codes "--memory=20" ∷ [],
      Ends (codes "a") (codes "n" ∷ []) None WaitFree 7 20 MergedFirst,
    )
    ∷ (codes "check" ∷ codes "a" ∷ [], Check (codes "a" ∷ []) 4294967295 1000 64)
    ∷ (codes "check" ∷ codes "a" ∷ codes "--json" ∷ codes "b" ∷ [], Check (codes "a" ∷ codes "b" ∷ []) 4294967295 1000 64)
    ∷ (
      codes "check" ∷ codes "--jobs" ∷ codes "2" ∷ codes "a" ∷ codes "b" ∷ codes "--memory=7" ∷ codes "a" ∷ [],
      Check (codes "a" ∷ codes "b" ∷ codes "a" ∷ []) 4294967295 7 2,
    )
    ∷ (codes "lasso" ∷ codes "a" ∷ codes "0 1" ∷ codes "@b" ∷ [], Lasso (codes "a") (codes "0 1") (Some (codes "@b")))
    ∷ (codes "lasso" ∷ codes "a" ∷ codes "@b" ∷ [], Lasso (codes "a") (codes "@b") None)
    ∷ (codes "trace" ∷ codes "a" ∷ codes "0 1*3" ∷ [], Trace (run_by (codes "a") (codes "0 1*3") [] Program) false)
    ∷ (
      codes "trace" ∷ codes "--never" ∷ codes "n" ∷ codes "a" ∷ codes "0" ∷ codes "--never=1" ∷ [],
      Trace (run_by (codes "a") (codes "0") (codes "n" ∷ codes "1" ∷ []) Program) false,
    )
    ∷ (codes "trace" ∷ codes "--json" ∷ codes "a" ∷ codes "0" ∷ codes "--code" ∷ [], Trace (run_by (codes "a") (codes "0") [] Code) false)
    ∷ (codes "trace" ∷ codes "-" ∷ codes "@b" ∷ codes "--code" ∷ [], Trace (run_by (codes "-") (codes "@b") [] Code) false)
    ∷ (codes "trace" ∷ codes "a" ∷ codes "0" ∷ codes "--shared" ∷ [], Trace (run_by (codes "a") (codes "0") [] Program) true)
    ∷ (codes "trace" ∷ codes "--shared" ∷ codes "--json" ∷ codes "a" ∷ codes "0" ∷ codes "--lift" ∷ [], Trace (run_by (codes "a") (codes "0") [] Lifted) true)
    ∷ (codes "draw" ∷ codes "a" ∷ [] ∷ [], Draw (run_by (codes "a") [] [] Program) whole_run)
    ∷ (codes "draw" ∷ codes "--code" ∷ codes "a" ∷ codes "0" ∷ [], Draw (run_by (codes "a") (codes "0") [] Code) whole_run)
    ∷ (codes "draw" ∷ codes "a" ∷ codes "0" ∷ codes "--never=n" ∷ [], Draw (run_by (codes "a") (codes "0") (codes "n" ∷ []) Program) whole_run)
    ∷ (codes "draw" ∷ codes "a" ∷ codes "-" ∷ codes "--lift" ∷ [], Draw (run_by (codes "a") (codes "-") [] Lifted) whole_run)
    ∷ (
      codes "draw" ∷ codes "a" ∷ codes "0" ∷ codes "--title" ∷ codes "b/c" ∷ codes "--shared" ∷ [],
      Draw (run_by (codes "a") (codes "0") [] Program) (record whole_run { title = Some (codes "b/c"); is_shared = true }),
    )
    ∷ (
      codes "draw" ∷ codes "--from=2" ∷ codes "a" ∷ codes "--to" ∷ codes "9" ∷ codes "0" ∷ codes "--width=300" ∷ [],
      Draw (run_by (codes "a") (codes "0") [] Program) (record whole_run { from = 2; to = 9; width = 300 }),
    )
    ∷ (codes "page" ∷ codes "a" ∷ codes "0" ∷ [], Page (run_by (codes "a") (codes "0") [] Program) whole_page)
    ∷ (codes "page" ∷ codes "--title=b" ∷ codes "a" ∷ codes "@c" ∷ codes "--lift" ∷ [], Page (run_by (codes "a") (codes "@c") [] Lifted) (record whole_page { title = Some (codes "b") }))
    ∷ (codes "page" ∷ codes "--shared" ∷ codes "a" ∷ codes "0" ∷ [], Page (run_by (codes "a") (codes "0") [] Program) (record whole_page { is_shared = true }))
    ∷ (codes "page" ∷ codes "a" ∷ codes "--never" ∷ codes "n" ∷ codes "-" ∷ [], Page (run_by (codes "a") (codes "-") (codes "n" ∷ []) Program) whole_page)
    ∷ (codes "trace" ∷ codes "a" ∷ codes "--lift" ∷ codes "0" ∷ codes "--code" ∷ [], Trace (run_by (codes "a") (codes "0") [] Lifted) false)
    ∷ (codes "explain" ∷ codes "a" ∷ [], Explain (codes "a") None)
    ∷ (codes "explain" ∷ codes "a" ∷ codes "0" ∷ [], Explain (codes "a") (Some (codes "0")))
    ∷ (codes "explain" ∷ codes "--json" ∷ codes "a" ∷ [], Explain (codes "a") None)
    ∷ (codes "explain" ∷ codes "a" ∷ codes "--json" ∷ codes "0" ∷ [], Explain (codes "a") (Some (codes "0")))
    ∷ (codes "explore" ∷ codes "a" ∷ codes "--limit=0" ∷ codes "--memory=1" ∷ [], Explore (codes "a") [] 0 1 MergedFirst)
    ∷ (codes "explore" ∷ codes "a" ∷ codes "--limit=4294967295" ∷ [], Explore (codes "a") [] 4294967295 1000 MergedFirst)
    ∷ (codes "check" ∷ codes "a" ∷ codes "--jobs=1" ∷ [], Check (codes "a" ∷ []) 4294967295 1000 1)
    ∷ (codes "check" ∷ codes "a" ∷ codes "--jobs=64" ∷ [], Check (codes "a" ∷ []) 4294967295 1000 64)
    ∷ (
      codes "draw" ∷ codes "a" ∷ codes "0" ∷ codes "--from=10000000" ∷ codes "--to=1" ∷ codes "--width=20000" ∷ [],
      Draw (run_by (codes "a") (codes "0") [] Program) (record whole_run { from = 10000000; to = 1; width = 20000 }),
    )
    ∷ (codes "draw" ∷ codes "a" ∷ codes "0" ∷ codes "--from=1" ∷ codes "--to=10000000" ∷ [], Draw (run_by (codes "a") (codes "0") [] Program) whole_run)
    ∷ (codes "labels" ∷ codes "1" ∷ codes "0" ∷ [], Labels 1 (codes "0"))
    ∷ (codes "labels" ∷ codes "6" ∷ codes "5" ∷ [], Labels 6 (codes "5"))
    ∷ (codes "labels" ∷ codes "3" ∷ codes "0 c1" ∷ [], Labels 3 (codes "0 c1"))
    ∷ []
