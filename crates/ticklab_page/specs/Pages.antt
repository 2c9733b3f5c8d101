-- A run as a page of HTML, to the byte: what it is of, its fault, the buttons, the state, the program, the steps, the
-- picture, and what the script replays. Texts of files are written as `Shown` says; fixed ones are constants of the code.
use Rattle.std.specs.Prelude.{ℕ, Bool, true, false, List, [], ◌∷◌, ◌++◌, codes, length, map, nat_le, if◌then◌else◌, Option, Some, None, option_map}
use Rattle.std.specs.Str.Lines.{lines}
use Rattle.base.specs.Plain.{Name, WholeProgram}
use Rattle.code_core.specs.Instructions.{StepCode}
use Rattle.code_text.specs.CodeText.{instr_text}
use Rattle.ticklab_trace.specs.Places.{Standing}
use Rattle.ticklab_trace.specs.TraceText.{instruction_lines, statement_lines}
use Rattle.ticklab_trace.specs.Folds.{instruction_rows, statement_rows}
use Rattle.ticklab_trace.specs.declared.folds.Row.{Row}
use Rattle.ticklab_trace.specs.declared.parts.Parts.{Parts}
use Rattle.ticklab_trace.specs.declared.steps.StatementStep.{StatementStep}
use Rattle.ticklab_trace.specs.declared.steps.InstructionStep.{InstructionStep}
use Rattle.ticklab_draw.specs.Never.{Broken}
use Rattle.ticklab_page.specs.Changes.{change_lines}
use Rattle.ticklab_page.specs.Lists.{listing_text, steps_text}
use Rattle.ticklab_page.specs.Runs.{ShownRun}
use Rattle.ticklab_page.specs.Shown.{shown}
use Rattle.ticklab_page.specs.States.{table_text}
use Rattle.ticklab_page.specs.Steps.{first_trap, of_instruction, of_statement, opened_at}
use Rattle.ticklab_page.specs.Writing.{around, markup, twice}
use Rattle.ticklab_page.specs.declared.page.TheConstants.{BUTTONS, BUTTONS_END, FOLD_BUTTON, PICTURE_TOP, ROUND_BUTTONS, ROUND_SAID, SAID}
use Rattle.ticklab_page.specs.declared.script.TheConstants.{ROUNDS, SCRIPT, SCRIPT_END}
use Rattle.ticklab_page.specs.declared.style.TheConstants.{OPENING, OPENING_END, ROUNDS_SUM, SCRIPT_SUM, SHEET}

-- what is so only where the run goes round for ever
abbrev pub of_round : Option Parts → List ℕ → List ℕ
of_round None text = []
of_round (Some parts) text = markup text

-- the head of a page, which runs its own script alone
abbrev pub script_sum : Option Parts → List ℕ
script_sum None = SCRIPT_SUM.now
script_sum (Some parts) = ROUNDS_SUM.now

unfoldable pub opening_text : Option Parts → List ℕ
opening_text parts = markup OPENING.now ++ markup (script_sum parts) ++ markup OPENING_END.now

unfoldable pub title_text : Option Parts → List ℕ → List ℕ
title_text parts title =
    opening_text parts ++ markup SHEET.now ++ markup (codes "<title>") ++ shown title ++ markup (codes ": a run</title>\n</head>\n<body>\n<h1>") ++ shown title ++ markup (codes "</h1>\n")

-- after which step the round begins
abbrev pub loop_start : Option Parts → List ℕ
loop_start None = []
loop_start (Some parts) = around (codes " data-loop=\"") parts.cycle (codes "\"")

-- where the page opens and the round begins
unfoldable pub run_head : ℕ → Option Parts → List ℕ
run_head opened parts = around (codes "<p id=\"run\" data-open=\"") opened (codes "\"") ++ loop_start parts ++ markup (codes ">")

-- the same, how many steps there are, and how many processes
unfoldable pub about : ℕ → Option Parts → ℕ → ℕ → List ℕ
about opened parts count n =
    run_head opened parts ++ around [] count [] ++ around (codes " steps of a run; processes: ") n (codes "</p>\n")

unfoldable pub step_link : ℕ → List ℕ
step_link number = twice (codes "<a href=\"#step-") number (codes "\">step ") (codes "</a>")

-- the link to a step between markup
unfoldable pub linked : List ℕ → ℕ → List ℕ → List ℕ
linked before step after = markup before ++ step_link step ++ markup after

abbrev pub trap_text : Option ℕ → List ℕ
trap_text None = []
trap_text (Some step) = linked (codes "<p class=\"fault\">A process traps at ") step (codes ".</p>\n")

unfoldable pub broken_at : ℕ → List ℕ
broken_at step = linked (codes "<p class=\"fault\">After ") step (codes " this breaks, which must never hold: <code>")

abbrev pub broken_text : Option Broken → List ℕ
broken_text None = []
broken_text (Some b) = broken_at b.steps ++ shown b.text ++ markup (codes "</code></p>\n")

-- a large picture is closed at first
abbrev pub details_head : ℕ → List ℕ
details_head count = if nat_le count 2000 then codes "<details open>\n" else codes "<details>\n"

unfoldable pub picture_text : ℕ → List ℕ → List ℕ
picture_text count drawn =
    markup (codes "<section>\n<h2>Picture</h2>\n") ++ markup (details_head count) ++ markup PICTURE_TOP.now
    ++ drawn ++ markup (codes "</div>\n</details>\n</section>\n")

unfoldable pub changes_text : List ℕ → List ℕ
changes_text changes = markup (codes "<pre id=\"changes\" hidden>\n") ++ changes ++ markup (codes "</pre>\n")

-- the button that opens and closes all rows, where there are some
abbrev pub fold_button : List Row → List ℕ
fold_button [] = []
fold_button (row ∷ rows) = markup FOLD_BUTTON.now

-- the buttons and the sentences that are read out
unfoldable pub buttons_text : Option Parts → List Row → List ℕ
buttons_text parts folds =
    markup BUTTONS.now ++ of_round parts ROUND_BUTTONS.now ++ fold_button folds ++ markup SAID.now ++ of_round parts ROUND_SAID.now
    ++ markup BUTTONS_END.now

unfoldable pub script_text : Option Parts → List ℕ
script_text parts = markup SCRIPT.now ++ of_round parts ROUNDS.now ++ markup SCRIPT_END.now

unfoldable pub top_text : ShownRun → Option Broken → List ℕ
top_text run broken =
    title_text run.parts run.title
    ++ about (opened_at run.trap (option_map (λ b. b.steps) broken)) run.parts run.count run.processes
    ++ trap_text run.trap ++ broken_text broken ++ buttons_text run.parts run.folds

unfoldable pub page_text : ShownRun → Option Broken → List ℕ
page_text run broken =
    top_text run broken ++ table_text run.is_code run.processes run.rows run.scans run.variables
    ++ listing_text run.is_code run.listing ++ steps_text run.parts run.folds run.trace
    ++ picture_text run.count run.drawn
    ++ changes_text run.changes ++ script_text run.parts

abbrev pub letters : List Name → List (List ℕ)
letters names = map (λ x. x.letters) names

-- the rows of private steps, where these are folded
abbrev pub folded : Bool → List Row → List Row
folded false rows = []
folded true rows = rows

-- The page of the steps of a program, which have these parts. Its text is this, in which its statements stand so. Private steps
-- may be folded.
unfoldable pub source_page : List ℕ → Bool → List ℕ → WholeProgram Name → List Standing → Option Parts → List StatementStep → List ℕ → Option Broken → List ℕ
source_page title is_shared text a spots parts steps drawn broken = page_text (record {
  title = title;
  processes = a.processes;
  is_code = false;
  rows = letters a.registers;
  scans = letters a.scans;
  variables = letters a.variables;
  listing = lines text;
  parts = parts;
  folds = folded is_shared (statement_rows parts 0 steps);
  trace = statement_lines a spots None 0 steps;
  count = length steps;
  trap = first_trap 1 (map (λ step. step.act) steps);
  changes = change_lines (map (of_statement spots) steps);
  drawn = drawn;
}) broken

-- that of the steps of its code
unfoldable pub code_page : List ℕ → Bool → WholeProgram Name → StepCode → List InstructionStep → List ℕ → List ℕ
code_page title is_shared a code steps drawn = page_text (record {
  title = title;
  processes = a.processes;
  is_code = true;
  rows = letters a.registers;
  scans = letters a.scans;
  variables = [];
  listing = map instr_text code.instructions;
  parts = None;
  folds = folded is_shared (instruction_rows steps);
  trace = instruction_lines a 0 steps;
  count = length steps;
  trap = first_trap 1 (map (λ step. step.act) steps);
  changes = change_lines (map of_instruction steps);
  drawn = drawn;
}) None
