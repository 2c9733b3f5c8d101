-- A run as a page has it.
use Rattle.std.specs.Prelude.{ℕ, Bool, List, map, Option}
use Rattle.ticklab_trace.specs.declared.folds.Row.{Row}
use Rattle.ticklab_trace.specs.declared.parts.Parts.{Parts}
use Rattle.ticklab_draw.specs.Words.{names}
use Rattle.ticklab_page.specs.declared.page.Run.{Run}

-- Its title, how many processes there are, whether the run is one of the code, the names of registers, scans and variables,
-- the lines of the text that is shown, the parts of the run, the rows of private steps that are folded, the trace, how many
-- steps there are, the first that traps, what the steps changed, and the picture.
pub record ShownRun : Type 0 where
  pub title : List ℕ
  pub processes : ℕ
  pub is_code : Bool
  pub rows : List (List ℕ)
  pub scans : List (List ℕ)
  pub variables : List (List ℕ)
  pub listing : List (List ℕ)
  pub parts : Option Parts
  pub folds : List Row
  pub trace : List ℕ
  pub count : ℕ
  pub trap : Option ℕ
  pub changes : List ℕ
  pub drawn : List ℕ

-- what the code holds of it
abbrev pub run_of : Run → ShownRun
run_of run = record {
  title = run.title.now;
  processes = run.processes;
  is_code = run.is_code;
  rows = names run.rows.now;
  scans = names run.scans.now;
  variables = names run.variables.now;
  listing = map (λ x. x.now) run.listing.now;
  parts = run.parts;
  folds = run.folds.now;
  trace = run.trace.now;
  count = run.count;
  trap = run.trap;
  changes = run.changes.now;
  drawn = run.drawn.now;
}
