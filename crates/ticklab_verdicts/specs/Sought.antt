-- A program that is searched for faults.
use Rattle.std.specs.Prelude.{◌≡◌, ◌<◌, ℕ, List, length, map}
use Rattle.std.specs.List.{All}
use Rattle.base.specs.Plain.{Name, WholeProgram}
use Rattle.language_properties.specs.Properties.{Formula}
use Rattle.tick_kinds.specs.Resolution.{resolved}
use Rattle.searches_explore.specs.Lines.{lines_of}
use Rattle.ticketc_refusals.specs.Refusals.{SpelledIn}
use Rattle.ticklab_json.specs.declared.found.Loop.{Loop}
use Rattle.ticklab_files.specs.Asking.{AsksNever, TextPlace, place_of, places_by}
use Rattle.ticklab_line.specs.declared.asking.Output.{Output}
use Rattle.ticklab_verdicts.specs.declared.search.Search.{Search}

-- The program that an input is, the lines that must never hold of it, where each stands, and what is printed of the answer.
pub record Sought : Type 0 where
  pub input : List ℕ
  pub program : WholeProgram Name
  pub lines : List Formula
  pub places : List TextPlace
  pub output : Output

-- of a file of this name, with these texts of a command line
abbrev pub sought_of : (name : List ℕ) (texts : List (List ℕ)) (output : Output) (input : List ℕ) → AsksNever texts input → Sought
sought_of name texts output input asks = record {
  input = input;
  program = asks.file.program;
  lines = asks.lines;
  places = places_by name input asks.file.asked texts;
  output = output;
}

-- as the code holds it
abbrev pub sought_by : Search → Sought
sought_by s = record {
  input = s.input.now;
  program = s.spelled.now.program;
  lines = lines_of s.lines.now.properties.items;
  places = map place_of s.lines.now.places.items;
  output = s.output;
}

-- The input is this program, and each line has its place.
pub record IsSound (s : Search) : Type 0 where
  pub program : SpelledIn s.input.now s.spelled.now
  pub as_many : length s.lines.now.properties.items ≡ length s.lines.now.places.items

-- a schedule of its processes
abbrev pub IsLawful : Search → List ℕ → Type 0
IsLawful s = All (λ p. p < (resolved s.spelled.now.program).processes)

-- each schedule is of so many processes
pub record AreLawful (n : ℕ) (l : Loop) : Type 0 where
  pub schedule : All (λ p. p < n) l.schedule.now
  pub lead_in : All (λ p. p < n) l.lead_in.now
  pub cycle : All (λ p. p < n) l.cycle.now
