-- What `trace` answers as JSON: an object for each step of the program that an input is.
use Rattle.std.specs.Prelude.{◌≡◌, ℕ, Bool, List, Option, Some, length, min}
use Rattle.std.specs.Str.Lossy.{utf8_lossy}
use Rattle.base.specs.Plain.{Name, WholeProgram}
use Rattle.language_properties.specs.Values.{Valued}
use Rattle.ticklab_explain.specs.Places.{IsPlace}
use Rattle.ticklab_explain.specs.declared.place.Place.{Place}
use Rattle.ticklab_json.specs.Steps.{BrokenLine, statement_objects}
use Rattle.ticklab_trace.specs.declared.parts.Parts.{Parts}
use Rattle.ticklab_trace.specs.declared.steps.StatementStep.{StatementStep}
use Rattle.ticklab_trace.specs.Places.{Standing}
use Rattle.ticklab_files.specs.Asking.{TextPlace}
use Rattle.ticklab_runs.specs.Breaking.{BrokenAt, text_at}

-- a line that breaks after so many steps, where it stands, and what it comes to; bytes of its text that are no UTF-8 as U+FFFD
abbrev pub broken_line : TextPlace → Place → ℕ → Valued → BrokenLine
broken_line place at steps value = record {
  steps = steps;
  file = place.name;
  line = at.line;
  column = at.column;
  text = utf8_lossy (text_at place);
  value = value;
}

-- The objects of these steps of a program, whose statements stand there, with the line that is broken; perhaps each tells
-- whether its step is private.
pub record AreBrokenObjects (tells : Bool) (found : BrokenAt) (a : WholeProgram Name) (spots : List Standing) (parts : Option Parts) (steps : List StatementStep) (out : List ℕ) : Type 0 where
  pub at : Place
  pub is_place : IsPlace found.place.text (min found.place.span.start (length found.place.text)) at
  pub objects : out ≡ statement_objects a spots parts tells (Some (broken_line found.place at found.broken.steps found.broken.value)) steps
