-- Properties of the states of a code: its labels tell who holds a ticket, and which of two is older. A program and its
-- code give each property the same value.
use Rattle.std.specs.Prelude.{◌≡◌, ℕ, List}
use Rattle.base.specs.Plain.{WholeProgram}
use Rattle.word_core.specs.Order.{older_label}
use Rattle.word_core.specs.Stamps.{is_present, label_at}
use Rattle.tick_source.specs.Source.{source}
use Rattle.language_properties.specs.Properties.{Formula}
use Rattle.language_properties.specs.Seen.{seen_of}
use Rattle.language_properties.specs.Values.{SeenState, Valued, value}
use Rattle.code_machine.specs.Machine.{CodeState, run_of, statuses_of}
use Rattle.tick_lower.specs.Lowered.{lowered, lowered_sizes}
use Rattle.tick_sim.specs.Maps.{dropped, lifted}

-- what all can see of a code's state
abbrev pub seen_by_labels : CodeState → SeenState
seen_by_labels s = record {
  holds = λ p. is_present (label_at s.labels p);
  is_older = older_label s.labels;
  rows = s.rows;
  statuses = statuses_of s;
}

-- the state of a program's code after a schedule of the code
abbrev pub code_state_after : WholeProgram ℕ → List ℕ → CodeState
code_state_after a schedule = run_of (lowered_sizes a) (lowered a) schedule

-- The value of a property after a schedule of a program, and after one of its code. `processes` are those that its
-- quantifiers go through.
module _ (a : WholeProgram ℕ) (processes : List ℕ) (e : Formula) where
  abbrev pub value_after : List ℕ → Valued
  value_after schedule = value (seen_of (source a schedule)) processes e

  abbrev pub code_value_after : List ℕ → Valued
  code_value_after schedule = value (seen_by_labels (code_state_after a schedule)) processes e

-- After every schedule of the code a property has the value that it has in the program after the schedule that this one
-- stands for; and after every schedule of the program the value that it has in the code after the one that leads through
-- it.
pub record PropertiesLaw : Type 0 where
  pub dropped : (a : WholeProgram ℕ) (processes : List ℕ) (e : Formula) (schedule : List ℕ)
      → code_value_after a processes e schedule ≡ value_after a processes e (dropped (lowered_sizes a) (lowered a) schedule)
  pub lifted : (a : WholeProgram ℕ) (processes : List ℕ) (e : Formula) (schedule : List ℕ)
      → value_after a processes e schedule ≡ code_value_after a processes e (lifted (lowered_sizes a) (lowered a) schedule)
