-- What a search has found, as an object.
use Rattle.std.specs.Prelude.{ℕ, Bool, List, [], ◌∷◌, codes, option_map, Option, Some, None}
use Rattle.language_schedules.specs.Written.{schedule_text}
use Rattle.serde_json.specs.Data.{Data, boolean, string, array, object, Members, no_members, member, put}
use Rattle.serde_json.specs.View.{items_of}
use Rattle.ticklab_json.specs.Hunts.{plan_members}
use Rattle.ticklab_json.specs.Members.{count, with_member}
use Rattle.ticklab_json.specs.Steps.{BrokenLine, break_data}
use Rattle.ticklab_json.specs.declared.found.Head.{Head}
use Rattle.ticklab_json.specs.declared.found.Head.TheVariants.{Says, Runs}

-- a line says it
abbrev pub says_members : List ℕ → Members
says_members line = member (codes "says") (string line) no_members

-- what stands beside a run: the line that says how it was found, or the runs of a hunt of which it is one
abbrev pub head_members : Head → Members
head_members (Says line) = says_members line.now
head_members (Runs plan from) = plan_members plan from

-- A run that was found: its schedule, what each step did, and the line that breaks after it, where one does.
pub record FoundRun : Type 0 where
  pub schedule : List ℕ
  pub trace : List Data
  pub broken : Option BrokenLine

-- a process traps, or a line breaks
abbrev pub fault_text : Option BrokenLine → List ℕ
fault_text None = codes "trap"
fault_text (Some b) = codes "never"

abbrev pub with_run : FoundRun → Members → Members
with_run run members =
    with_member (codes "breaks") (option_map break_data run.broken)
    (put (codes "trace") (array (items_of run.trace))
    (put (codes "schedule") (string (schedule_text run.schedule))
    (put (codes "answer") (string (fault_text run.broken)) members)))

abbrev pub run_data : Members → FoundRun → Data
run_data head run = object (with_run run head)

-- No schedule is shown. There are so many states between steps of this kind, or more than so many; and so many lines must
-- never hold.
abbrev pub states_data : List ℕ → List ℕ → Bool → ℕ → ℕ → Data
states_data answer says is_merged states lines =
    object (member (codes "answer") (string answer) (member (codes "merged") (boolean is_merged)
    (member (codes "never_lines") (count lines) (member (codes "says") (string says) (member (codes "states") (count states) no_members)))))

-- Steps that repeat for ever: the schedule that leads there, the steps that lead on, those that repeat, and what each of
-- all these did.
pub record FoundLoop : Type 0 where
  pub schedule : List ℕ
  pub lead_in : List ℕ
  pub cycle : List ℕ
  pub trace : List Data

-- the steps that lead on, where there are some
abbrev pub lead_in_data : List ℕ → Option Data
lead_in_data [] = None
lead_in_data (p ∷ lead_in) = Some (string (schedule_text (p ∷ lead_in)))

abbrev pub loop_members : List ℕ → List ℕ → FoundLoop → Members
loop_members answer says found =
    with_member (codes "lead_in") (lead_in_data found.lead_in)
    (member (codes "answer") (string answer) (member (codes "cycle") (string (schedule_text found.cycle))
    (member (codes "says") (string says) (member (codes "schedule") (string (schedule_text found.schedule))
    (member (codes "trace") (array (items_of found.trace)) no_members)))))

abbrev pub loop_data : List ℕ → List ℕ → FoundLoop → Data
loop_data answer says found = object (loop_members answer says found)
