-- The texts of a way: a schedule; the steps that lead on from where it ends; and those of a round, which repeat for ever.
-- Where there are no such steps the text is that of none.
use Rattle.std.specs.Prelude.{◌≡◌, ℕ, List, [], ◌∷◌, ◌++◌, Option, None, Ok, codes, eqb, if◌then◌else◌, Some, option_and_then, option_map, string_bytes, unwrap_or}
use Rattle.std.specs.List.{ends_with, slice_split, starts_with}
use Rattle.serde_json.specs.Data.{Data}
use Rattle.serde_json.specs.Find.{as_str, get}
use Rattle.serde_json.specs.Read.{read as read_text}
use Rattle.language_schedules.specs.Schedule.{schedule_of}
use Rattle.ticketc_refusals.specs.Refusals.{IsScheduleRefused}
use Rattle.ticklab_explain.specs.Reports.{TellsFor}
use Rattle.ticklab_files.specs.declared.ways.ScheduleTexts.{ScheduleTexts}

pub record Texts : Type 0 where
  pub schedule : List ℕ
  pub lead_in : List ℕ
  pub cycle : List ℕ

-- what the code holds of it
abbrev pub held : ScheduleTexts → Texts
held texts = record { schedule = string_bytes texts.schedule; lead_in = string_bytes texts.lead_in; cycle = string_bytes texts.cycle }

-- a schedule alone
abbrev pub alone : List ℕ → Texts
alone text = record { schedule = text; lead_in = []; cycle = [] }

abbrev pub first_of : List (List ℕ) → List ℕ
first_of [] = []
first_of (line ∷ lines) = line

-- The line behind the first of these that begins so. Of each line before it its end is left, so that places in it are those
-- of the whole text.
abbrev pub line_behind : List ℕ → List (List ℕ) → List ℕ
line_behind start [] = []
line_behind start (line ∷ lines) = 10 ∷ (if starts_with eqb line start then first_of lines else line_behind start lines)

-- An answer has its schedule in the second line, where the first ends in a colon. Other steps stand behind lines that say
-- what they are.
abbrev pub answer_texts : List ℕ → List (List ℕ) → Texts
answer_texts schedule lines = record {
  schedule = 10 ∷ schedule;
  lead_in = 10 ∷ 10 ∷ line_behind (codes "then these steps:") lines;
  cycle = 10 ∷ 10 ∷ line_behind (codes "then these again and again") lines;
}

abbrev pub answer_behind : List ℕ → List ℕ → List (List ℕ) → Option Texts
answer_behind line schedule lines = if ends_with eqb line (codes ":") then Some (answer_texts schedule lines) else None

abbrev pub answer_in : List (List ℕ) → Option Texts
answer_in [] = None
answer_in (line ∷ []) = None
answer_in (line ∷ schedule ∷ lines) = answer_behind line schedule lines

-- a text that an answer in JSON has under this key
abbrev pub text_at : List ℕ → Data → Option (List ℕ)
text_at key answer = option_and_then as_str (get key answer)

abbrev pub object_texts : Data → Option Texts
object_texts answer = option_map (λ schedule. record {
  schedule = schedule;
  lead_in = unwrap_or (text_at (codes "lead_in") answer) [];
  cycle = unwrap_or (text_at (codes "cycle") answer) [];
}) (text_at (codes "schedule") answer)

abbrev pub json_texts : List ℕ → Option Texts
json_texts text = if starts_with eqb text (codes "{") then option_and_then object_texts (read_text text) else None

-- what stands before, between and behind the line feeds of a text
abbrev pub lines : List ℕ → List (List ℕ)
lines text = slice_split (λ byte. eqb byte 10) text

-- The texts in that of a file: those of an answer in JSON that has a schedule, or of an answer in lines; all else is a schedule.
abbrev pub texts_in : List ℕ → Texts
texts_in text = unwrap_or (json_texts text) (unwrap_or (answer_in (lines text)) (alone text))

-- They spell these steps of so many processes.
pub record AreSpelled (n : ℕ) (texts : Texts) (schedule lead_in cycle : List ℕ) : Type 0 where
  pub first : schedule_of n texts.schedule ≡ Ok schedule
  pub second : schedule_of n texts.lead_in ≡ Ok lead_in
  pub third : schedule_of n texts.cycle ≡ Ok cycle

-- the steps of all, one after the other
abbrev pub AreSteps : ℕ → Texts → List ℕ → Type 0
AreSteps n texts steps =
    (schedule : List ℕ) × (lead_in : List ℕ) × (cycle : List ℕ) × AreSpelled n texts schedule lead_in cycle × (steps ≡ schedule ++ lead_in ++ cycle)

-- The report of those that spell none: it is of the first that doesn't.
pub data AreMisspelled (n : ℕ) (from : List ℕ) (texts : Texts) (report : List ℕ) : Type 0 where
  schedule_refused : TellsFor n (IsScheduleRefused n texts.schedule) from texts.schedule report → AreMisspelled n from texts report
  lead_in_refused : (schedule : List ℕ) → schedule_of n texts.schedule ≡ Ok schedule
      → TellsFor n (IsScheduleRefused n texts.lead_in) from texts.lead_in report → AreMisspelled n from texts report
  cycle_refused : (schedule lead_in : List ℕ) → schedule_of n texts.schedule ≡ Ok schedule → schedule_of n texts.lead_in ≡ Ok lead_in
      → TellsFor n (IsScheduleRefused n texts.cycle) from texts.cycle report → AreMisspelled n from texts report
