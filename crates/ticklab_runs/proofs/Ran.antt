-- The run of an input and a text, and why there is none.
use Rattle.std.proofs.Common.{◌≡◌, ◌<◌, ◌++◌, ℕ, Bool, List, Option, Result, IfErr, IsErrAnd, length, subst, sym}
use Rattle.std.specs.List.{All}
use Rattle.std.proofs.lemmas.List.Elements.{All-append}
use Rattle.base.specs.Plain.{Name, WholeProgram}
use Rattle.language_properties.specs.Properties.{Formula}
use Rattle.language_questions.specs.declared.questions.EndsLines.{EndsLines}
use Rattle.ticklab_line.specs.declared.commands.Side.{Side}
use Rattle.ticklab_files.specs.Asking.{AsksNever, TextPlace}
use Rattle.ticklab_files.specs.Codes.{IsCodeless}
use Rattle.ticklab_files.specs.Asking.{IsUnexplored, no_file, no_option}
use Rattle.ticklab_files.specs.Reading.{AfterBoth, AfterTexts, AreTexts, IsRead, IsSchedule, ReadsOf, ReadsInputOf, is_input}
use Rattle.ticklab_trace.specs.declared.parts.Parts.{Parts}
use Rattle.ticklab_runs.specs.Parts.{parts_of}
use Rattle.ticklab_runs.specs.Runs.{IsRun, IsTooLong, IsUnrun, Told, code_refused, file_refused, is_of_code, option_refused, schedule_on, too_long, way_refused}
use Rattle.ticklab_files.specs.Stops.{IfRefused}
use Rattle.ticklab_files.specs.Ways.{AreMisspelled, AreSpelled, AreSteps, Texts}
use Rattle.ticklab_files.specs.declared.ways.Way.{Way}
use Rattle.ticklab_runs.specs.declared.told_run.Telling.{Telling}
use Rattle.ticklab_files.specs.declared.stop.NoAnswer.{NoAnswer}
use Rattle.ticklab_files.specs.prover.Asked.{IsAsked}
use Rattle.ticklab_files.proofs.ProgramFiles.{asks_of}
use Rattle.ticklab_files.proofs.Responding.{refused_as, stopped_by}

pub run_by : {texts : List (List ℕ)} {input : List ℕ} (side : Side) (P : Told texts input) (asks : AsksNever texts input) (given : Texts)
    → (n : ℕ) → n ≡ asks.file.program.processes → (schedule lead_in cycle steps : List ℕ) → AreSpelled n given schedule lead_in cycle
    → steps ≡ schedule_on side asks.file.program (schedule ++ lead_in ++ cycle)
    → (parts : Option Parts) → parts ≡ parts_of (length schedule) (length cycle) (length (schedule ++ lead_in ++ cycle))
    → (out told : List ℕ) → told ≡ out → P asks parts steps out → IsRun side P given told
run_by side P asks given n count schedule lead_in cycle steps spelled same parts parted out told told_is held = record {
  asks = asks;
  schedule = schedule;
  lead_in = lead_in;
  cycle = cycle;
  spelled = subst (λ m. AreSpelled m given schedule lead_in cycle) count spelled;
  told =
      let whole = schedule_on side asks.file.program (schedule ++ lead_in ++ cycle) in
      subst (λ (p : Option Parts). P asks p whole told) parted (subst (P asks parts whole) (sym told_is) (subst (λ s. P asks parts s out) same held));
}

-- all steps of a way that the texts spell
pub all_spelled : (given : Texts) (n : ℕ) (way : Way) (all : List ℕ) → AreSpelled n given way.schedule.items way.lead_in.items way.cycle.items
    → all ≡ way.schedule.items ++ way.lead_in.items ++ way.cycle.items → AreSteps n given all
all_spelled given n way all spelled same = (way.schedule.items, way.lead_in.items, way.cycle.items, spelled, same)

pub all_in_range : (n m : ℕ) → n ≡ m → (schedule lead_in cycle all : List ℕ) → All (λ p. p < n) schedule → All (λ p. p < n) lead_in → All (λ p. p < n) cycle
    → all ≡ schedule ++ lead_in ++ cycle → All (λ p. p < m) all
all_in_range n m count schedule lead_in cycle all first second third same =
    subst (λ (k : ℕ). All (λ p. p < k) all) count (subst (All (λ p. p < n)) (sym same)
    (All-append (λ p. p < n) (schedule ++ lead_in) cycle (All-append (λ p. p < n) schedule lead_in first second) third))

-- Each is a reason why it isn't made.

pub unexplored_unrun : (telling : Telling (List ℕ)) (name : List ℕ) (texts : List (List ℕ)) (input from : List ℕ) (given : Texts) (side : Side) (report : List ℕ)
    → IsUnexplored name texts input report → IsUnrun telling name texts input from given side report
unexplored_unrun telling name texts input from given side report (no_file told) = file_refused told
unexplored_unrun telling name texts input from given side report (no_option is told) = option_refused is told

-- and a `?` hands these on
module _ {name : List ℕ} {texts : List (List ℕ)} {input : List ℕ} {a : WholeProgram Name} {ends : EndsLines} {lines : List Formula} {places : List TextPlace}
    (known : IsAsked name texts input a ends lines places) (telling : Telling (List ℕ)) (from : List ℕ) (given : Texts) (side : Side) (n : ℕ) (count : n ≡ a.processes)
    {T : Type 0} (r : Result T NoAnswer) (stop : NoAnswer) (handed : IsErrAnd r (λ d. d ≡ stop)) where
  pub way_unrun : IfRefused stop (AreMisspelled n from given) → IfErr r (λ d. IfRefused d (IsUnrun telling name texts input from given side))
  way_unrun unread =
      stopped_by (IsUnrun telling name texts input from given side) stop r handed
      (refused_as stop (λ report told. way_refused (asks_of known).file (subst (λ m. AreMisspelled m from given report) count told)) unread)

  pub code_unrun : (is_code : Bool) → is_code ≡ is_of_code side → (steps : List ℕ) → AreSteps n given steps → IfRefused stop (IsCodeless is_code name a)
      → IfErr r (λ d. IfRefused d (IsUnrun telling name texts input from given side))
  code_unrun is_code is steps spelled codeless =
      stopped_by (IsUnrun telling name texts input from given side) stop r handed
      (refused_as stop (λ report none. code_refused (asks_of known).file steps (subst (λ m. AreSteps m given steps) count spelled)
      (subst (λ b. IsCodeless b name a report) is none)) codeless)

  pub long_unrun : (steps : List ℕ) → AreSteps n given steps → (many : ℕ) → many ≡ length (schedule_on side a steps)
      → IfRefused stop (IsTooLong telling from many) → IfErr r (λ d. IfRefused d (IsUnrun telling name texts input from given side))
  long_unrun steps spelled many long refused =
      stopped_by (IsUnrun telling name texts input from given side) stop r handed
      (refused_as stop (λ report told. too_long (asks_of known).file steps (subst (λ m. AreSteps m given steps) count spelled)
      (subst (λ (k : ℕ). IsTooLong telling from k report) long told)) refused)

-- a file was read, and then a schedule
pub read_both : {F : Type 0} (Reads : ReadsOf F) (ReadsInput : ReadsInputOf F) (before between after : F) (file schedule input from text : List ℕ)
    (P : List ℕ → List ℕ → List ℕ → Type 0) → IsRead Reads ReadsInput before file input between
    → (is_read : Bool) → is_read ≡ is_input file → IsSchedule Reads ReadsInput is_read between after schedule from text
    → P input from text → AfterBoth Reads ReadsInput before after file schedule P
read_both Reads ReadsInput before between after file schedule input from text P read is_read is given held =
    (input, between, read, from, text, subst (λ b. IsSchedule Reads ReadsInput b between after schedule from text) is given, held)

-- and then the texts of a way
pub read_texts : {F : Type 0} (Reads : ReadsOf F) (ReadsInput : ReadsInputOf F) (before between after : F) (file schedule input from : List ℕ) (texts : Texts)
    (P : List ℕ → List ℕ → Texts → Type 0) → IsRead Reads ReadsInput before file input between
    → (is_read : Bool) → is_read ≡ is_input file → AreTexts Reads ReadsInput is_read between after schedule from texts
    → P input from texts → AfterTexts Reads ReadsInput before after file schedule P
read_texts Reads ReadsInput before between after file schedule input from texts P read is_read is given held =
    (input, between, read, from, texts, subst (λ b. AreTexts Reads ReadsInput b between after schedule from texts) is given, held)
