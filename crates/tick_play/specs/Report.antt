-- What a run let others see, as a text: a line for each event, register row and process.
use Rattle.std.specs.Prelude.{ℕ, List, [], ◌∷◌, ◌++◌, codes, length, map, take}
use Rattle.std.specs.Fmt.{decimal}
use Rattle.base.specs.Lines.{line_end, spaced}
use Rattle.base.specs.Plain.{WholeProgram}
use Rattle.code_core.specs.Instructions.{StepCode}
use Rattle.base.specs.declared.event.Act.{Act}
use Rattle.base.specs.declared.event.Act.TheVariants as A
use Rattle.base.specs.declared.event.Event.{Event}
use Rattle.base.specs.Observables.{Observables}
use Rattle.code_machine.specs.Machine.{run_of, observables as observables_of_code}
use Rattle.tick_source.specs.Source.{source, observables}
use Rattle.tick_play.specs.Lines.{register_lines, status_lines, status_text, trap_text}

-- what a process of `n` did; of the ranks of a scan those of the processes that there are
abbrev pub act_text : ℕ → Act → List ℕ
act_text n (A.Put r v) = codes " put " ++ decimal r ++ codes " " ++ decimal v
act_text n (A.Get r i v) = codes " get " ++ decimal r ++ codes " " ++ decimal i ++ codes " " ++ decimal v
act_text n A.Stamp = codes " stamp"
act_text n A.Clear = codes " clear"
act_text n (A.Scan ranks) = codes " scan" ++ spaced (map decimal (take n ranks))
act_text n (A.Older i j answer) = codes " older " ++ decimal i ++ codes " " ++ decimal j ++ codes " " ++ decimal answer
act_text n (A.Held i answer) = codes " held " ++ decimal i ++ codes " " ++ decimal answer
act_text n (A.Out v) = codes " out " ++ decimal v
act_text n (A.Trap t) = codes " trap " ++ trap_text t
act_text n A.End = codes " end"

abbrev pub event_line : ℕ → Event → List ℕ
event_line n event = decimal event.process ++ act_text n event.act ++ line_end

abbrev pub event_lines : ℕ → List Event → List ℕ
event_lines n [] = []
event_lines n (event ∷ events) = event_line n event ++ event_lines n events

abbrev pub report : Observables → List ℕ
report o = event_lines (length o.statuses) o.events ++ register_lines o.rows ++ status_lines 0 (map status_text o.statuses)

-- the program under this schedule
abbrev pub source_report : WholeProgram ℕ → List ℕ → List ℕ
source_report a schedule = report (observables (source a schedule))

-- the code under this schedule
abbrev pub code_report : StepCode → List ℕ → List ℕ
code_report c schedule = report (observables_of_code (run_of c.sizes c.instructions schedule))
