-- The outcome of a run on threads is shown by the program.
use Rattle.std.proofs.Common.{◌≡◌, ℕ, true, List, [], get_or, ap, sym, ◌∙◌, arith, Option, Some}
use Rattle.std.specs.Prelude.{slice_get, option_map}
use Rattle.std.proofs.lemmas.Option.{slice_get_within, slice_get-get_or, slice_get-map}
use Rattle.base.specs.declared.status.Status.{Status}
use Rattle.base.specs.declared.status.Status.TheVariants as S
use Rattle.base.specs.declared.run_outcome.RunEnd.{RunEnd}
use Rattle.base.specs.declared.run_outcome.RunEnd.TheVariants.{Ended, Trapped, TurnsSpent, OutputsFull}
use Rattle.base.specs.Observables.{Observables, RunObservables}
use Rattle.base.specs.Plain.{WholeProgram}
use Rattle.code_core.specs.Instructions.{StepCode}
use Rattle.code_core.specs.declared.instr.Instr.{Instr}
use Rattle.code_machine.specs.Machine.{CodeProcess}
use Rattle.code_machine.specs.Process.{gives_out}
use Rattle.tick_merge.specs.Local.{outputs_of}
use Rattle.tick_merge.specs.Ran.{run_under, events_by}
use Rattle.tick_lower.specs.Lowered.{lowered, lowered_sizes}
use Rattle.tick_sim.specs.Laws.{seen, seen_of_code}
use Rattle.tick_sim.specs.Maps.{dropped}
use Rattle.tick_sim.proofs.Offered.{drop_law}
use Rattle.tick_merge.specs.Runs.{EndsAs, IsWholeRun}
use Rattle.threads_source.specs.Shown.{status_of, ShowsOutcome}
use Rattle.threads_source.specs.Laws.{code_of, ThreadedSourceLaw}

-- a process that gives something out goes on
gives_running : (s : Status) (next : Option Instr) → gives_out s next ≡ true → s ≡ S.Running
gives_running S.Running next gives = λ i. S.Running
gives_running _ next gives = absurd (cc)

ends_by : (end : RunEnd) (c : StepCode) (q : CodeProcess) (count turns given outs : ℕ) → EndsAs end c q count turns given outs → q.status ≡ status_of end
ends_by Ended c q count turns given outs ends = ends
ends_by (Trapped t) c q count turns given outs ends = ends
ends_by TurnsSpent c q count turns given outs ends = ends.0
ends_by OutputsFull c q count turns given outs ends = gives_running q.status (slice_get c.instructions q.place) ends.2

module _ (a : WholeProgram ℕ) (turns outs : ℕ) (o : RunObservables) (run : IsWholeRun (code_of a) turns outs o) where
  same : seen_of_code a run.schedule ≡ seen a (dropped (lowered_sizes a) (lowered a) run.schedule)
  same = drop_law a run.schedule

  -- each output list has its end, and each end its outputs
  end_there : (p : ℕ) (given : List ℕ) → slice_get o.outputs p ≡ Some given → slice_get o.ends p ≡ Some (get_or o.ends p Ended)
  end_there p given at =
      slice_get-get_or o.ends p Ended (omega (arith, slice_get_within o.outputs p given at, run.all_outputs, run.all_ends))

  outputs_there : (p : ℕ) (end : RunEnd) → slice_get o.ends p ≡ Some end → slice_get o.outputs p ≡ Some (get_or o.outputs p [])
  outputs_there p end at =
      slice_get-get_or o.outputs p [] (omega (arith, slice_get_within o.ends p end at, run.all_outputs, run.all_ends))

  shows : ShowsOutcome a (dropped (lowered_sizes a) (lowered a) run.schedule) o
  shows = record {
    all_outputs = run.all_outputs;
    all_ends = run.all_ends;
    outputs = λ p given at.
        (run.each p given (get_or o.ends p Ended) at (end_there p given at)).gave
        ∙ ap (λ (x : Observables). outputs_of (events_by p x.events)) same;
    ends = λ p end at.
        let ended = run.each p (get_or o.outputs p []) end (outputs_there p end at) at in
        ap (λ (x : Observables). slice_get x.statuses p) (sym same)
        ∙ slice_get-map (λ (q : CodeProcess). q.status) (run_under (code_of a) run.schedule).processes p
        ∙ ap (option_map (λ (q : CodeProcess). q.status)) ended.there
        ∙ ap Some (ends_by end (code_of a) ended.process _ turns _ outs ended.ends_as);
    registers = run.registers ∙ ap (λ (x : Observables). x.rows) same;
  }

pub threaded_source_law : ThreadedSourceLaw
threaded_source_law = shows
