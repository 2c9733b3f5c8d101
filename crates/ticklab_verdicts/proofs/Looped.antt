-- What `lasso` answers, from what was found and what the answer shows of it.
-- The idea. `lasso_told` goes by cases of what was found: each has its own form of answer. `checked_by` and `way_checked_by` say
-- that the schedules were read for as many processes as the program of the file has, `prefix_unread`, `cycle_unread` and
-- `way_unread` the same of one that is no schedule.
-- Read `lasso_told` first, then `checked_by`.
use Rattle.std.proofs.Common.{◌≡◌, ◌<◌, ◌++◌, ℕ, List, Result, Ok, IfErr, IsErrAnd, Option, Some, None, IfNone, IfSome, subst, sym}
use Rattle.std.specs.List.{All}
use Rattle.std.proofs.lemmas.List.Elements.{All-append}
use Rattle.base.specs.Plain.{Name, WholeProgram}
use Rattle.tick_kinds.specs.Resolution.{resolved}
use Rattle.tick_source.specs.Source.{source}
use Rattle.language_schedules.specs.Schedule.{schedule_of}
use Rattle.searches_states.specs.declared.must_stop.MustStop.{MustStop}
use Rattle.searches_fairness.specs.Answer.{IfAllStopped, IfLasso, IfLeftOut, IfOpen}
use Rattle.searches_fairness.specs.Running.{running_of}
use Rattle.searches_fairness.specs.declared.lasso.LassoAnswer.{LassoAnswer}
use Rattle.searches_fairness.specs.declared.lasso.LassoAnswer.TheVariants as L
use Rattle.searches_explore.specs.Ending.{GoesOn, IsEndlessBy}
use Rattle.searches_explore.specs.Explored.{has_stopped}
use Rattle.searches_explore.specs.LassoExplored.{AllStoppedAfter, IsLeftOutOf, IsOpenAfter}
use Rattle.searches_explore.specs.Statements.{statements}
use Rattle.ticketc_refusals.specs.Refusals.{IsScheduleRefused}
use Rattle.ticklab_explain.specs.Reports.{TellsFor}
use Rattle.ticklab_files.specs.Asking.{IsProgramFile}
use Rattle.ticklab_verdicts.specs.Ends.{asked_by}
use Rattle.ticklab_verdicts.specs.Lasso.{IsChecked, IsLassoFound, IsUnchecked, IsWayChecked, IsWayUnchecked, ShowsLasso, all_stopped, cycle_refused, leads_on, left_out, loop, of_way, prefix_refused, too_long}
use Rattle.ticklab_files.specs.Stops.{IfRefused}
use Rattle.ticklab_files.specs.Ways.{AreMisspelled, AreSpelled, Texts}
use Rattle.ticklab_files.specs.declared.stop.NoAnswer.{NoAnswer}
use Rattle.ticklab_files.proofs.Responding.{refused_as, stopped_by}
use Rattle.ticklab_files.specs.declared.response.Response.{Response}

-- all that is known of what was found
pub lasso_told : (input : List ℕ) (a : WholeProgram Name) (asked : MustStop) (prefix cycle : List ℕ) (o : Option LassoAnswer) (x : Response)
    → IfSome o (λ e. IfLasso e (λ running. running ≡ running_of has_stopped (resolved a).processes (source (resolved a) prefix)))
    → IfSome o (λ e. IfLasso e (λ _. IsEndlessBy (resolved a) asked prefix cycle)) → IfSome o (λ e. IfLasso e (λ _. GoesOn (resolved a) asked prefix cycle))
    → IfSome o (λ e. IfAllStopped e (AllStoppedAfter (resolved a) asked prefix)) → IfSome o (λ e. IfLeftOut e (IsLeftOutOf (resolved a) prefix cycle))
    → IfSome o (λ e. IfOpen e (IsOpenAfter (resolved a) asked prefix cycle)) → IfNone o (268435455 < statements (resolved a).body)
    → ShowsLasso input a prefix cycle o x → IsLassoFound input a asked prefix cycle x
lasso_told input a asked prefix cycle (Some (L.Lasso running)) x run endless on stopped out onward long shows = loop running.items run endless on shows
lasso_told input a asked prefix cycle (Some L.AllStopped) x run endless on stopped out onward long shows = all_stopped stopped shows
lasso_told input a asked prefix cycle (Some (L.LeftOut p)) x run endless on stopped out onward long shows = left_out p out shows
lasso_told input a asked prefix cycle (Some L.Open) x run endless on stopped out onward long shows = leads_on onward shows
lasso_told input a asked prefix cycle None x run endless on stopped out onward long shows = too_long long shows

-- the texts were read for as many processes as the program of the file has, and this is found of them
pub checked_by : (input first second : List ℕ) (file : IsProgramFile input) (n : ℕ) → n ≡ file.program.processes
    → (prefix cycle given_prefix given_cycle : List ℕ) → schedule_of n first ≡ Ok prefix → schedule_of n second ≡ Ok cycle
    → given_prefix ≡ prefix → given_cycle ≡ cycle → (asked : MustStop) → asked ≡ asked_by file.asked.ends.fair None → (x : Response)
    → IsLassoFound input file.program asked given_prefix given_cycle x → IsChecked input first second x
checked_by input first second file n count prefix cycle given_prefix given_cycle spelled also same likewise asked is x found = record {
  is = file;
  prefix = prefix;
  cycle = cycle;
  prefix_spelled = subst (λ (m : ℕ). schedule_of m first ≡ Ok prefix) count spelled;
  cycle_spelled = subst (λ (m : ℕ). schedule_of m second ≡ Ok cycle) count also;
  found =
      subst (λ (to : MustStop). IsLassoFound input file.program to prefix cycle x) is
      (subst (λ (steps : List ℕ). IsLassoFound input file.program asked prefix steps x) likewise
      (subst (λ (steps : List ℕ). IsLassoFound input file.program asked steps given_cycle x) same found));
}

-- One of the texts is no schedule of so many processes, and a `?` hands that on.
module _ (name input first_from first second_from second : List ℕ) (file : IsProgramFile input) (n : ℕ) (count : n ≡ file.program.processes)
    {T : Type 0} (r : Result T NoAnswer) (stop : NoAnswer) (handed : IsErrAnd r (λ d. d ≡ stop)) where
  pub prefix_unread : IfRefused stop (TellsFor n (IsScheduleRefused n first) first_from first)
      → IfErr r (λ d. IfRefused d (IsUnchecked name input first_from first second_from second))
  prefix_unread unread =
      stopped_by (IsUnchecked name input first_from first second_from second) stop r handed
      (refused_as stop (λ report told. prefix_refused file (subst (λ (m : ℕ). TellsFor m (IsScheduleRefused m first) first_from first report) count told)) unread)

  pub cycle_unread : (prefix : List ℕ) → schedule_of n first ≡ Ok prefix → IfRefused stop (TellsFor n (IsScheduleRefused n second) second_from second)
      → IfErr r (λ d. IfRefused d (IsUnchecked name input first_from first second_from second))
  cycle_unread prefix spelled unread =
      stopped_by (IsUnchecked name input first_from first second_from second) stop r handed
      (refused_as stop (λ report told. cycle_refused file prefix (subst (λ (m : ℕ). schedule_of m first ≡ Ok prefix) count spelled)
      (subst (λ (m : ℕ). TellsFor m (IsScheduleRefused m second) second_from second report) count told)) unread)

-- The same of the way that the texts spell.
pub way_checked_by : (input : List ℕ) (given : Texts) (file : IsProgramFile input) (n : ℕ) → n ≡ file.program.processes
    → (schedule lead_in cycle given_prefix given_cycle : List ℕ) → AreSpelled n given schedule lead_in cycle
    → given_prefix ≡ schedule ++ lead_in → given_cycle ≡ cycle → (asked : MustStop) → asked ≡ asked_by file.asked.ends.fair None → (x : Response)
    → IsLassoFound input file.program asked given_prefix given_cycle x → IsWayChecked input given x
way_checked_by input given file n count schedule lead_in cycle given_prefix given_cycle spelled same likewise asked is x found = record {
  is = file;
  schedule = schedule;
  lead_in = lead_in;
  cycle = cycle;
  spelled = subst (λ (m : ℕ). AreSpelled m given schedule lead_in cycle) count spelled;
  found =
      subst (λ (to : MustStop). IsLassoFound input file.program to (schedule ++ lead_in) cycle x) is
      (subst (λ (steps : List ℕ). IsLassoFound input file.program asked (schedule ++ lead_in) steps x) likewise
      (subst (λ (steps : List ℕ). IsLassoFound input file.program asked steps given_cycle x) same found));
}

pub way_unread : (name input from : List ℕ) (given : Texts) (file : IsProgramFile input) (n : ℕ) → n ≡ file.program.processes
    → {T : Type 0} (r : Result T NoAnswer) (stop : NoAnswer) → IsErrAnd r (λ d. d ≡ stop) → IfRefused stop (AreMisspelled n from given)
    → IfErr r (λ d. IfRefused d (IsWayUnchecked name input from given))
way_unread name input from given file n count r stop handed unread =
    stopped_by (IsWayUnchecked name input from given) stop r handed
    (refused_as stop (λ report told. of_way file (subst (λ (m : ℕ). AreMisspelled m from given report) count told)) unread)

pub both_in_range : (n m : ℕ) → n ≡ m → (first second both : List ℕ) → All (λ p. p < n) first → All (λ p. p < n) second → both ≡ first ++ second
    → All (λ p. p < m) both
both_in_range n m count first second both one two same =
    subst (λ (k : ℕ). All (λ p. p < k) both) count (subst (All (λ p. p < n)) (sym same) (All-append (λ p. p < n) first second one two))
