use Rattle.std.proofs.Common.{◌≡◌, ℕ, List, Ok, subst}
use Rattle.language_schedules.specs.Schedule.{schedule_of}
use Rattle.ticketc_refusals.specs.Refusals.{IsScheduleRefused}
use Rattle.ticklab_explain.specs.Reports.{TellsFor}
use Rattle.ticklab_files.specs.Ways.{AreMisspelled, cycle_refused, held, lead_in_refused}
use Rattle.ticklab_files.proofs.Responding.{refused_as, stopped_by}
use Rattle.ticklab_files.proofs.ways.way_of.Goals as goal

pub returns-in_err-lead_in-clause-refused : goal.returns-in_err-lead_in-clause-refused
returns-in_err-lead_in-clause-refused c =
    let n = c.args.n in
    let from = c.args.from.now in
    let texts = held c.args.texts.now in
    let first = c.in_ok-schedule.schedule.items in
    let spelled = subst (λ (t : List ℕ). schedule_of n t ≡ Ok first) c.deref.ensures c.in_ok-schedule.ensures.ok in
    stopped_by (AreMisspelled n from texts) _ c.from_residual-in_err-lead_in.result c.from_residual-in_err-lead_in.ensures.1
    (refused_as _ (λ report told.
    lead_in_refused first spelled (subst (λ (t : List ℕ). TellsFor n (IsScheduleRefused n t) from t report) c.deref-2.ensures told))
    c.in_err-lead_in.ensures.refused)

pub returns-in_err-cycle-clause-refused : goal.returns-in_err-cycle-clause-refused
returns-in_err-cycle-clause-refused c =
    let n = c.args.n in
    let from = c.args.from.now in
    let texts = held c.args.texts.now in
    let first = c.in_ok-schedule.schedule.items in
    let second = c.in_ok-lead_in.lead_in.items in
    let spelled = subst (λ (t : List ℕ). schedule_of n t ≡ Ok first) c.deref.ensures c.in_ok-schedule.ensures.ok in
    let also = subst (λ (t : List ℕ). schedule_of n t ≡ Ok second) c.deref-2.ensures c.in_ok-lead_in.ensures.ok in
    stopped_by (AreMisspelled n from texts) _ c.from_residual-in_err-cycle.result c.from_residual-in_err-cycle.ensures.1
    (refused_as _ (λ report told.
    cycle_refused first second spelled also (subst (λ (t : List ℕ). TellsFor n (IsScheduleRefused n t) from t report) c.deref-3.ensures told))
    c.in_err-cycle.ensures.refused)
