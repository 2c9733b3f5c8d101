use Rattle.std.proofs.Common.{◌≡◌, sym, ◌∙◌, rules, vec_len, vec_items}
use Rattle.tick_run.specs.prover.Work.{IsWork}
use Rattle.tick_run.proofs.Together.{ready_job, ready_rest, ready_number, gathers_next}
use Rattle.tick_run.proofs.gathering.+run_jobs.Goals as goal

pub started-requires-clause-can : goal.started-requires-clause-can
started-requires-clause-can g t c κs within = ready_job _ _ _ _ _ _ c.in-Some.job c.requires.start.ready c.in-Some.ensures.items

pub run_jobs-others-requires-clause-start : goal.run_jobs-others-requires-clause-start
run_jobs-others-requires-clause-start g t c κs within = record {
  fits = c.requires.start.fits;
  ready = ready_rest _ _ _ _ _ _ c.in-Some.job c.requires.start.ready c.in-Some.ensures.items;
  none = c.requires.start.none;
  room = search rules;
}

pub returns-clause-gathers : goal.returns-clause-gathers
returns-clause-gathers g t c =
    let number : c.in-Some.job.process ≡ vec_len c.pop.new.self = ready_number _ _ _ _ _ _ c.in-Some.job c.requires.start.ready c.in-Some.ensures.items ∙ sym c.pop.new.self.ok.0 in
    let by = c.in_ok-worker.ensures in
    let kept = rw (by.0, by.1, by.2, by.3) at c.join-worked.ensures in
    let work : IsWork c.args.table.now c.args.code.now (vec_len c.pop.new.self) c.args.limits.turns c.args.limits.outs
    c.join-worked.result.pass (vec_items c.join-worked.result.outputs) c.join-worked.result.end = rw (sym number) kept in
    rw (sym c.in-Some.ensures.cases)
    (gathers_next _ _ _ _ _ _ _ _ _ _ _ _ _ _ c.in_ok-others.ensures.gathers work c.with_worked.ensures.passes c.with_worked.ensures.outputs c.with_worked.ensures.ends)

pub started-requires-clause-fits : goal.started-requires-clause-fits
started-requires-clause-fits g t c κs within = c.requires.start.fits

pub returns-clause-room : goal.returns-clause-room
returns-clause-room g t c =
    let more = c.with_worked.ensures.room in let had = c.in_ok-others.ensures.room in (more.0 ∙ had.0, more.1 ∙ had.1, more.2 ∙ had.2)
