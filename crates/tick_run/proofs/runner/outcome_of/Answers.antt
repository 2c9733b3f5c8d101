use Rattle.std.proofs.Common.{rules, ◌∙◌}
use Rattle.tick_run.proofs.Final.{rows_left, final_rows}
use Rattle.tick_run.proofs.Together.{all_here, all_held, all_ran}
use Rattle.tick_run.proofs.Whole.{whole_run}
use Rattle.tick_run.proofs.runner.outcome_of.Goals as goal

pub meet_all-requires : goal.meet_all-requires
meet_all-requires c = all_here _ _ _ _ _ _ _ _ c.requires.all

pub close-end-requires-clause-all : goal.close-end-requires-clause-all
close-end-requires-clause-all c = λ p below.
    all_held _ _ _ _ _ _ _ _ c.requires.all c.in-Some.met c.in-Some.ensures.met p (rw (c.requires.fits.processes) at below)

pub filled_rows-requires-clause-each : goal.filled_rows-requires-clause-each
filled_rows-requires-clause-each c =
    final_rows c.args.table _ c.close-end.result c.in-Some.met c.in-Some.ensures.met.table c.close-end.ensures.memory c.close-end.ensures.legal (search rules)

pub returns : goal.returns
returns c =
    let all = c.requires.all in
    let fits = c.requires.fits in
    let met = c.in-Some.met in
    whole_run c.args.code.now c.args.limits.turns c.args.limits.outs _ c.sizes-sizes.ensures.verified (search rules)
    (record {
      history = met.seen;
      legal = rw (← fits.processes, ← fits.rows) c.close-end.ensures.legal;
      all_outputs = all.all_outputs;
      all_ends = all.all_ends;
      each = all_ran _ _ _ _ _ _ _ _ all met c.in-Some.ensures.met;
      registers =
          rw (← fits.processes, ← fits.rows)
          (c.filled_rows.ensures ∙ rows_left c.args.table c.close-end.result met c.in-Some.ensures.met.table c.close-end.ensures.memory);
    })
