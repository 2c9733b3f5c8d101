use Rattle.std.proofs.Common.{◌≡◌, ℕ, ap, ◌∙◌, rules, map, vec_items}
use Rattle.code_core.specs.Instructions.{CodeSizes, StepCode}
use Rattle.stamp_table.specs.Passes.{TableView}
use Rattle.tick_run.specs.prover.Turns.{IsFor}
use Rattle.tick_run.proofs.Together.{gathers_none}
use Rattle.tick_run.proofs.runner.run.Goals as goal

-- the table was made for the processes and the rows of the code
opened_for : (t : TableView) (code : StepCode) (z : CodeSizes) (n rows : ℕ) → z ≡ code.sizes → t.n ≡ n → t.rows ≡ rows → n ≡ z.processes → rows ≡ z.rows → IsFor t code
opened_for t code z n rows sizes many tall processes registers = record {
  processes = many ∙ processes ∙ ap (λ z. z.processes) sizes;
  rows = tall ∙ registers ∙ ap (λ z. z.rows) sizes;
}

pub jobs_for-requires-clause-fits : goal.jobs_for-requires-clause-fits
jobs_for-requires-clause-fits g c =
    opened_for _ _ _ _ _ c.sizes-sizes.ensures.sizes c.in_ok-table.ensures.layout.0 c.in_ok-table.ensures.layout.1 c.processes-2.ensures.count c.registers-2.ensures

pub jobs_for-requires-clause-gates : goal.jobs_for-requires-clause-gates
jobs_for-requires-clause-gates g c = c.requires

pub run_all-requires-clause-start : goal.run_all-requires-clause-start
run_all-requires-clause-start g c κs within =
    let empty = c.in_ok-none.ensures.empty in
    record {
      fits = opened_for _ _ _ _ _ c.sizes-sizes.ensures.sizes c.in_ok-table.ensures.layout.0 c.in_ok-table.ensures.layout.1 c.processes-2.ensures.count c.registers-2.ensures;
      ready = c.in_ok-jobs.ensures.ready;
      none = gathers_none _ _ _ _ _ _ _ empty.0 (ap (map (λ values. vec_items values)) empty.1) empty.2;
      room = search rules;
    }

pub outcome_of-requires-clause-fits : goal.outcome_of-requires-clause-fits
outcome_of-requires-clause-fits g c =
    opened_for _ _ _ _ _ c.sizes-sizes.ensures.sizes c.in_ok-table.ensures.layout.0 c.in_ok-table.ensures.layout.1 c.processes-2.ensures.count c.registers-2.ensures

pub outcome_of-requires-clause-all : goal.outcome_of-requires-clause-all
outcome_of-requires-clause-all g c = search rules
