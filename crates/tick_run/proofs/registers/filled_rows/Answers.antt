use Rattle.std.proofs.Common.{rules, ◌∙◌, arith, vec_items}
use Rattle.std.proofs.lemmas.List.{take_all}
use Rattle.tick_run.specs.prover.Rows.{IsBlank}
use Rattle.tick_run.proofs.Filling.{all_last, all_front, filled_more}
use Rattle.tick_run.proofs.registers.filled_rows.Goals as goal

pub filled_row-requires-clause-blank : goal.filled_row-requires-clause-blank
filled_row-requires-clause-blank c =
    all_last (IsBlank c.args.processes) (vec_items c.pop.new.self) (vec_items c.loop-r.empty) c.in-Some.row c.in-Some.ensures.items c.loop-r.invariant.1

pub filled_row-requires-clause-each : goal.filled_row-requires-clause-each
filled_row-requires-clause-each c = c.requires.each c.loop-r.r _ (omega (arith, c.requires.rows, c.loop-r-test.true))

pub loop-r-preserved : goal.loop-r-preserved
loop-r-preserved c = (
  search rules,
  all_front (IsBlank c.args.processes) (vec_items c.pop.new.self) (vec_items c.loop-r.empty) c.in-Some.row c.in-Some.ensures.items c.loop-r.invariant.1,
  filled_more c.args.end.now.rows (vec_items c.loop-r.filled) _ c.filled_row.result c.loop-r.r (omega (arith, c.requires.rows, c.loop-r-test.true))
      c.push_reserved.ensures.items c.loop-r.invariant.2 c.filled_row.ensures,
  search rules,
)

pub returns : goal.returns
returns c = c.loop-r.invariant.2 ∙ take_all c.loop-r.r c.args.end.now.rows (omega (arith, c.requires.rows, c.loop-r-test.false))
