use Rattle.std.proofs.Common.{◌≡◌, ◌<◌, ap, subst, sym, ◌∙◌}
use Rattle.word_core.specs.History.{register_at}
use Rattle.stamp_table.specs.Passes.{TableView, memory_seen}
use Rattle.stamp_calls.specs.Callers.{CallerView}
use Rattle.stamp_calls.proofs.Calling.{written_stands}
use Rattle.stamp_calls.proofs.registers.write.Goals as goal

pub returns-clause-value : goal.returns-clause-value
returns-clause-value c =
    let here = ap (λ (z : CallerView). z.pass.table) c.caller.view_is ∙ c.requires.here in
    let row : c.args.r < c.caller.inside.pass.table.rows = subst (λ (t : TableView). c.args.r < t.rows) (sym here) c.requires.row in
    let pass = c.write.new.pass in
    subst (λ (z : CallerView). register_at (memory_seen pass).rows c.args.r z.process ≡ c.args.v) c.caller.view_is
    (written_stands c.caller.inside.pass pass c.caller.inside.process c.args.r c.args.v row c.write.ensures)
