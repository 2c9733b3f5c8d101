use Rattle.std.proofs.Common.{◌<◌, length, get_or, ap, sym, subst, ◌∙◌, arith}
use Rattle.word_core.specs.History.{Memory, register_at}
use Rattle.stamp_table.proofs.Rows.{length-rows_in, rows_in-at}
use Rattle.stamp_table.proofs.closing.Final.register.Goals as goal
use Rattle.stamp_table.proofs.closing.Final.register.Goals.{After-self}

in_rows : (c : goal.After-self) → c.args.r < c.self.inside.rows
in_rows c =
    let in_view : c.args.r < length c.args.self.now.rows = c.requires.row in
    let count = sym (ap (λ (m : Memory). length m.rows) c.self.view_is) ∙ length-rows_in c.self.inside.rows c.self.inside.n c.self.inside.registers in
    subst (λ k. c.args.r < k) count in_view

pub register_place-requires-clause-row : goal.register_place-requires-clause-row
register_place-requires-clause-row c = omega (arith, in_rows c, c.self.invariant.1)

pub returns : goal.returns
returns c =
    let in_labels : c.args.i < length c.args.self.now.labels = c.requires.index in
    let in_n : c.args.i < c.self.inside.n =
    subst (λ k. c.args.i < k) (sym (ap (λ (m : Memory). length m.labels) c.self.view_is) ∙ c.self.invariant.2) in_labels in
    ap (λ k. get_or c.self.inside.registers k 0) c.register_place.ensures.place
    ∙ sym (rows_in-at c.self.inside.rows c.self.inside.n c.self.inside.registers c.args.r c.args.i (in_rows (goal.at.returns c).After-self) in_n)
    ∙ ap (λ (m : Memory). register_at m.rows c.args.r c.args.i) c.self.view_is
