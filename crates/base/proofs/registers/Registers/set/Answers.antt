use Rattle.std.proofs.Common.{◌≡◌, ◌<◌, ap, sym, ◌∙◌, arith, length, refl}
use Rattle.std.specs.Prelude.{slice_set}
use Rattle.std.specs.Vec.{with_items}
use Rattle.std.proofs.lemmas.List.{with_items_is, length-set}
use Rattle.base.proofs.Offered.{rows_set}
use Rattle.base.specs.RegisterRows.{register_set}
use Rattle.base.proofs.registers.Registers.set.Goals as goal

pub returns : goal.returns
returns c =
    let rows = c.self.inside.rows in
    let row = c.in-Some.values.now in
    let inside : c.args.row < length rows.items = omega (arith, c.in-Some.ensures.variant.0 refl, rows.ok) in
    let written : c.set_at.new.values ≡ slice_set row.items c.args.process c.args.value =
    c.set_at.ensures ∙ ap (λ x. slice_set x c.args.process c.args.value) c.deref_mut.ensures.value in
    let long : length c.set_at.new.values ≡ row.len = ap length written ∙ length-set row.items c.args.process c.args.value ∙ sym row.ok.0 in
    rows_set rows.items c.args.row c.args.process c.args.value row (with_items row c.set_at.new.values) c.in-Some.ensures.value inside
    (with_items_is row c.set_at.new.values long ∙ written)
    ∙ ap (λ view. register_set view c.args.row c.args.process c.args.value) c.self.view_is
