use Rattle.std.proofs.Common.{◌≡◌, ◌∙◌, ap, sym, true, false, string_bytes}
use Rattle.std.specs.Str.{bytes_eq}
use Rattle.tick_kinds.proofs.Counting.{slot_here, slot_after}
use Rattle.tick_kinds.proofs.program.slot_of.Goals as goal

pub returns-then-eq : goal.returns-then-eq
returns-then-eq c =
    let same : bytes_eq (string_bytes c.index-section-number.result.name) c.args.name.now ≡ true =
    ap (λ t. bytes_eq t c.args.name.now) (sym c.as_str.ensures.value) ∙ sym c.eq.ensures ∙ c.if-eq.true in
    sym (c.loop-number.invariant ∙ slot_here c.args.kind c.args.section.now c.loop-number.number c.args.name.now c.index-section-number.result c.loop-number-test.true c.index-section-number.is same)

pub loop-number-preserved : goal.loop-number-preserved
loop-number-preserved c =
    let same : bytes_eq (string_bytes c.index-section-number.result.name) c.args.name.now ≡ false =
    ap (λ t. bytes_eq t c.args.name.now) (sym c.as_str.ensures.value) ∙ sym c.eq.ensures ∙ c.if-eq.false in
    c.loop-number.invariant ∙ slot_after c.args.kind c.args.section.now c.loop-number.number c.args.name.now c.index-section-number.result c.loop-number-test.true c.index-section-number.is same
