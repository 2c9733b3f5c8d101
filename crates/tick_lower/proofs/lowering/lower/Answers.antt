use Rattle.std.proofs.Common.{ap, ◌∙◌, sym, refl, map, arith}
use Rattle.code_core.specs.Heights.{greatest}
use Rattle.code_core.proofs.Offered.{verified_fine}
use Rattle.tick_kinds.specs.Resolution.{resolved}
use Rattle.tick_kinds.specs.Resolved.{resolved_block}
use Rattle.tick_lower.specs.Lowered.{lowered_sizes}
use Rattle.tick_lower.specs.prover.Paired.{greatest_from}
use Rattle.tick_lower.proofs.Standing.{IsPlain, resolved_plain}
use Rattle.tick_lower.proofs.lowering.lower.Goals as goal

pub greatest_height-height-requires : goal.greatest_height-height-requires
greatest_height-height-requires c =
    let sizes = lowered_sizes (resolved c.args.program.now) in
    let plain : IsPlain sizes c.deref.result.now =
    resolved_plain c.args.program.now (resolved_block c.body-body.result.now) sizes c.deref.result.now refl (c.deref.ensures.value ∙ c.in_ok-instructions.ensures) c.body-body.ensures.within (omega arith) in
    (verified_fine sizes c.deref.result.now plain.0).few

pub of_verified-requires-clause-verified : goal.of_verified-requires-clause-verified
of_verified-requires-clause-verified c =
    (resolved_plain c.args.program.now (resolved_block c.body-body.result.now) c.sizes_of.result c.deref-2.result.now c.sizes_of.ensures
    (c.deref-2.ensures.value ∙ c.in_ok-instructions.ensures) c.body-body.ensures.within (omega arith)).0

pub of_verified-requires-clause-height : goal.of_verified-requires-clause-height
of_verified-requires-clause-height c =
    let plain : IsPlain c.sizes_of.result c.deref-2.result.now =
    resolved_plain c.args.program.now (resolved_block c.body-body.result.now) c.sizes_of.result c.deref-2.result.now c.sizes_of.ensures
    (c.deref-2.ensures.value ∙ c.in_ok-instructions.ensures) c.body-body.ensures.within (omega arith) in
    c.greatest_height-height.ensures ∙ ap (greatest_from 0) (c.deref.ensures.value ∙ sym c.deref-2.ensures.value) ∙ ap (λ all. greatest (map (λ e. e.1) all)) (sym plain.1)
