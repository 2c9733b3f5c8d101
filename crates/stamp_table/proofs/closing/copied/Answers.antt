use Rattle.std.proofs.Common.{◌≡◌, ◌+◌, ◌^◌, ◌<◌, ap, sym, subst, ◌∙◌, rules, arith, ⊎_elim, length, length-set}
use Rattle.std.specs.Prelude.{slice_index, slice_set}
use Rattle.std.specs.Mem.Slots.{slots_items}
use Rattle.std.proofs.lemmas.List.{get_or-set_same, get_or-set_other}
use Rattle.std.proofs.lemmas.Bool.{cases_eq}
use Rattle.stamp_table.proofs.Rows.{got}
use Rattle.stamp_table.proofs.closing.copied.Goals as goal

found : (c : goal.After-word) → slice_index (slots_items c.args.closed.now.words) (1 + c.loop-k.k) ≡ c.word.result
found c = got (slots_items c.args.closed.now.words) (1 + c.loop-k.k) c.word.result c.word.ensures

pub overflow_cast-registers : goal.overflow_cast-registers
overflow_cast-registers c =
    let fits : c.word.result < 2 ^ 32 = subst (λ x. x < 2 ^ 32) (found c) (c.requires.small c.loop-k.k c.loop-k-test.true) in
    search rules

pub loop-k-preserved : goal.loop-k-preserved
loop-k-preserved c =
    let registers = c.loop-k.registers in
    let len : length registers ≡ 48 = c.loop-k.invariant.0 in
    let inside : c.loop-k.k < length registers = omega (arith, len, c.loop-k-test.true, c.requires.few) in (
      length-set registers c.loop-k.k c.word.result ∙ len,
      (λ k in_k. ⊎_elim
          (λ here. ap (λ j. slice_index (slice_set registers c.loop-k.k c.word.result) j) here
          ∙ get_or-set_same registers c.loop-k.k c.word.result 0 inside
          ∙ sym (found c) ∙ ap (λ j. slice_index (slots_items c.args.closed.now.words) (1 + j)) (sym here))
          (λ other. get_or-set_other registers c.loop-k.k k c.word.result 0 other ∙ c.loop-k.invariant.1 k (omega arith))
          (cases_eq k c.loop-k.k)),
    )
