use Rattle.std.proofs.Common.{◌∙◌, ap, ap₂, sym, ◌∷◌, [], ◌++◌, map, string_bytes, take}
use Rattle.std.proofs.lemmas.List.{map-append, take_more}
use Rattle.std.proofs.lemmas.Option.{slice_get_within, get_or_from_slice_get}
use Rattle.code_text.specs.CodeText.{instr_text}
use Rattle.ticklab_page.proofs.lists.instructions_of.Goals as goal

pub loop-place-preserved : goal.loop-place-preserved
loop-place-preserved c =
    let code = c.args.code.now.instructions in
    let k = c.loop-place.place in
    let i = c.instr.result in
    ap (map string_bytes) (c.in_ok-push.ensures.items)
    ∙ map-append string_bytes c.loop-place.texts.items _
    ∙ ap₂ (λ a b. a ++ b ∷ []) c.loop-place.invariant c.in_ok-instruction_text.ensures
    ∙ sym (ap (map instr_text) (take_more code k i (slice_get_within code k i c.instr.ensures) ∙ ap (λ j. take k code ++ j ∷ []) (get_or_from_slice_get code k i i c.instr.ensures))
    ∙ map-append instr_text (take k code) (i ∷ []))
