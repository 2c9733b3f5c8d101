use Rattle.std.proofs.Common.{◌≡◌, ◌+◌, ◌++◌, [], ◌∷◌, refl, ap, ◌∙◌, sym, subst, length, get_or, arith}
use Rattle.code_core.specs.declared.instr.Instr.TheVariants as I
use Rattle.code_core.specs.Words.{word_of}
use Rattle.code_core.specs.prover.Coding.{Coding}
use Rattle.code_core.proofs.Coding.{coding_next, coding_end}
use Rattle.code_core.proofs.words.in_words.Goals as goal

pub loop-instruction-preserved : goal.loop-instruction-preserved
loop-instruction-preserved c =
    let code = c.args.code.now in
    let k = c.loop-instruction.instruction-index in
    let words = c.loop-instruction.words.items in
    let constants = c.loop-instruction.constants.items in
    let next = coding_next code k (get_or code k (I.Push 0)) words constants (omega arith) refl c.encoded.ensures.slots c.loop-instruction.invariant in
    let number : c.len.result ≡ length constants = omega (arith, c.len.ensures, c.loop-instruction.constants.ok.0) in
    let pushed : c.push.new.self.items ≡ words ++ word_of (length constants) (get_or code k (I.Push 0)) ∷ [] =
    c.in_ok-push.ensures.items ∙ ap (λ w. words ++ w ∷ []) (c.encoded.ensures.word ∙ ap (λ n. word_of n (get_or code k (I.Push 0))) number) in
    subst (λ ws. Coding code (k + 1) ws c.push_constant.new.constants.items) (sym pushed)
    (subst (Coding code (k + 1) (words ++ word_of (length constants) (get_or code k (I.Push 0)) ∷ [])) (sym c.in_ok-push_constant.ensures) next)

pub returns-clause-coded : goal.returns-clause-coded
returns-clause-coded c =
    (coding_end c.args.code.now c.loop-instruction.instruction-index c.loop-instruction.words.items c.loop-instruction.constants.items
    (omega arith) c.requires c.loop-instruction.invariant).0

pub returns-clause-back : goal.returns-clause-back
returns-clause-back c =
    (coding_end c.args.code.now c.loop-instruction.instruction-index c.loop-instruction.words.items c.loop-instruction.constants.items
    (omega arith) c.requires c.loop-instruction.invariant).1
