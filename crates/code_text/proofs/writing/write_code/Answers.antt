use Rattle.std.proofs.Common.{◌≡◌, ◌++◌, ap, ◌∙◌, sym, arith, length, take, append_assoc}
use Rattle.std.proofs.lemmas.List.{append-nil}
use Rattle.std.proofs.Math.Seq.{take-length}
use Rattle.code_text.specs.CodeText.{instr_line, code_lines, header_line}
use Rattle.code_text.proofs.Lines.{written_more}
use Rattle.code_text.proofs.writing.write_code.Goals as goal

pub loop-place-preserved : goal.loop-place-preserved
loop-place-preserved c =
    let code = c.args.code.now in
    c.in_ok-push_line.ensures
    ∙ ap (λ x. x ++ instr_line c.instr.result) c.loop-place.invariant
    ∙ append_assoc (header_line 2 code.sizes) (code_lines (take c.loop-place.place code.instructions)) (instr_line c.instr.result)
    ∙ ap (λ x. header_line 2 code.sizes ++ x) (sym (written_more code.instructions c.loop-place.place c.instr.result c.instr.ensures))

pub loop-place-init : goal.loop-place-init
loop-place-init c =
    let code = c.args.code.now in
    c.in_ok-push_header.ensures
    ∙ ap (λ x. x ++ header_line 2 c.sizes.result) c.new-text.ensures.bytes
    ∙ ap (header_line 2) c.sizes.ensures.sizes
    ∙ sym (append-nil (header_line 2 code.sizes))

pub returns-clause-text : goal.returns-clause-text
returns-clause-text c =
    let code = c.args.code.now in
    let done : c.loop-place.place ≡ length code.instructions = omega arith in
    c.loop-place.invariant
    ∙ ap (λ is. header_line 2 code.sizes ++ code_lines is) (ap (λ k. take k code.instructions) done ∙ take-length code.instructions)
