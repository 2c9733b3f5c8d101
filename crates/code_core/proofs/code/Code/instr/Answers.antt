use Rattle.std.proofs.Common.{ap, ◌∙◌, sym, Some}
use Rattle.std.specs.Prelude.{slice_get}
use Rattle.code_core.specs.Words.{decoded}
use Rattle.code_core.proofs.Coding.{decoded_at}
use Rattle.code_core.proofs.code.Code.instr.Goals as goal

pub returns : goal.returns
returns c =
    let words = c.self.inside.words.items in
    let constants = c.self.inside.constants.items in
    let word = c.word_at.result in
    ap (λ code. slice_get code.instructions c.args.place) (sym c.self.view_is)
    ∙ decoded_at constants words c.args.place word (ap (λ ws. slice_get ws c.args.place) (sym c.deref-2.ensures.value) ∙ c.word_at.ensures)
    ∙ ap (λ cs. Some (decoded cs word)) (sym c.deref.ensures.value) ∙ ap Some (sym c.decoded.ensures)
