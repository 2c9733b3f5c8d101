use Rattle.std.proofs.Common.{◌∙◌, ℕ, List, ap, option_map}
use Rattle.ticklab_draw.specs.Never.{broken_of}
use Rattle.ticklab_draw.specs.Pictures.{picture}
use Rattle.ticklab_draw.specs.Words.{names}
use Rattle.ticklab_files.proofs.Responding.{then_ok}
use Rattle.ticklab_runs.specs.Pictures.{row_names}
use Rattle.ticklab_runs.proofs.Pictured.{named}
use Rattle.ticklab_runs.proofs.drawing.picture_of.Goals as goal

pub returns : goal.returns
returns c =
    let a = c.args.program.now in
    let title = c.args.title.now in
    let marks = c.args.marks.now in
    let mark = option_map broken_of c.args.never in
    then_ok c.picture.result
    (λ out drawn.
    drawn
    ∙ ap (λ (n : ℕ). picture title c.args.look n (names c.as_slice-registers.result.now) c.args.parts marks mark) c.processes-n.ensures.count
    ∙ ap (λ (rows : List (List ℕ)). picture title c.args.look a.processes rows c.args.parts marks mark)
    (ap names c.as_slice-registers.ensures.value ∙ named c.tree.result.now.registers.items ∙ ap row_names c.tree.ensures.tree))
    c.picture.ensures
