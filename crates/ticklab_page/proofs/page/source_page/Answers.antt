use Rattle.std.proofs.Common.{◌∙◌, ap, map, option_map, false, length}
use Rattle.base.specs.Plain.{Name, WholeProgram}
use Rattle.ticklab_draw.specs.Never.{broken_of}
use Rattle.ticklab_page.specs.Pages.{folded, letters, source_page}
use Rattle.ticklab_draw.specs.Words.{names}
use Rattle.ticklab_page.proofs.Pieces.{if_ok}
use Rattle.ticklab_page.proofs.SameRuns.{named, same_page}
use Rattle.ticklab_page.proofs.page.source_page.Goals as goal

pub returns : goal.returns
unfolding source_page
returns c =
    let tree = c.tree-tree.result.now in
    if_ok c.page_of.result
    (λ page e. e ∙ same_page c.args.title.now false c.args.parts (length c.args.steps.now) c.args.drawn.now (option_map broken_of c.args.never)
    c.processes.result _ (names c.as_slice.result.now) _ (names c.as_slice-2.result.now) _ (names c.as_slice-3.result.now) _
    (map (λ x. x.now) c.as_slice-4.result.now) _ c.folded.result.now _
    c.deref.result.now _ c.first_trap.result _ c.as_slice-6.result.now _
    c.processes.ensures.count
    (ap names c.as_slice.ensures.value ∙ named tree.registers.items ∙ ap (λ (a : WholeProgram Name). letters a.registers) c.tree-tree.ensures.tree)
    (ap names c.as_slice-2.ensures.value ∙ named tree.scans.items ∙ ap (λ (a : WholeProgram Name). letters a.scans) c.tree-tree.ensures.tree)
    (ap names c.as_slice-3.ensures.value ∙ named tree.variables.items ∙ ap (λ (a : WholeProgram Name). letters a.variables) c.tree-tree.ensures.tree)
    (ap (map (λ x. x.now)) c.as_slice-4.ensures.value ∙ c.in_ok-lines.ensures)
    (c.folded.ensures ∙ ap (folded c.args.is_shared) (c.as_slice-5.ensures.value ∙ c.in_ok-rows.ensures))
    (c.deref.ensures ∙ c.in_ok-trace.ensures)
    c.first_trap.ensures
    (c.as_slice-6.ensures.value ∙ c.in_ok-changes.ensures))
    c.page_of.ensures
