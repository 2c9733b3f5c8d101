use Rattle.std.proofs.Common.{◌∙◌, ap, map, refl, true, length, [], None, string_bytes}
use Rattle.base.specs.Plain.{Name, WholeProgram}
use Rattle.ticklab_page.specs.Pages.{code_page, folded, letters}
use Rattle.ticklab_draw.specs.Words.{names}
use Rattle.ticklab_page.proofs.Pieces.{if_ok}
use Rattle.ticklab_page.proofs.SameRuns.{named, same_page}
use Rattle.ticklab_page.proofs.page.code_page.Goals as goal

pub returns : goal.returns
unfolding code_page
returns c =
    let tree = c.tree-tree.result.now in
    if_ok c.page_of.result
    (λ page e. e ∙ same_page c.args.title.now true None (length c.args.steps.now) c.args.drawn.now None
    c.processes.result _ (names c.as_slice-2.result.now) _ (names c.as_slice-3.result.now) _ [] _
    (map (λ x. x.now) c.as_slice-4.result.now) _ c.folded.result.now _
    c.deref.result.now _ c.first_trap_of_code.result _ c.as_slice-6.result.now _
    c.processes.ensures.count
    (ap names c.as_slice-2.ensures.value ∙ named tree.registers.items ∙ ap (λ (a : WholeProgram Name). letters a.registers) c.tree-tree.ensures.tree)
    (ap names c.as_slice-3.ensures.value ∙ named tree.scans.items ∙ ap (λ (a : WholeProgram Name). letters a.scans) c.tree-tree.ensures.tree)
    refl
    (ap (map (λ x. x.now)) c.as_slice-4.ensures.value ∙ c.in_ok-lines.ensures ∙ ap (map string_bytes) c.as_slice.ensures.value ∙ c.in_ok-texts.ensures)
    (c.folded.ensures ∙ ap (folded c.args.is_shared) (c.as_slice-5.ensures.value ∙ c.in_ok-rows.ensures))
    (c.deref.ensures ∙ c.in_ok-trace.ensures)
    c.first_trap_of_code.ensures
    (c.as_slice-6.ensures.value ∙ c.in_ok-changes.ensures))
    c.page_of.ensures
