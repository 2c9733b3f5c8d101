use Rattle.std.proofs.Common.{◌∙◌, ◌++◌, ap, codes, List, ℕ}
use Rattle.ticklab_trace.specs.FoldedText.{row_text}
use Rattle.ticklab_page.specs.Lists.{row_summary}
use Rattle.ticklab_page.specs.Writing.{markup}
use Rattle.ticklab_page.proofs.Pieces.{on_ok, three}
use Rattle.ticklab_page.proofs.lists.push_row_summary.Goals as goal

pub returns : goal.returns
unfolding row_summary
returns c =
    on_ok c.push-3.result
    (three c.args.page.now.items c.push.new.page.items c.push-2.new.page.items c.push-3.new.page.items
    (markup (codes "<li><details><summary>")) (markup (row_text c.args.before c.args.row)) (markup (codes "</summary><ol>\n"))
    c.in_ok-push.ensures
    (c.in_ok-push-2.ensures ∙ ap (λ (t : List ℕ). c.push.new.page.items ++ markup t) (c.deref.ensures ∙ c.in_ok-text.ensures)))
    c.push-3.ensures
