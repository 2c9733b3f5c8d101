use Rattle.std.proofs.Common.{◌∙◌, ◌+◌, ◌++◌, ap, codes, ℕ}
use Rattle.ticklab_page.specs.States.{heading_row}
use Rattle.ticklab_page.specs.Writing.{around, markup}
use Rattle.ticklab_page.proofs.Pieces.{on_ok, three}
use Rattle.ticklab_page.proofs.states.push_heading_row.Goals as goal

pub returns : goal.returns
unfolding heading_row
returns c =
    let head = codes "<tr class=\"kind\"><th scope=\"rowgroup\" colspan=\"" in
    on_ok c.push-2.result
    (three c.args.page.now.items c.push_around.new.page.items c.push.new.page.items c.push-2.new.page.items
    (around head (c.args.n + 1) (codes "\">")) (markup c.args.heading.now) (markup (codes "</th></tr>\n"))
    (c.in_ok-push_around.ensures ∙ ap (λ (k : ℕ). c.args.page.now.items ++ around head (k + 1) (codes "\">")) c.from.ensures)
    c.in_ok-push.ensures)
    c.push-2.ensures
