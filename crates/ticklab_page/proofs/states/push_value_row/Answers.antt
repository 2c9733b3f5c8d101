use Rattle.std.proofs.Common.{◌∙◌, ◌++◌, ap, codes, List, ℕ}
use Rattle.ticklab_page.specs.Shown.{shown}
use Rattle.ticklab_page.specs.States.{fixed_row, value_row}
use Rattle.ticklab_page.specs.Writing.{around}
use Rattle.ticklab_page.proofs.Pieces.{on_ok, three}
use Rattle.ticklab_page.proofs.states.push_value_row.Goals as goal

pub returns : goal.returns
unfolding value_row
returns c =
    on_ok c.push_row.result
    (three c.args.page.now.items c.push_around.new.page.items c.push_shown.new.page.items c.push_row.new.page.items
    (around c.args.letter.now c.args.number (codes "\"><th scope=\"row\">")) (shown c.args.name.now) (fixed_row (codes "</th>") c.args.n c.args.cell.now)
    c.in_ok-push_around.ensures
    (c.in_ok-push_shown.ensures ∙ ap (λ (t : List ℕ). c.push_around.new.page.items ++ shown t) c.as_bytes.ensures.value))
    c.push_row.ensures
