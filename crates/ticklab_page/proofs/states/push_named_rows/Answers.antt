use Rattle.std.proofs.Common.{◌∙◌, ◌++◌, ap, codes, List, ℕ}
use Rattle.ticklab_draw.specs.Words.{names}
use Rattle.ticklab_page.specs.States.{headed_rows, named_rows, scan_cell, scan_heading}
use Rattle.ticklab_page.proofs.Pieces.{on_ok, three}
use Rattle.ticklab_page.proofs.states.push_named_rows.Goals as goal

pub returns : goal.returns
unfolding named_rows
returns c =
    let n = c.args.n in
    let before = c.push_headed_rows.new.page.items in
    let scans = names c.args.scans.now in
    on_ok c.push_headed_rows-3.result
    (three c.args.page.now.items before c.push_headed_rows-2.new.page.items c.push_headed_rows-3.new.page.items
    (headed_rows (codes "Registers") (codes "<tr data-k=\"r") (codes "<td>0</td>") n (names c.args.rows.now))
    (headed_rows (scan_heading c.args.is_code) (codes "<tr data-k=\"c") (scan_cell c.args.is_code n) n scans)
    (headed_rows (codes "Variables") (codes "<tr data-k=\"v") (codes "<td>0</td>") n (names c.args.variables.now))
    c.in_ok-push_headed_rows.ensures
    (c.in_ok-push_headed_rows-2.ensures
    ∙ ap (λ (h : List ℕ). before ++ headed_rows h (codes "<tr data-k=\"c") c.deref.result.now n scans) c.scan_heading-heading.ensures
    ∙ ap (λ (t : List ℕ). before ++ headed_rows (scan_heading c.args.is_code) (codes "<tr data-k=\"c") t n scans) (c.deref.ensures ∙ c.in_ok-order.ensures)))
    c.push_headed_rows-3.ensures
