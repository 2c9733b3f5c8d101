use Rattle.std.proofs.Common.{◌≡◌, ◌++◌, Bool, subst, sym}
use Rattle.ticklab_page.specs.States.{step_rows}
use Rattle.ticklab_page.proofs.Pieces.{on_ok, two}
use Rattle.ticklab_page.proofs.states.push_step_rows.Goals as goal

pub returns-then-is_code : goal.returns-then-is_code
returns-then-is_code c =
    on_ok c.push_row-then-is_code.result
    (λ added. subst (λ (is_code : Bool). c.push_row-then-is_code.new.page.items ≡ c.args.page.now.items ++ step_rows is_code c.args.n) (sym c.if-is_code.true)
    (two _ _ _ _ _ c.in_ok-push_row.ensures added))
    c.push_row-then-is_code.ensures

pub returns : goal.returns
returns c =
    on_ok c.push_row-3.result
    (λ added. subst (λ (is_code : Bool). c.push_row-3.new.page.items ≡ c.args.page.now.items ++ step_rows is_code c.args.n) (sym c.if-is_code.false)
    (two _ _ _ _ _ c.in_ok-push_row-2.ensures added))
    c.push_row-3.ensures
