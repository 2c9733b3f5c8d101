use Rattle.std.proofs.Common.{◌∙◌, ◌++◌, ap, ap₂, List, ℕ}
use Rattle.word_core.specs.Stamps.{start_labels}
use Rattle.ticketc_answers.specs.Order.{move_lines}
use Rattle.ticketc_answers.proofs.OrderLemmas.{state_lines-after}
use Rattle.ticketc_answers.proofs.order.moves_text.Goals as goal

pub returns : goal.returns
returns c =
    c.in_ok-push_state.ensures
    ∙ ap₂ (λ (lines : List ℕ) (state : List ℕ). lines ++ state)
    (c.in_ok-word.ensures.lines ∙ ap (λ (first : List ℕ). first ++ move_lines (start_labels c.args.n) c.args.moves.now) c.in_ok-text.ensures)
    (state_lines-after c.args.n c.args.moves.now _ c.in_ok-word.ensures.word)
