use Rattle.std.proofs.Common.{codes, string_bytes}
use Rattle.word_core.specs.Order.{label_ranks}
use Rattle.ticketc_answers.proofs.OrderLemmas.{if_pushed, state_written}
use Rattle.ticketc_answers.proofs.order.push_state.Goals as goal

pub returns : goal.returns
returns c =
    let labels = c.args.word.now in
    if_pushed c.push_str-4.result _ (string_bytes c.push_ranks.new.text) (codes "\n") _ c.push_str-4.ensures.bytes
    (state_written _ _ _ _ _ _ _ _ labels (label_ranks labels) _ c.bits.ensures c.in_ok-push_str.ensures.bytes c.in_ok-push_number.ensures
    c.in_ok-push_str-2.ensures.bytes c.in_ok-push_labels.ensures c.in_ok-push_str-3.ensures.bytes c.in_ok-push_ranks.ensures)
