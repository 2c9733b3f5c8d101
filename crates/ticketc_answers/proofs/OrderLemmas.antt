-- What the writing of `order`'s answer keeps from move to move.
use Rattle.std.proofs.Common.{◌≡◌, ◌∙◌, ◌+◌, ◌<◌, ◌++◌, ◌∷◌, ℕ, List, Result, Ok, Err, OnOk, ap, append_assoc, codes, drop, get_or, if◌then◌else◌, length, map, sym}
use Rattle.std.specs.Result.{is_ok}
use Rattle.std.proofs.lemmas.List.{drop_more}
use Rattle.std.specs.Fmt.{decimal}
use Rattle.base.specs.Lines.{spaced}
use Rattle.ticket_core.specs.Tickets.{start_tickets, ticket_ranks, tickets_moved}
use Rattle.ticket_core.specs.declared.moves.Move.{Move}
use Rattle.word_core.specs.Order.{IsOrdered, label_ranks}
use Rattle.word_core.specs.Packed.{word}
use Rattle.word_core.specs.Stamps.{Labels, labels_moved, moved, start_labels}
use Rattle.word_core.proofs.Offered.{moves_law, length-moved, length-start_labels, start_ordered}
use Rattle.ticketc_answers.specs.Order.{label_text, move_line, move_lines, state_lines}

-- after `i` moves: the others complete what the moves leave, and their lines the text
pub record HasMoved (n : ℕ) (moves : List Move) (first text : List ℕ) (labels : Labels) (i : ℕ) : Type 0 where
  pub count : length labels ≡ n
  pub ordered : IsOrdered labels
  pub labels_are : labels_moved labels (drop i moves) ≡ labels_moved (start_labels n) moves
  pub lines : text ++ move_lines labels (drop i moves) ≡ first ++ move_lines (start_labels n) moves

pub at_start : (n : ℕ) (moves : List Move) (text : List ℕ) (labels : Labels) → labels ≡ start_labels n → HasMoved n moves text text labels 0
at_start n moves text labels is = record {
  count = ap length is ∙ length-start_labels n;
  ordered = rw is (start_ordered n);
  labels_are = ap (λ (l : Labels). labels_moved l moves) is;
  lines = ap (λ (l : Labels). text ++ move_lines l moves) is;
}

pub after_move : (n : ℕ) (moves : List Move) (first text more : List ℕ) (labels next : Labels) (i : ℕ) (default : Move)
    → HasMoved n moves first text labels i
    → i < length moves
    → next ≡ moved (get_or moves i default) labels
    → IsOrdered next
    → more ≡ text ++ move_line (get_or moves i default) next
    → HasMoved n moves first more next (i + 1)
after_move n moves first text more labels next i default has within is ordered added =
    let move : Move = get_or moves i default in
    let rest : List Move = drop (i + 1) moves in
    let split : drop i moves ≡ move ∷ rest = drop_more moves i default within in
    record {
      count = ap length is ∙ length-moved move labels ∙ has.count;
      ordered = ordered;
      labels_are = ap (λ (l : Labels). labels_moved l rest) is ∙ ap (labels_moved labels) (sym split) ∙ has.labels_are;
      lines = ap (λ (t : List ℕ). t ++ move_lines next rest) added ∙ append_assoc text (move_line move next) (move_lines next rest)
          ∙ ap (λ (l : Labels). text ++ (move_line move l ++ move_lines l rest)) is
          ∙ ap (λ (s : List Move). text ++ move_lines labels s) (sym split) ∙ has.lines;
    }

-- the ranks of the labels are those of the tickets
pub state_lines-after : (n : ℕ) (moves : List Move) (labels : Labels) → labels ≡ labels_moved (start_labels n) moves
    → state_lines labels (label_ranks labels) ≡ state_lines (labels_moved (start_labels n) moves) (ticket_ranks (tickets_moved (start_tickets n) moves))
state_lines-after n moves labels is =
    ap (λ (l : Labels). state_lines l (label_ranks l)) is
    ∙ ap (state_lines (labels_moved (start_labels n) moves)) (moves_law n moves).ranks

-- where a text was added, or nothing
pub if_pushed : {T E : Type 0} (r : Result T E) (new old more : List ℕ) (P : Type 0) → new ≡ (if is_ok r then old ++ more else old)
    → (new ≡ old ++ more → P) → OnOk r P
if_pushed (Ok t) new old more P is holds = holds is
if_pushed (Err e) new old more P is holds = tt

-- the lines of a state, as they are written piece by piece
pub state_written : (old a b c d e f new : List ℕ) (labels : Labels) (ranks : List ℕ) (bits : ℕ) → bits ≡ word labels
    → a ≡ old ++ codes "word " → b ≡ a ++ decimal bits
    → c ≡ b ++ codes "\nlabels" → d ≡ c ++ spaced (map label_text labels)
    → e ≡ d ++ codes "\nranks" → f ≡ e ++ spaced (map decimal ranks)
    → new ≡ f ++ codes "\n" → new ≡ old ++ state_lines labels ranks
state_written old a b c d e f new labels ranks bits is at_a at_b at_c at_d at_e at_f at_new =
    rw (at_new, at_f, at_e, at_d, at_c, at_b, at_a, is) (simp append_assoc)
