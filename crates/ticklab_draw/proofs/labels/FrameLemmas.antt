-- What the making of frames keeps from move to move, and what stands in them.
use Rattle.std.proofs.Common.{◌≡◌, ◌∙◌, ◌+◌, ◌<◌, ◌≤◌, ◌++◌, ◌∷◌, [], ℕ, suc, zero, List, Option, Some, None, ap, append_assoc, drop, take, get_or, length, sym, refl, arith}
use Rattle.std.specs.Option.{option_map}
use Rattle.std.specs.List.{slice_get}
use Rattle.std.proofs.lemmas.List.{drop_more, drop_all, append-nil}
use Rattle.std.proofs.Math.Numerals.{add-one}
use Rattle.ticket_core.specs.declared.moves.Move.{Move}
use Rattle.word_core.specs.Order.{IsOrdered, label_ranks}
use Rattle.word_core.specs.Stamps.{Labels, labels_moved, moved, start_labels}
use Rattle.word_core.proofs.Offered.{moves_law, length-moved, length-start_labels, start_ordered}
use Rattle.ticklab_draw.specs.labels.Frames.{frames_from, frames_of}
use Rattle.ticklab_draw.specs.labels.Laws.{FramesLaw}
use Rattle.ticklab_draw.specs.declared.labels.run.Frame.{Frame}

-- after `i` moves: those of the others complete the frames
pub record HasMade (n : ℕ) (moves : List Move) (frames : List Frame) (labels : Labels) (i : ℕ) : Type 0 where
  pub count : length labels ≡ n
  pub ordered : IsOrdered labels
  pub frames_are : frames ++ frames_from labels (drop i moves) ≡ frames_of n moves

abbrev pub frame : Option Move → Labels → Frame
frame made labels = record { made = made; labels = labels }

pub at_start : (n : ℕ) (moves : List Move) (frames : List Frame) (labels : Labels) → labels ≡ start_labels n
    → frames ≡ frame None labels ∷ [] → HasMade n moves frames labels 0
at_start n moves frames labels is first = record {
  count = ap length is ∙ length-start_labels n;
  ordered = rw is (start_ordered n);
  frames_are = ap (λ (f : List Frame). f ++ frames_from labels moves) first ∙ ap (λ (l : Labels). frame None l ∷ frames_from l moves) is;
}

pub after_move : (n : ℕ) (moves : List Move) (frames more : List Frame) (labels next : Labels) (i : ℕ) (default : Move)
    → HasMade n moves frames labels i
    → i < length moves
    → next ≡ moved (get_or moves i default) labels
    → IsOrdered next
    → more ≡ frames ++ frame (Some (get_or moves i default)) next ∷ []
    → HasMade n moves more next (i + 1)
after_move n moves frames more labels next i default has within is ordered added =
    let move : Move = get_or moves i default in
    let rest : List Move = drop (i + 1) moves in
    record {
      count = ap length is ∙ length-moved move labels ∙ has.count;
      ordered = ordered;
      frames_are = ap (λ (f : List Frame). f ++ frames_from next rest) added ∙ append_assoc frames (frame (Some move) next ∷ []) (frames_from next rest)
          ∙ ap (λ (l : Labels). frames ++ (frame (Some move) l ∷ frames_from l rest)) is
          ∙ ap (λ (s : List Move). frames ++ frames_from labels s) (sym (drop_more moves i default within)) ∙ has.frames_are;
    }

pub length-frames_from : (labels : Labels) (moves : List Move) → length (frames_from labels moves) ≡ length moves
length-frames_from labels [] = refl
length-frames_from labels (move ∷ moves) = ap suc (length-frames_from (moved move labels) moves)

-- where no move is left they are all
pub made_all : (n : ℕ) (moves : List Move) (frames : List Frame) (labels : Labels) (i : ℕ) → HasMade n moves frames labels i → length moves ≤ i
    → length frames ≡ length moves + 1
made_all n moves frames labels i has past =
    ap length (sym (append-nil frames) ∙ ap (λ (rest : List Move). frames ++ frames_from labels rest) (sym (drop_all i moves past)) ∙ has.frames_are)
    ∙ ap suc (length-frames_from (start_labels n) moves) ∙ sym (add-one (length moves))

-- what is read off the labels of frame `k`, from these labels on
pub at_frame : {A : Type 0} (read : Labels → A) (made : Option Move) (labels : Labels) (moves : List Move) (k : ℕ) → k ≤ length moves
    → option_map (λ (f : Frame). read f.labels) (slice_get (frame made labels ∷ frames_from labels moves) k) ≡ Some (read (labels_moved labels (take k moves)))
at_frame read made labels moves zero within = refl
at_frame read made labels [] (suc k) within = absurd (omega (arith, within))
at_frame read made labels (move ∷ moves) (suc k) within = at_frame read (Some move) (moved move labels) moves k (omega (arith, within))

pub frames_law : FramesLaw
frames_law n moves k within = (
  at_frame (λ (l : Labels). l) None (start_labels n) moves k within,
  at_frame label_ranks None (start_labels n) moves k within ∙ ap Some (moves_law n (take k moves)).ranks,
)
