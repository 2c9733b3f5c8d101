-- What the reading of a schedule keeps from byte to byte, and what is known of the steps that it reads.
--
-- The invariant is `HasStepsTo`: the steps so far and the pieces from `start` on make the whole. A byte that
-- is no blank keeps it (`piece_goes_on`). A blank ends a piece, which is added (`piece_added`) or has the
-- fault of the whole text (`piece_faulty`). At the end of the text stands the last piece (`last_piece`).
-- The difficulty is that the definition splits all of the text at blanks, but the code goes byte by byte.
-- `piece_ended` joins the two: the text from `start` splits into the piece and the pieces after the blank.
-- In the second part, a property that each piece keeps is shown of all that is read (`all_pieces-keep`):
-- processes are in range (`schedule_of-below`), and there are at most 10,000,000 steps (`schedule_of-short`).
-- Read `piece_ended` first.
use Rattle.std.proofs.Common.{◌≡◌, ◌==◌, ◌∙◌, ◌+◌, ◌-◌, ◌<◌, ◌≤◌, ◌∷◌, ◌++◌, ℕ, List, [], Ok, Err, Result, Bool, ap, ap₂, append_assoc, arith, drop, get_or, length, refl, subst, sym, take, true, false, cond, leb-false, replicate, nat_le, nat_lt, Option, Some, None}
use Rattle.std.specs.List.{All, slice_split}
use Rattle.std.proofs.Math.ListN.{length-drop, length-take}
use Rattle.std.proofs.lemmas.Bool.{le-leb, le-ltb, lt-leb, lt-ltb, ltb-false}
use Rattle.std.proofs.lemmas.List.{drop-drop, drop_more, get_or-drop, length-append, length-replicate, replicate_more, take-append-drop, take_rest}
use Rattle.std.proofs.lemmas.List.Elements.{All-append, All-more, All-nil, All-replicate}
use Rattle.std.proofs.lemmas.List.Splits.{slice_split_at, slice_split_none}
use Rattle.base.specs.Blanks.{is_blank}
use Rattle.language_schedules.specs.Schedule.{Adds, all_pieces, item_of, schedule_of, with_item, with_piece, with_pieces}
use Rattle.ticket_core.specs.declared.moves.Move.{Move}
use Rattle.ticket_core.specs.declared.moves.Move.TheVariants.{Stamp, Clear}
use Rattle.language_schedules.specs.Moves.{moves_of, mover, with_moves}
use Rattle.language_schedules.specs.declared.schedule.Item.{Item}
use Rattle.language_schedules.specs.declared.schedule.ScheduleFault.{ScheduleFault}
use Rattle.language_schedules.specs.declared.schedule.ScheduleFault.TheVariants.{BadItem, NoSuchProcess, TooLong, NoMemory}
use Rattle.language_schedules.specs.prover.Misfits.{IsMisfit}

-- the steps so far and the pieces from `start` on make the whole, and no blank stands between
-- `start` and `place`
pub record HasStepsTo {S : Type 0} (add : Adds S) (bytes : List ℕ) (steps : List S) (start place : ℕ) : Type 0 where
  pub order : start ≤ place
  pub open_piece : All (λ byte. is_blank byte ≡ false) (take (place - start) (drop start bytes))
  pub same : with_pieces add start (Ok steps) (slice_split is_blank (drop start bytes)) ≡ all_pieces add bytes

pub with_pieces-err : {S : Type 0} (add : Adds S) (place : ℕ) (fault : ScheduleFault) (pieces : List (List ℕ)) → with_pieces add place (Err fault) pieces ≡ Err fault
with_pieces-err add place fault [] = refl
with_pieces-err add place fault (piece ∷ pieces) = refl

from_start : (bytes : List ℕ) (start place : ℕ) → start ≤ place → drop (place - start) (drop start bytes) ≡ drop place bytes
from_start bytes start place order =
    let whole : start + (place - start) ≡ place = omega arith in
    drop-drop (place - start) start bytes ∙ ap (λ (i : ℕ). drop i bytes) whole

-- a blank at `place` ends the piece that began at `start`
pub piece_ended : {S : Type 0} (add : Adds S) (bytes : List ℕ) (steps : List S) (start place : ℕ)
    → HasStepsTo add bytes steps start place
    → place < length bytes
    → is_blank (get_or bytes place 0) ≡ true
    → with_pieces add (place + 1) (add start steps (take (place - start) (drop start bytes))) (slice_split is_blank (drop (place + 1) bytes))
    ≡ all_pieces add bytes
piece_ended add bytes steps start place has within blank =
    let ordered : start ≤ place = has.order in
    let piece : List ℕ = take (place - start) (drop start bytes) in
    let rest : List ℕ = drop (place + 1) bytes in
    let cut : drop start bytes ≡ piece ++ get_or bytes place 0 ∷ rest =
    sym (take-append-drop (place - start) (drop start bytes))
    ∙ ap (λ (tail : List ℕ). piece ++ tail) (from_start bytes start place ordered ∙ drop_more bytes place 0 within) in
    let parts : slice_split is_blank (drop start bytes) ≡ piece ∷ slice_split is_blank rest =
    ap (slice_split is_blank) cut ∙ slice_split_at is_blank piece (get_or bytes place 0) rest has.open_piece blank in
    let next : start + length piece + 1 ≡ place + 1 = omega (arith, length-take (place - start) (drop start bytes), length-drop start bytes) in
    ap (λ (from : ℕ). with_pieces add from (add start steps piece) (slice_split is_blank rest)) (sym next)
    ∙ ap (with_pieces add start (Ok steps)) (sym parts) ∙ has.same

-- and the next piece begins after it
pub piece_added : {S : Type 0} (add : Adds S) (bytes : List ℕ) (steps more : List S) (start place : ℕ)
    → HasStepsTo add bytes steps start place
    → place < length bytes
    → is_blank (get_or bytes place 0) ≡ true
    → add start steps (take (place - start) (drop start bytes)) ≡ Ok more
    → HasStepsTo add bytes more (place + 1) (place + 1)
piece_added {S} add bytes steps more start place has within blank added = record {
  order = omega arith;
  open_piece = let none : place + 1 - (place + 1) ≡ 0 = omega arith in rw none (All-nil (λ (byte : ℕ). is_blank byte ≡ false));
  same = ap (λ (steps : Result (List S) ScheduleFault). with_pieces add (place + 1) steps (slice_split is_blank (drop (place + 1) bytes))) (sym added)
      ∙ piece_ended add bytes steps start place has within blank;
}

pub piece_faulty : {S : Type 0} (add : Adds S) (bytes : List ℕ) (steps : List S) (start place : ℕ) (fault : ScheduleFault)
    → HasStepsTo add bytes steps start place
    → place < length bytes
    → is_blank (get_or bytes place 0) ≡ true
    → add start steps (take (place - start) (drop start bytes)) ≡ Err fault
    → all_pieces add bytes ≡ Err fault
piece_faulty {S} add bytes steps start place fault has within blank faulty =
    let rest : List (List ℕ) = slice_split is_blank (drop (place + 1) bytes) in
    sym (piece_ended add bytes steps start place has within blank)
    ∙ ap (λ (steps : Result (List S) ScheduleFault). with_pieces add (place + 1) steps rest) faulty
    ∙ with_pieces-err add (place + 1) fault rest

-- another byte belongs to the piece
pub piece_goes_on : {S : Type 0} (add : Adds S) (bytes : List ℕ) (steps : List S) (start place : ℕ)
    → HasStepsTo add bytes steps start place
    → place < length bytes
    → is_blank (get_or bytes place 0) ≡ false
    → HasStepsTo add bytes steps start (place + 1)
piece_goes_on add bytes steps start place has within no_blank = record {
  order = let ordered : start ≤ place = has.order in omega arith;
  open_piece =
      let ordered : start ≤ place = has.order in
      let tail : List ℕ = drop start bytes in
      let longer : place + 1 - start ≡ place - start + 1 = omega arith in
      let there : place - start < length tail = omega (arith, length-drop start bytes) in
      let whole : start + (place - start) ≡ place = omega arith in
      let byte : get_or tail (place - start) 0 ≡ get_or bytes place 0 = get_or-drop start bytes (place - start) 0 ∙ ap (λ (i : ℕ). get_or bytes i 0) whole in
      let Open : ℕ → Type 0 = λ byte. is_blank byte ≡ false in
      subst (λ (i : ℕ). All Open (take i tail)) (sym longer) (All-more Open tail (place - start) 0 there has.open_piece (ap is_blank byte ∙ no_blank));
  same = has.same;
}

-- what stands after the last blank is the last piece
pub last_piece : {S : Type 0} (add : Adds S) (bytes : List ℕ) (steps : List S) (start place : ℕ)
    → HasStepsTo add bytes steps start place
    → place ≡ length bytes
    → add start steps (take (length bytes - start) (drop start bytes)) ≡ all_pieces add bytes
last_piece add bytes steps start place has at_end =
    let Open : ℕ → Type 0 = λ byte. is_blank byte ≡ false in
    let open_piece : All Open (take (length bytes - start) (drop start bytes)) =
    subst (λ (end : ℕ). All Open (take (end - start) (drop start bytes))) at_end has.open_piece in
    let no_blank : All Open (drop start bytes) = subst (All Open) (take_rest bytes start) open_piece in
    ap (add start steps) (take_rest bytes start)
    ∙ ap (with_pieces add start (Ok steps)) (sym (slice_split_none is_blank (drop start bytes) no_blank)) ∙ has.same

-- an item that fits is added, and one that doesn't is told
pub item_fits : {S : Type 0} (make : ℕ → S) (n place : ℕ) (steps : List S) (item : Item) → item.process < n → length steps + item.steps ≤ 10000000
    → with_item make n place steps (Some item) ≡ Ok (steps ++ replicate item.steps (make item.process))
item_fits make n place steps item below few = rw (lt-leb n item.process below, le-ltb 10000000 (length steps + item.steps) few) refl

pub item_misfits : {S : Type 0} (make : ℕ → S) (n place : ℕ) (steps : List S) (item : Item) (fault : ScheduleFault) → IsMisfit n place (length steps) item fault
    → with_item make n place steps (Some item) ≡ Err fault
item_misfits make n place steps item (BadItem at) misfit = absurd misfit
item_misfits make n place steps item (NoSuchProcess at) misfit = rw (le-leb n item.process misfit.1) (ap (λ (p : ℕ). Err (NoSuchProcess p)) (sym misfit.0))
item_misfits make n place steps item TooLong misfit = rw (lt-leb n item.process misfit.0, lt-ltb 10000000 (length steps + item.steps) misfit.1) refl
item_misfits make n place steps item NoMemory misfit = absurd misfit

-- the same where they were counted, and each step was added
pub item_pushed : {S : Type 0} (make : ℕ → S) (n place : ℕ) (steps new : List S) (item : Item) (count process counter : ℕ) (made : S)
    → count ≡ length steps
    → (process ≡ item.process) × (process < n) × (count + item.steps ≤ 10000000)
    → made ≡ make process → item.steps ≤ counter → counter ≤ item.steps
    → new ≡ steps ++ replicate counter made
    → with_item make n place steps (Some item) ≡ Ok new
item_pushed {S} make n place steps new item count process counter made counted fits making more less is =
    let all : counter ≡ item.steps = omega arith in
    item_fits make n place steps item (omega (arith, fits.0, fits.1)) (omega (arith, fits.2))
    ∙ ap (λ (l : List S). Ok l) (sym (is ∙ ap₂ (λ (k : ℕ) (step : S). steps ++ replicate k step) all (making ∙ ap make fits.0)))

-- one step more
pub step_pushed : {S : Type 0} (made : S) (k : ℕ) (steps held new : List S) → held ≡ steps ++ replicate k made → new ≡ held ++ made ∷ []
    → new ≡ steps ++ replicate (k + 1) made
step_pushed {S} made k steps held new is pushed =
    pushed ∙ ap (λ (l : List S). l ++ made ∷ []) is ∙ append_assoc steps (replicate k made) (made ∷ [])
    ∙ ap (λ (l : List S). steps ++ l) (replicate_more k made)

pub item_refused : {S : Type 0} (make : ℕ → S) (n place : ℕ) (steps : List S) (item : Item) (fault : ScheduleFault) (count : ℕ)
    → count ≡ length steps → IsMisfit n place count item fault → with_item make n place steps (Some item) ≡ Err fault
item_refused make n place steps item fault count counted misfit =
    item_misfits make n place steps item fault (subst (λ k. IsMisfit n place k item fault) counted misfit)

-- What items keep, where each is of a process below `n` and leads to no more than 10,000,000 steps.
module _ {S : Type 0} (make : ℕ → S) (n : ℕ) (P : List S → Type 0)
    (grows : (steps : List S) (item : Item) → item.process < n → length steps + item.steps ≤ 10000000 → P steps → P (steps ++ replicate item.steps (make item.process))) where
  pub with_item-keeps : (place : ℕ) (steps more : List S) (item : Option Item) → P steps → with_item make n place steps item ≡ Ok more → P more
  with_item-keeps place steps more None held is = cc
  with_item-keeps place steps more (Some item) held is =
      in_range (nat_le n item.process) refl is
    where
      short_enough : item.process < n → (b : Bool) → nat_lt 10000000 (length steps + item.steps) ≡ b
          → cond b (Err TooLong) (Ok (steps ++ replicate item.steps (make item.process))) ≡ Ok more → P more
      short_enough below true test is = cc
      short_enough below false test is =
          let same : steps ++ replicate item.steps (make item.process) ≡ more = cc in
          subst P same (grows steps item below (ltb-false 10000000 (length steps + item.steps) test) held)

      in_range : (b : Bool) → nat_le n item.process ≡ b
          → cond b (Err (NoSuchProcess place)) (cond (nat_lt 10000000 (length steps + item.steps)) (Err TooLong) (Ok (steps ++ replicate item.steps (make item.process)))) ≡ Ok more
          → P more
      in_range true test is = cc
      in_range false test is = short_enough (leb-false n item.process test) (nat_lt 10000000 (length steps + item.steps)) refl is

-- What each piece keeps, all pieces keep.
module _ {S : Type 0} (add : Adds S) (P : List S → Type 0)
    (piece-keeps : (place : ℕ) (steps more : List S) (piece : List ℕ) → P steps → add place steps piece ≡ Ok more → P more) where
  with_pieces-keeps : (place : ℕ) (steps : Result (List S) ScheduleFault) (pieces : List (List ℕ)) (more : List S)
      → ((held : List S) → steps ≡ Ok held → P held) → with_pieces add place steps pieces ≡ Ok more → P more
  with_pieces-keeps place steps [] more held is = held more is
  with_pieces-keeps place (Err fault) (piece ∷ pieces) more held is = cc
  with_pieces-keeps place (Ok steps) (piece ∷ pieces) more held is =
      with_pieces-keeps (place + length piece + 1) (add place steps piece) pieces more
      (λ read piece_is. piece-keeps place steps read piece (held steps refl) piece_is) is

  pub all_pieces-keep : P [] → (text : List ℕ) (steps : List S) → all_pieces add text ≡ Ok steps → P steps
  all_pieces-keep none text steps is =
      with_pieces-keeps 0 (Ok []) (slice_split is_blank text) steps (λ held empty. let same : [] ≡ held = cc in subst P same none) is

-- each step of a schedule is one of the processes

schedule_of-keeps : (n : ℕ) (P : List ℕ → Type 0)
    → ((steps : List ℕ) (item : Item) → item.process < n → length steps + item.steps ≤ 10000000 → P steps → P (steps ++ replicate item.steps item.process))
    → P [] → (text steps : List ℕ) → schedule_of n text ≡ Ok steps → P steps
schedule_of-keeps n P grows none text steps is = all_pieces-keep (with_piece n) P piece none text steps is
  where
    piece : (place : ℕ) (steps more text : List ℕ) → P steps → with_piece n place steps text ≡ Ok more → P more
    piece place steps more [] held is = let same : steps ≡ more = cc in subst P same held
    piece place steps more (byte ∷ bytes) held is = with_item-keeps (λ p. p) n P grows place steps more (item_of (byte ∷ bytes)) held is

pub schedule_of-below : (n : ℕ) (text steps : List ℕ) → schedule_of n text ≡ Ok steps → All (λ p. p < n) steps
schedule_of-below n text steps is =
    schedule_of-keeps n (All (λ (p : ℕ). p < n))
    (λ held item below short all. All-append (λ (p : ℕ). p < n) held (replicate item.steps item.process) all (All-replicate (λ (p : ℕ). p < n) item.steps item.process below))
    (All-nil (λ (p : ℕ). p < n)) text steps is

pub schedule_of-short : (n : ℕ) (text steps : List ℕ) → schedule_of n text ≡ Ok steps → length steps ≤ 10000000
schedule_of-short n text steps is =
    schedule_of-keeps n (λ steps. length steps ≤ 10000000)
    (λ held item below short few. omega (arith, length-append held (replicate item.steps item.process), length-replicate item.steps item.process))
    (omega arith) text steps is

-- the same of moves

moves_of-keeps : (n : ℕ) (P : List Move → Type 0)
    → ((make : ℕ → Move) → ((p : ℕ) → mover (make p) ≡ p) → (moves : List Move) (item : Item) → item.process < n
    → length moves + item.steps ≤ 10000000 → P moves → P (moves ++ replicate item.steps (make item.process)))
    → P [] → (text : List ℕ) (moves : List Move) → moves_of n text ≡ Ok moves → P moves
moves_of-keeps n P grows none text moves is = all_pieces-keep (with_moves n) P piece none text moves is
  where
    piece : (place : ℕ) (moves more : List Move) (text : List ℕ) → P moves → with_moves n place moves text ≡ Ok more → P more
    piece place moves more [] held is = let same : moves ≡ more = cc in subst P same held
    piece place moves more (byte ∷ bytes) held is = by_letter (byte == 99) is
      where
        by_letter : (clears : Bool)
            → cond clears (with_item Clear n place moves (item_of bytes)) (with_item Stamp n place moves (item_of (byte ∷ bytes))) ≡ Ok more → P more
        by_letter true is = with_item-keeps Clear n P (grows Clear (λ p. refl)) place moves more (item_of bytes) held is
        by_letter false is = with_item-keeps Stamp n P (grows Stamp (λ p. refl)) place moves more (item_of (byte ∷ bytes)) held is

pub moves_of-below : (n : ℕ) (text : List ℕ) (moves : List Move) → moves_of n text ≡ Ok moves → All (λ move. mover move < n) moves
moves_of-below n text moves is =
    moves_of-keeps n (All (λ (move : Move). mover move < n))
    (λ make moves_it held item below short all.
    All-append (λ (move : Move). mover move < n) held (replicate item.steps (make item.process)) all
    (All-replicate (λ (move : Move). mover move < n) item.steps (make item.process) (subst (λ (p : ℕ). p < n) (sym (moves_it item.process)) below)))
    (All-nil (λ (move : Move). mover move < n)) text moves is

pub moves_of-short : (n : ℕ) (text : List ℕ) (moves : List Move) → moves_of n text ≡ Ok moves → length moves ≤ 10000000
moves_of-short n text moves is =
    moves_of-keeps n (λ moves. length moves ≤ 10000000)
    (λ make moves_it held item below short few. omega (arith, length-append held (replicate item.steps (make item.process)), length-replicate item.steps (make item.process)))
    (omega arith) text moves is
