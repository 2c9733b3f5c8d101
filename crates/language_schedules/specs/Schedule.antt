-- Schedules as texts. Blanks separate items; the item `P` is one step of process P, and `P*K` is K
-- of them.
use Rattle.std.specs.Prelude.{ℕ, ◌+◌, nat_le, nat_lt, ◌==◌, Bool, List, [], ◌∷◌, ◌++◌, drop, length, replicate, take, Option, Some, None, Result, Ok, Err, if◌then◌else◌}
use Rattle.std.specs.List.{position, slice_split}
use Rattle.base.specs.Blanks.{is_blank}
use Rattle.base.specs.Number.{capped, number_of}
use Rattle.language_schedules.specs.declared.schedule.Item.{Item}
use Rattle.language_schedules.specs.declared.schedule.ScheduleFault.{ScheduleFault}
use Rattle.language_schedules.specs.declared.schedule.ScheduleFault.TheVariants.{BadItem, NoSuchProcess, TooLong}

abbrev pub is_star : ℕ → Bool
is_star byte = byte == 42

-- an item of this process and this number of steps, at least 1
abbrev pub item_of_numbers : Option ℕ → Option ℕ → Option Item
item_of_numbers None steps = None
item_of_numbers (Some process) None = None
item_of_numbers (Some process) (Some steps) =
    if nat_lt 0 steps then Some (record { process = process; steps = steps }) else None

-- the item that a text spells, of which the first star is at this place
abbrev pub item_cut : Option ℕ → List ℕ → Option Item
item_cut None text = item_of_numbers (number_of text) (Some 1)
item_cut (Some star) text =
    item_of_numbers (number_of (take star text)) (number_of (drop (star + 1) text))

abbrev pub item_of : List ℕ → Option Item
item_of text = item_cut (position is_star text) text

-- an item as it is read, its numbers capped
abbrev pub capped_item : Item → Item
capped_item item = record { process = capped item.process; steps = capped item.steps }

-- the steps so far and then those of an item, each made of its process
abbrev pub with_item : {S : Type 0} → (ℕ → S) → ℕ → ℕ → List S → Option Item → Result (List S) ScheduleFault
with_item make n place steps None = Err (BadItem place)
with_item make n place steps (Some item) =
    if nat_le n item.process then Err (NoSuchProcess place)
    else if nat_lt 10000000 (length steps + item.steps) then Err TooLong
    else Ok (steps ++ replicate item.steps (make item.process))

-- the steps so far and then those of the piece of text at this place, where an empty piece has none
abbrev pub with_piece : ℕ → ℕ → List ℕ → List ℕ → Result (List ℕ) ScheduleFault
with_piece n place steps [] = Ok steps
with_piece n place steps (byte ∷ bytes) = with_item (λ process. process) n place steps (item_of (byte ∷ bytes))

-- what a piece of text at a place adds to what was read before it
abbrev pub Adds : Type 0 → Type 0
Adds S = ℕ → List S → List ℕ → Result (List S) ScheduleFault

-- the same for pieces in order, with a blank between each two, where `add` adds those of one piece
abbrev pub with_pieces : {S : Type 0} → Adds S → ℕ → Result (List S) ScheduleFault → List (List ℕ) → Result (List S) ScheduleFault
with_pieces add place steps [] = steps
with_pieces add place (Err fault) (piece ∷ pieces) = Err fault
with_pieces add place (Ok steps) (piece ∷ pieces) = with_pieces add (place + length piece + 1) (add place steps piece) pieces

-- all that a text spells
abbrev pub all_pieces : {S : Type 0} → Adds S → List ℕ → Result (List S) ScheduleFault
all_pieces add text = with_pieces add 0 (Ok []) (slice_split is_blank text)

-- the steps of `n` processes that a text spells, or the fault of its first faulty item
abbrev pub schedule_of : ℕ → List ℕ → Result (List ℕ) ScheduleFault
schedule_of n text = all_pieces (with_piece n) text
