-- Stamps and clears as texts. The items are those of a schedule: an item stands for stamps, and with a `c`
-- before it for clears.
use Rattle.std.specs.Prelude.{ℕ, ◌==◌, List, [], ◌∷◌, Result, Ok, if◌then◌else◌}
use Rattle.ticket_core.specs.declared.moves.Move.{Move}
use Rattle.ticket_core.specs.declared.moves.Move.TheVariants.{Stamp, Clear}
use Rattle.language_schedules.specs.Schedule.{all_pieces, item_of, with_item}
use Rattle.language_schedules.specs.declared.schedule.ScheduleFault.{ScheduleFault}

-- the process that moves
abbrev pub mover : Move → ℕ
mover (Stamp p) = p
mover (Clear p) = p

-- the moves so far and then those of the piece of text at this place, where an empty piece has none
abbrev pub with_moves : ℕ → ℕ → List Move → List ℕ → Result (List Move) ScheduleFault
with_moves n place moves [] = Ok moves
with_moves n place moves (byte ∷ bytes) =
    if byte == 99 then with_item Clear n place moves (item_of bytes)
    else with_item Stamp n place moves (item_of (byte ∷ bytes))

-- the moves of `n` processes that a text spells, or the fault of its first faulty item
abbrev pub moves_of : ℕ → List ℕ → Result (List Move) ScheduleFault
moves_of n text = all_pieces (with_moves n) text
