-- Small schedules, and their texts.
use Rattle.std.proofs.Common.{◌≡◌, [], ◌∷◌, Ok, Err, codes, refl}
use Rattle.std.specs.Fmt.{digits}
use Rattle.language_schedules.specs.declared.schedule.ScheduleFault.TheVariants.{BadItem, NoSuchProcess, TooLong}
use Rattle.ticket_core.specs.declared.moves.Move.TheVariants.{Stamp, Clear}
use Rattle.language_schedules.specs.Moves.{moves_of}
use Rattle.language_schedules.specs.Schedule.{schedule_of}
use Rattle.language_schedules.specs.Written.{schedule_text}

no_steps : schedule_text [] ≡ []
unfolding digits
no_steps = refl

one_step : schedule_text (3 ∷ []) ≡ codes "3"
unfolding digits
one_step = refl

longest_runs : schedule_text (1 ∷ 1 ∷ 0 ∷ 1 ∷ 1 ∷ 1 ∷ []) ≡ codes "1*2 0 1*3"
unfolding digits
longest_runs = refl

blanks_around : schedule_of 2 (codes " 1*2  0 ") ≡ Ok (1 ∷ 1 ∷ 0 ∷ [])
blanks_around = refl

leading_zeros : schedule_of 2 (codes "01*02") ≡ Ok (1 ∷ 1 ∷ [])
leading_zeros = refl

-- the last: a `c` begins no item of a schedule
refused :
    (schedule_of 2 (codes "0 2") ≡ Err (NoSuchProcess 2)) × (schedule_of 2 (codes "0*0") ≡ Err (BadItem 0))
    × (schedule_of 2 (codes "0*10000001") ≡ Err TooLong) × (schedule_of 2 (codes "0 c0") ≡ Err (BadItem 2))
refused = (refl, refl, refl, refl)

stamps_and_clears : moves_of 2 (codes "0 c0*2 01 c1") ≡ Ok (Stamp 0 ∷ Clear 0 ∷ Clear 0 ∷ Stamp 1 ∷ Clear 1 ∷ [])
stamps_and_clears = refl

-- after the `c` stands an item of a schedule
no_item_after :
    (moves_of 2 (codes "0 c") ≡ Err (BadItem 2)) × (moves_of 2 (codes "c 0") ≡ Err (BadItem 0))
    × (moves_of 2 (codes "cc0") ≡ Err (BadItem 0)) × (moves_of 2 (codes "c*2") ≡ Err (BadItem 0))
no_item_after = (refl, refl, refl, refl)

clear_stranger : moves_of 2 (codes "0 c2") ≡ Err (NoSuchProcess 2)
clear_stranger = refl

clears_too_long : moves_of 2 (codes "0 c0*10000000") ≡ Err TooLong
clears_too_long = refl
