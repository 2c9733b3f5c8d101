-- The word for what is found of a file, and its states.
use Rattle.std.specs.Prelude.{ℕ, List, codes, Option, Some, None}
use Rattle.ticklab_check.specs.declared.found.Found.{Found}
use Rattle.ticklab_check.specs.declared.found.Found.TheVariants as F

abbrev pub found_word : Found → List ℕ
found_word (F.Safe states) = codes "safe"
found_word (F.Ends states) = codes "safe"
found_word F.Trap = codes "trap"
found_word F.Never = codes "never"
found_word (F.Stuck states) = codes "stuck"
found_word (F.Endless states) = codes "endless"
found_word (F.NotWaitFree states) = codes "not_wait_free"
found_word (F.NotAlone states) = codes "not_alone"
found_word (F.Limit states) = codes "limit"

-- how many merged states there are, where that is known
abbrev pub states_of : Found → Option ℕ
states_of (F.Safe states) = Some states
states_of (F.Ends states) = Some states
states_of F.Trap = None
states_of F.Never = None
states_of (F.Stuck states) = Some states
states_of (F.Endless states) = Some states
states_of (F.NotWaitFree states) = Some states
states_of (F.NotAlone states) = Some states
states_of (F.Limit states) = Some states
