-- The faults of a code, and which lists of instructions have none.
use Rattle.std.specs.Prelude.{◌≡◌, ℕ, zero, suc, ◌+◌, ◌==◌, nat_lt, Bool, true, false, ◌&&◌, ◌||◌, not, if◌then◌else◌, List, [], ◌∷◌, ◌++◌, length, slice_get, Option, Some, None}
use Rattle.code_core.specs.declared.instr.Instr.{Instr}
use Rattle.code_core.specs.declared.instr.Instr.TheVariants as I
use Rattle.code_core.specs.declared.fault.CodeFault.{CodeFault}
use Rattle.code_core.specs.declared.fault.CodeFault.TheVariants as F
use Rattle.code_core.specs.Instructions.{CodeSizes, pops, left, target, goes_on, fits}
use Rattle.code_core.specs.Heights.{Placed, jump_height, placed}

abbrev pub is_load : Option Instr → Bool
is_load (Some I.LoadWord) = true
is_load _ = false

abbrev pub is_next : Option Instr → Bool
is_next (Some I.Next) = true
is_next _ = false

abbrev pub is_exchange : Option Instr → Bool
is_exchange (Some (I.Exchange l)) = true
is_exchange _ = false

-- the instruction before a place
abbrev pub before : List Instr → ℕ → Option Instr
before code zero = None
before code (suc k) = slice_get code k

-- whether the instruction at place `k` breaks a stamp, which is LoadWord, Next and Exchange in a row:
-- the exchange goes back to the load, and nothing jumps to the second or the third
abbrev pub bad_stamp : List Instr → ℕ → Instr → Bool
bad_stamp code k I.LoadWord = not (is_next (slice_get code (k + 1)))
bad_stamp code k I.Next = not (is_load (before code k) && is_exchange (slice_get code (k + 1)))
bad_stamp code k (I.Exchange l) = not (is_next (before code k) && (l + 2 == k))
bad_stamp code k (I.JumpZero l) = is_next (slice_get code l) || is_exchange (slice_get code l)
bad_stamp code k (I.Jump l) = is_next (slice_get code l) || is_exchange (slice_get code l)
bad_stamp code k _ = false

-- whether a height is known, and another than `h`
abbrev pub differs : Option ℕ → ℕ → Bool
differs None h = false
differs (Some known) h = not (known == h)

abbrev pub is_past : Option ℕ → ℕ → Bool
is_past None end = false
is_past (Some l) end = not (nat_lt l end)

abbrev pub height_of : Option Placed → Option ℕ
height_of None = None
height_of (Some e) = Some e.1

-- what is known of the height of a place once these were passed: its own, else what the first jump
-- to it leaves
abbrev pub known : List Placed → ℕ → Option ℕ
known passed place = if nat_lt place (length passed) then height_of (slice_get passed place) else jump_height passed place

abbrev pub known_to : List Placed → Option ℕ → Option ℕ
known_to passed None = None
known_to passed (Some l) = known passed l

-- The first fault of the instruction `i` at place `k` of the code, of height `h`. An earlier jump to
-- it left `came`, and `there` is what is known of the place to which it jumps.
abbrev pub fault_at : CodeSizes → List Instr → ℕ → Instr → ℕ → Option ℕ → Option ℕ → Option CodeFault
fault_at sizes code k i h came there =
    if differs came h then Some (F.HeightsDiffer k)
    else if not (fits sizes i) then Some (F.BadSlot k)
    else if is_past (target i) (length code) then Some (F.BadJump k)
    else if nat_lt h (pops i) then Some (F.StackShort k)
    else if bad_stamp code k i then Some (F.BadStamp k)
    else if differs there (left i h) then Some (F.HeightsDiffer k)
    else if goes_on i && (k + 1 == length code) then Some (F.FallsOff k)
    else None

abbrev pub or_else : Option CodeFault → Option CodeFault → Option CodeFault
or_else None next = next
or_else (Some fault) next = Some fault

-- the first fault at a place from here on, where `passed` came before
abbrev pub first_fault : CodeSizes → List Instr → List Placed → List Placed → Option CodeFault
first_fault sizes code passed [] = None
first_fault sizes code passed (e ∷ es) =
    or_else
    (fault_at sizes code (length passed) e.0 e.1 (jump_height passed (length passed)) (known_to (passed ++ e ∷ []) (target e.0)))
    (first_fault sizes code (passed ++ e ∷ []) es)

-- the fault that is told of a list of instructions, if there is one
abbrev pub code_fault : CodeSizes → List Instr → Option CodeFault
code_fault sizes code =
    if length code == 0 then Some F.Empty
    else if nat_lt 65535 (length code) then Some F.TooLong
    else first_fault sizes code [] (placed code)

abbrev pub IsVerified : CodeSizes → List Instr → Type 0
IsVerified sizes code = code_fault sizes code ≡ None
