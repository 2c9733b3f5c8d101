-- The height of the stack at each place of a code.
use Rattle.std.specs.Prelude.{ℕ, ◌==◌, Bool, false, if◌then◌else◌, max, List, [], ◌∷◌, ◌++◌, length, map, slice_index, Option, Some, None}
use Rattle.code_core.specs.declared.instr.Instr.{Instr}
use Rattle.code_core.specs.Instructions.{left, target, goes_on}

-- an instruction, and the height of its place
abbrev pub Placed : Type 0
Placed = Instr × ℕ

abbrev pub jumps_to : Option ℕ → ℕ → Bool
jumps_to None place = false
jumps_to (Some l) place = l == place

-- what the first of these that jumps to `place` leaves
abbrev pub jump_height : List Placed → ℕ → Option ℕ
jump_height [] place = None
jump_height (e ∷ es) place = if jumps_to (target e.0) place then Some (left e.0 e.1) else jump_height es place

-- the height that the instruction before leaves, else the one that a jump leaves, else 0
abbrev pub height_by : Option ℕ → Option ℕ → ℕ
height_by (Some h) jump = h
height_by None (Some h) = h
height_by None None = 0

-- the height that is left to the next place, where the instruction goes on to it
abbrev pub hands_on : Instr → ℕ → Option ℕ
hands_on i h = if goes_on i then Some (left i h) else None

-- The instructions with the heights of their places, where `passed` came before and left `before`.
abbrev pub placed_from : List Instr → List Placed → Option ℕ → List Placed
placed_from [] passed before = []
placed_from (i ∷ is) passed before =
    let h = height_by before (jump_height passed (length passed)) in
    (i, h) ∷ placed_from is (passed ++ (i, h) ∷ []) (hands_on i h)

abbrev pub placed : List Instr → List Placed
placed code = placed_from code [] (Some 0)

abbrev pub heights : List Instr → List ℕ
heights code = map (λ e. e.1) (placed code)

abbrev pub height_at : List Instr → ℕ → ℕ
height_at code place = slice_index (heights code) place

abbrev pub greatest : List ℕ → ℕ
greatest [] = 0
greatest (h ∷ hs) = max h (greatest hs)

-- the greatest height of any place
abbrev pub greatest_height : List Instr → ℕ
greatest_height code = greatest (heights code)
