-- The heights of a code whose jumps all leave the stack empty.
--
-- In the code of a program every jump leaves the stack empty, and goes to a place where it is empty. So the
-- height of a place follows from the instruction before it. It is what that instruction leaves if it goes on
-- to the place, and 0 after a jump or the end.
use Rattle.std.specs.Prelude.{ℕ, List, [], ◌∷◌, map, unwrap_or}
use Rattle.code_core.specs.declared.instr.Instr.{Instr}
use Rattle.code_core.specs.Heights.{Placed, greatest, hands_on}

-- the height of the place after an instruction
abbrev pub after : Instr → ℕ → ℕ
after i h = unwrap_or (hands_on i h) 0

-- the instructions with the heights of their places, of which the first has this one
abbrev pub paired : ℕ → List Instr → List Placed
paired h [] = []
paired h (i ∷ is) = (i, h) ∷ paired (after i h) is

abbrev pub greatest_from : ℕ → List Instr → ℕ
greatest_from h is = greatest (map (λ e. e.1) (paired h is))
