-- The numbers of steps.
use Rattle.std.specs.Prelude.{ℕ, List, ◌++◌, codes}
use Rattle.ticklab_draw.specs.declared.pieces.TheConstants.{AND_Y, STEP_AT, TEXT_END}
use Rattle.ticklab_draw.specs.Writing.{one_number, two_numbers}

-- the number of a step at this place, after these words
unfoldable pub step_text : ℕ → ℕ → List ℕ → ℕ → List ℕ
step_text x y words step = two_numbers STEP_AT.now x AND_Y.now y (codes "\">") ++ one_number words step TEXT_END.now
