-- Lines of the other answers.
use Rattle.std.specs.Prelude.{◌++◌, ◌-◌, ℕ, ◌+◌, List, codes}
use Rattle.std.specs.Fmt.{decimal}

-- an input that is taken, and one with a schedule that is
abbrev pub taken_line : List ℕ → List ℕ
taken_line name = name ++ codes ": nothing is wrong\n"

abbrev pub both_taken_line : List ℕ → List ℕ
both_taken_line name = name ++ codes ": nothing is wrong, nor with the schedule\n"

-- labels that aren't drawn
abbrev pub number_line : List ℕ
number_line = codes "N: error: there are 1 to 6 processes\n"

abbrev pub many_line : ℕ → List ℕ
many_line count = codes "STAMPS: error: there are " ++ decimal count ++ codes " moves, and at most 400 are drawn\n"
