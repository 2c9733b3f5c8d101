-- What is drawn once, and used in each frame. The texts are constants of the code.
use Rattle.std.specs.Prelude.{ℕ, ◌==◌, nat_lt, List, ◌++◌, if◌then◌else◌}
use Rattle.ticklab_draw.specs.labels.Layout.{is_nested}
use Rattle.ticklab_draw.specs.declared.labels.shapes.TheConstants.{DIGITS, ONE_CYCLE, ONE_PLACE, PROCESSES, ROW_OF_FIVE, ROW_OF_SIX, STYLE, THREE_CYCLES, TOLD_OF_CYCLES, TOLD_OF_ROWS, TWO_CYCLES}

-- how to read the picture
abbrev pub told : ℕ → List ℕ
told n = if is_nested n then TOLD_OF_CYCLES.now else TOLD_OF_ROWS.now

-- the cycles, or the digits of the table
abbrev pub nest : ℕ → List ℕ
nest n =
    if nat_lt n 2 then ONE_PLACE.now
    else if n == 2 then ONE_CYCLE.now
    else if n == 3 then TWO_CYCLES.now
    else if n == 4 then THREE_CYCLES.now
    else DIGITS.now

-- the processes, and the mark on one that moved
abbrev pub marks : ℕ → List ℕ
marks n = if is_nested n then PROCESSES.now else if n == 5 then ROW_OF_FIVE.now else ROW_OF_SIX.now

unfoldable pub drawn_once : ℕ → List ℕ
drawn_once n = told n ++ STYLE.now ++ nest n ++ marks n
