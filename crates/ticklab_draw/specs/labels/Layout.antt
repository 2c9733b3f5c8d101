-- Where things stand, in pixels, by the number of processes.
use Rattle.std.specs.Prelude.{ℕ, min, ◌+◌, ◌-◌, ◌*◌, ◌/◌, ◌%◌, ◌==◌, nat_lt, Bool, if◌then◌else◌}
use Rattle.label_core.specs.Labels.{next_digit}

-- up to four processes are drawn in nested cycles, and more in a table
abbrev pub is_nested : ℕ → Bool
is_nested n = nat_lt n 5

-- how many frames stand in a row
abbrev pub row_frames : ℕ → ℕ
row_frames n = if nat_lt n 3 then 5 else if n == 3 then 4 else if n == 4 then 3 else 6

abbrev pub frame_width : ℕ → ℕ
frame_width n = if nat_lt n 3 then 192 else if n == 3 then 240 else if n == 4 then 336 else 160

abbrev pub frame_height : ℕ → ℕ
frame_height n =
    if nat_lt n 2 then 128 else if n == 2 then 212 else if n == 3 then 328 else if n == 4 then 428 else 220

-- the frames stand in rows below a line of text
abbrev pub frame_left : ℕ → ℕ → ℕ
frame_left n at = frame_width n * (at % row_frames n)

abbrev pub frame_top : ℕ → ℕ → ℕ
frame_top n at = 40 + frame_height n * (at / row_frames n)

abbrev pub page_width : ℕ → ℕ
page_width n = frame_width n * row_frames n

abbrev pub page_height : ℕ → ℕ → ℕ
page_height n count = 40 + frame_height n * ((count + row_frames n - 1) / row_frames n)

-- where the places of the cycles begin in a frame, at the left and above
abbrev pub left_most : ℕ → ℕ
left_most n = if nat_lt n 2 then 96 else if n == 2 then 56 else if n == 3 then 37 else 44

abbrev pub top_most : ℕ → ℕ
top_most n = if nat_lt n 2 then 56 else if n == 2 then 46 else if n == 3 then 62 else 64

-- how far the upper place of a cycle lies to the right of the left one, and the right one of the upper; and how far
-- above the two others; level 0 is the outermost
abbrev pub reach : ℕ → ℕ → ℕ × ℕ
reach n level =
    if n == 2 then (40, 69)
    else if n == 3 then (if level == 0 then (60, 104) else (23, 40))
    else if level == 0 then (80, 138)
    else if level == 1 then (32, 55)
    else (12, 21)

-- a process without a label stands above the cycles, the last at the right
abbrev pub seat : ℕ → ℕ → ℕ
seat n p = frame_width n + 26 * p + 10 - 26 * n

-- from the left and upper end of a cycle to the place of a digit: 0 is above, 1 at the right, 2 at the left
abbrev pub right : ℕ → ℕ → ℕ → ℕ
right n level digit = (reach n level).0 * next_digit digit

abbrev pub below : ℕ → ℕ → ℕ → ℕ
below n level digit = (reach n level).1 * min digit 1

-- the rows of the table, and the digits in them
abbrev pub row_top : ℕ → ℕ
row_top p = 30 + 24 * p

abbrev pub cell_left : ℕ → ℕ
cell_left place = 18 + 18 * place
