-- Where a byte of a text stands, as a person counts: lines from 1, and in a line characters from 1.
use Rattle.std.specs.Prelude.{◌≡◌, ◌≢◌, ℕ, ◌+◌, ◌-◌, ◌<◌, ◌≤◌, nat_lt, nat_le, Bool, ◌||◌, ◌==◌, List, length, take, slice_index, slice_range}
use Rattle.std.specs.List.{count_by}
use Rattle.ticklab_explain.specs.declared.place.Place.{Place}

abbrev pub is_line_feed : ℕ → Bool
is_line_feed byte = byte == 10

-- the first byte of a character, which in UTF-8 is any but 128 to 191
abbrev pub begins_character : ℕ → Bool
begins_character byte = nat_lt byte 128 || nat_le 192 byte

-- the line in which `at` stands begins here: the text does, or a line feed stands before, and none after
pub record IsLineStart (text : List ℕ) (at start : ℕ) : Type 0 where
  pub before : start ≤ at
  pub inside : (k : ℕ) → start ≤ k → k < at → slice_index text k ≢ 10
  pub begins : 0 < start → slice_index text (start - 1) ≡ 10

-- the line in which `at` stands ends here: the text does, or a line feed stands here, and none before
pub record IsLineEnd (text : List ℕ) (at stop : ℕ) : Type 0 where
  pub after : at ≤ stop
  pub within : stop ≤ length text
  pub inside : (k : ℕ) → at ≤ k → k < stop → slice_index text k ≢ 10
  pub ends : stop < length text → slice_index text stop ≡ 10

-- one line more than there are line feeds before, one column more than characters since the line began
abbrev pub place_in : List ℕ → ℕ → ℕ → Place
place_in text start at = record {
  line = 1 + count_by is_line_feed (take at text);
  column = 1 + count_by begins_character (slice_range text start at);
}

-- the place of this byte of the text
pub record IsPlace (text : List ℕ) (at : ℕ) (place : Place) : Type 0 where
  pub start : ℕ
  pub is_start : IsLineStart text at start
  pub counted : place ≡ place_in text start at
