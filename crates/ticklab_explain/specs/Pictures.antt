-- A line of a text with a caret under a part of it.
use Rattle.std.specs.Prelude.{◌≡◌, ◌-◌, ◌+◌, ◌==◌, nat_lt, ℕ, List, [], ◌∷◌, ◌++◌, codes, length, max, min, replicate, slice_range, if◌then◌else◌}
use Rattle.std.specs.Fmt.{decimal}
use Rattle.std.specs.List.{count_by, flat_map}
use Rattle.std.specs.Str.Lossy.{utf8_lossy}
use Rattle.base.specs.Lines.{line_end}
use Rattle.base.specs.declared.span.Span.{Span}
use Rattle.ticklab_explain.specs.Places.{IsLineStart, IsLineEnd, begins_character}
use Rattle.ticklab_explain.specs.declared.picture.TheConstants.{BAR, TAB}

-- a tab is shown as four blanks, a carriage return as nothing, another control byte as `?`
abbrev pub shown_byte : ℕ → List ℕ
shown_byte byte =
    if byte == 9 then TAB.now else if byte == 13 then [] else if nat_lt byte 32 then codes "?" else byte ∷ []

-- bytes as they are shown: those that are no UTF-8 as U+FFFD
abbrev pub shown : List ℕ → List ℕ
shown bytes = flat_map shown_byte (utf8_lossy bytes)

-- how many columns it takes
abbrev pub columns : List ℕ → ℕ
columns text = count_by begins_character text

-- blanks as wide as the line's number, and a bar
abbrev pub margin : ℕ → List ℕ
margin number = replicate (length (decimal number)) 32 ++ codes " |"

abbrev pub source_line : ℕ → List ℕ → List ℕ → List ℕ → List ℕ
source_line number before part after = decimal number ++ BAR.now ++ before ++ part ++ after ++ line_end

-- the caret is as wide as the part, and one wide at least
abbrev pub caret_of : ℕ → ℕ → ℕ → List ℕ
caret_of number before part =
    margin number ++ codes " " ++ replicate before 32 ++ replicate (max 1 part) 94 ++ line_end

-- the bar, the line with its number, and the caret under it
abbrev pub picture : ℕ → List ℕ → List ℕ → List ℕ → List ℕ
picture number before part after =
    margin number ++ line_end ++ source_line number before part after ++ caret_of number (columns before) (columns part)

-- of a long line 120 bytes before the part and 240 from its begin on are shown, with `..` for more
abbrev pub cut : ℕ → List ℕ
cut rest = if rest == 0 then [] else codes ".."

abbrev pub line_picture : List ℕ → Span → ℕ → ℕ → ℕ → ℕ → List ℕ
line_picture text span number start stop at =
    let from = max start (at - 120) in
    let to = at + min (stop - at) 240 in
    let end = max at (min span.end to) in
    picture number (cut (from - start) ++ shown (slice_range text from at)) (shown (slice_range text at end))
    (shown (slice_range text end to) ++ cut (stop - to))

-- the line where the span begins, with the caret under the span as far as it stands in it
pub record IsPicture (text : List ℕ) (span : Span) (number : ℕ) (drawn : List ℕ) : Type 0 where
  pub start : ℕ
  pub stop : ℕ
  pub is_start : IsLineStart text (min span.start (length text)) start
  pub is_stop : IsLineEnd text (min span.start (length text)) stop
  pub lines : drawn ≡ line_picture text span number start stop (min span.start (length text))
