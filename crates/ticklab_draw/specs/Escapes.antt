-- How a text is written in markup.
use Rattle.std.specs.Prelude.{ℕ, ◌==◌, ◌||◌, nat_lt, if◌then◌else◌, List, [], ◌∷◌, codes}
use Rattle.std.specs.List.{flat_map}
use Rattle.ticklab_draw.specs.declared.writing.TheConstants.{AMPERSAND, APOSTROPHE, GREATER_THAN, LESS_THAN, QUOTE}

-- `&`, `<`, `>`, `"` and `'` by their names, and `?` for a control character
abbrev pub escaped_byte : ℕ → List ℕ
escaped_byte b =
    if b == 38 then AMPERSAND.now
    else if b == 60 then LESS_THAN.now
    else if b == 62 then GREATER_THAN.now
    else if b == 34 then QUOTE.now
    else if b == 39 then APOSTROPHE.now
    else if nat_lt b 32 || (b == 127) then codes "?"
    else b ∷ []

abbrev pub escaped : List ℕ → List ℕ
escaped text = flat_map escaped_byte text
