-- Texts in which equal neighbours stand once.
use Rattle.std.specs.Global.{Global}
use Rattle.std.specs.Prelude.{◌-◌, ◌++◌, ◌∷◌, ◌&&◌, [], Bool, List, String, cond, length, nat_lt, slice_index_or, string_eq}

-- the last of the texts is the same as this one
abbrev pub ends_with : List (String Global) → String Global → Bool
ends_with texts text = nat_lt 0 (length texts) && string_eq text (slice_index_or texts (length texts - 1) text)

-- one more text, where the last isn't the same
abbrev pub with_text : List (String Global) → String Global → List (String Global)
with_text texts text = cond (ends_with texts text) texts (texts ++ text ∷ [])
