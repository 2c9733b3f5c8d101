-- Where parts of a text end: code, blanks, words, numbers and characters.
use Rattle.std.specs.Prelude.{ℕ, ◌+◌, Bool, List, drop}
use Rattle.std.specs.List.{prefix_len}
use Rattle.base.specs.Blanks.{is_blank}
use Rattle.language_questions.specs.Characters.{is_code, is_digit, is_further, is_name_part}
use Rattle.language_questions.specs.declared.extents.Extent.{Extent}
use Rattle.language_questions.specs.declared.extents.Extent.TheVariants as E

-- the bytes that it is made of
abbrev pub takes : Extent → ℕ → Bool
takes E.Code = is_code
takes E.Blanks = is_blank
takes E.Word = is_name_part
takes E.Digits = is_digit
takes E.Further = is_further

-- the end of these bytes from a place on
abbrev pub end_of : Extent → List ℕ → ℕ → ℕ
end_of extent text from = from + prefix_len (takes extent) (drop from text)
