-- What the rows of hints ask about a place, and which of them is the first that fits.
use Rattle.std.specs.Prelude.{ℕ, ◌==◌, nat_eq, Bool, not, ◌&&◌, List, [], ◌∷◌, Option, Some, None, is_none, is_some, length, slice_index, if◌then◌else◌}
use Rattle.std.specs.List.{list_all, list_any, starts_with, ends_with}
use Rattle.std.specs.Str.{bytes_eq}
use Rattle.ticklab_explain.specs.Following.{sample}
use Rattle.ticklab_explain.specs.Hints.{first_declaration}
use Rattle.ticklab_explain.specs.Parts.{has}
use Rattle.ticklab_explain.specs.Pieces.{is_one_of}
use Rattle.ticklab_explain.specs.Rows.{Help, Row}
use Rattle.ticklab_explain.specs.Settings.{Setting, about, after, before, has_begun, here, is_keyword_here, is_name_after, is_name_at, is_name_before, open_brace, shortened, sort_here, touches}
use Rattle.ticklab_explain.specs.declared.condition.Ask.{Ask}
use Rattle.ticklab_explain.specs.declared.condition.Ask.TheVariants as A
use Rattle.ticklab_explain.specs.declared.condition.Fact.{Fact}
use Rattle.ticklab_explain.specs.declared.condition.Fact.TheVariants as F
use Rattle.ticklab_explain.specs.declared.wanted.Wanted.{Wanted}

abbrev pub is_so : Setting → Fact → Bool
is_so s F.Empty = length s.tokens == 0
is_so s F.AtStart = s.at == 0
is_so s F.AtEnd = is_none (sort_here s)
is_so s F.Name = is_name_at s s.at
is_so s F.Keyword = is_keyword_here s
is_so s F.Begun = has_begun s
is_so s F.InBraces = is_some (open_brace s)
is_so s F.Touches = touches s
is_so s F.Doubled = bytes_eq (after s 1) (here s)
is_so s F.BeforeEquals = slice_index s.text s.span.end == 61
is_so s F.Declared = is_some (first_declaration s)
is_so s F.Clears = s.items.clears

-- the item of a schedule that the refusal is about
unfoldable pub item : Setting → List ℕ
item s = shortened (about s)

abbrev pub contains : List ℕ → ℕ → Bool
contains item byte = list_any (λ one. one == byte) item

-- the text begins with these two bytes
unfoldable pub begins_with : Setting → ℕ → ℕ → Bool
begins_with s first second = (slice_index s.text 0 == first) && (slice_index s.text 1 == second)

-- a token is wanted that is told by one of these samples
abbrev pub wants : List Wanted → List (List ℕ) → Bool
wants wanted samples = list_any (λ one. is_one_of (sample one) samples) wanted

-- what is asked, with the words that it speaks of
abbrev pub holds : Setting → List Wanted → Ask → List (List ℕ) → Bool
holds s wanted A.Here words = is_one_of (here s) words
holds s wanted (A.Before count) words = is_one_of (before s count) words
holds s wanted (A.After count) words = is_one_of (after s count) words
holds s wanted (A.NotBefore count) words = not (is_one_of (before s count) words)
holds s wanted (A.NotAfter count) words = not (is_one_of (after s count) words)
holds s wanted (A.NameBefore count) words = is_name_before s count
holds s wanted (A.NameAfter count) words = is_name_after s count
holds s wanted A.About words = is_one_of (about s) words
holds s wanted (A.ItemHas byte) words = contains (item s) byte
holds s wanted (A.ItemBegins byte) words = starts_with nat_eq (item s) (byte ∷ [])
holds s wanted (A.ItemEnds byte) words = ends_with nat_eq (item s) (byte ∷ [])
holds s wanted (A.ItemEndsWith first last) words = ends_with nat_eq (item s) (first ∷ last ∷ [])
holds s wanted (A.TextBegins first second) words = begins_with s first second
holds s wanted A.Wants words = wants wanted words
holds s wanted (A.Has part) words = has s part
holds s wanted (A.Is fact) words = is_so s fact
holds s wanted (A.Not fact) words = not (is_so s fact)

-- of rows, which are conditions and a hint, the hint of the first whose conditions all hold
abbrev pub first_fitting : Setting → List Wanted → List Row → Option Help
first_fitting s wanted [] = None
first_fitting s wanted (row ∷ rows) =
    if list_all (λ one. holds s wanted one.0 one.1) row.0 then Some row.1 else first_fitting s wanted rows
