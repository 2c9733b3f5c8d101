-- No text of a file opens a tag: each `<` of a picture belongs to its markup.
use Rattle.std.specs.Prelude.{◌≡◌, ℕ, ◌+◌, ◌==◌, if◌then◌else◌, List, [], ◌∷◌, length, Option, option_map}
use Rattle.ticklab_draw.specs.declared.bands.Lanes.{Lanes}
use Rattle.ticklab_draw.specs.declared.columns.Column.{Column}
use Rattle.ticklab_draw.specs.declared.look.Look.{Look}
use Rattle.ticklab_draw.specs.declared.mark.Mark.{Mark}
use Rattle.ticklab_trace.specs.declared.parts.Parts.{Parts}
use Rattle.ticklab_draw.specs.Columns.{columns}
use Rattle.ticklab_draw.specs.Never.{Broken}
use Rattle.ticklab_draw.specs.Pictures.{picture, picture_in}

-- how many `<` stand in a text
abbrev pub openings : List ℕ → ℕ
openings [] = 0
openings (byte ∷ bytes) = if byte == 60 then 1 + openings bytes else openings bytes

-- the same with another text
abbrev pub reworded : List ℕ → Broken → Broken
reworded text b = record b { text = text }

-- in whatever bands and columns, a picture has as many of them whatever its title is, however its rows are named, and however reads what
-- must never hold
abbrev pub MarkupLaw : Type 0
MarkupLaw = (bands : List Lanes) (columns : List Column) (title other : List ℕ) (look : Look) (n : ℕ) (rows renamed : List (List ℕ)) (marks : List Mark) (broken : Option Broken) (text : List ℕ)
    → length rows ≡ length renamed
    → openings (picture_in bands columns title look n rows marks broken) ≡ openings (picture_in bands columns other look n renamed marks (option_map (reworded text) broken))

-- so it is with the pictures of a run, where other names leave its marks in their columns
abbrev pub RenamedLaw : Type 0
RenamedLaw = (title other : List ℕ) (look : Look) (n : ℕ) (rows renamed : List (List ℕ)) (parts : Option Parts) (marks : List Mark) (broken : Option Broken) (text : List ℕ)
    → length rows ≡ length renamed → columns look n rows parts marks ≡ columns look n renamed parts marks
    → openings (picture title look n rows parts marks broken) ≡ openings (picture other look n renamed parts marks (option_map (reworded text) broken))
