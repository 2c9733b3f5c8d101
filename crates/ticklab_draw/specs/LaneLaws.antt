-- What holds of the bands of a picture.
use Rattle.std.specs.Prelude.{◌≡◌, ℕ, ◌+◌, ◌<◌, ◌==◌, ◌&&◌, ◌||◌, nat_lt, Bool, false, List, [], ◌∷◌, length, Option}
use Rattle.ticklab_draw.specs.declared.bands.Lanes.{Lanes}
use Rattle.ticklab_draw.specs.declared.columns.Band.{Band}
use Rattle.ticklab_draw.specs.declared.columns.Column.{Column}
use Rattle.ticklab_draw.specs.declared.look.Look.{Look}
use Rattle.ticklab_draw.specs.declared.mark.Mark.{Mark}
use Rattle.ticklab_trace.specs.declared.parts.Parts.{Parts}
use Rattle.ticklab_draw.specs.Bands.{bands}
use Rattle.ticklab_draw.specs.Chosen.{chosen_count, is_chosen}
use Rattle.ticklab_draw.specs.Columns.{columns}
use Rattle.ticklab_draw.specs.LaneSets.{is_lane, lane_count, lanes_at}
use Rattle.ticklab_draw.specs.Layout.{column_at}

-- whether the band of this number shows a mark of process `p`, one of these, the first of which has this place among all
abbrev pub shows : Look → List Column → ℕ → ℕ → ℕ → List Mark → Bool
shows look columns number p at [] = false
shows look columns number p at (m ∷ marks) =
    (is_chosen look m && ((column_at columns at).band.number == number) && (m.process == p)) || shows look columns number p (at + 1) marks

-- Of these bands, a band has a lane for the processes of whose marks it shows one. The first one has a lane for each of `n`
-- processes, where no mark is shown at all.
abbrev pub HaveLanes : Look → ℕ → List Column → List Mark → List Lanes → Type 0
HaveLanes look n columns marks bands = (band : Band) (p : ℕ) → p < 6
    → is_lane (lanes_at bands band).has p
    ≡ (((band.number == 0) && ((chosen_count look marks == 0) && nat_lt p n)) || shows look columns band.number p 0 marks)

-- above a band stand the lanes of the one before, and those above that one
abbrev pub AreStacked : List Lanes → Type 0
AreStacked bands =
    ((first : Band) → first.number ≡ 0 → (lanes_at bands first).above ≡ 0)
    × ((band next : Band) → next.number ≡ band.number + 1 → next.number < length bands
    → (lanes_at bands next).above ≡ (lanes_at bands band).above + lane_count (lanes_at bands band).has)

-- so it is with the bands of all pictures
abbrev pub LanesLaw : Type 0
LanesLaw = (look : Look) (n : ℕ) (rows : List (List ℕ)) (parts : Option Parts) (marks : List Mark)
    → HaveLanes look n (columns look n rows parts marks) marks (bands look n (columns look n rows parts marks) marks)

abbrev pub StackLaw : Type 0
StackLaw = (look : Look) (n : ℕ) (columns : List Column) (marks : List Mark) → AreStacked (bands look n columns marks)
