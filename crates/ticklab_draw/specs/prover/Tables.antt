-- The table of the last puts.
use Rattle.std.specs.Prelude.{◌≡◌, ℕ, ◌+◌, ◌*◌, ◌<◌, ◌==◌, ◌&&◌, Bool, if◌then◌else◌, List, Some}
use Rattle.base.specs.declared.event.Event.{Event}
use Rattle.std.specs.Ordering.{nat_cmp}
use Rattle.std.specs.BTreeMap.{BTreeMap, get}
use Rattle.ticklab_draw.specs.declared.mark.Mark.{Mark}
use Rattle.ticklab_draw.specs.Marks.{is_row, last_put, row_put}

-- it has the last put of each register among these marks
abbrev pub IsTable : BTreeMap ℕ ℕ → List Mark → Type 0
IsTable puts marks = (r i : ℕ) → i < 256 → get nat_cmp puts (256 * r + i) ≡ last_put r i marks

-- whether an event is a put of process `i` into row `r`
abbrev pub writes : ℕ → ℕ → Event → Bool
writes r i event = (event.process == i) && is_row r (row_put event.act)

-- the table has the event, where it is a put, at this place
abbrev pub Notes : ℕ → Event → BTreeMap ℕ ℕ → BTreeMap ℕ ℕ → Type 0
Notes at event old new = (r i : ℕ) → i < 256
    → get nat_cmp new (256 * r + i) ≡ (if writes r i event then Some at else get nat_cmp old (256 * r + i))
