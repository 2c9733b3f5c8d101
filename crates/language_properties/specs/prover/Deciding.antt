-- What some and all have in common, as and and or: one value decides, and those after it don't count.
use Rattle.std.specs.Prelude.{ℕ, ◌==◌, Bool, true, false, if◌then◌else◌, List}
use Rattle.language_properties.specs.declared.property.Junction.{Junction}
use Rattle.language_properties.specs.declared.property.Junction.TheVariants as J
use Rattle.language_properties.specs.Values.{Valued, some_of, all_of}

-- whether a value decides: one that isn't 0 that some isn't, one that is 0 that not all are others
abbrev pub decides : Bool → ℕ → Bool
decides true v = if v == 0 then false else true
decides false v = v == 0

-- whether some of the values isn't 0, or none is 0
abbrev pub decided : Bool → List Valued → Valued
decided true values = some_of values
decided false values = all_of values

-- whether the value of the left operand decides
abbrev pub left_decides : Junction → ℕ → Bool
left_decides J.And first = first == 0
left_decides J.Or first = if first == 0 then false else true
