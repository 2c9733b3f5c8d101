-- What is left of a schedule.
use Rattle.std.specs.Prelude.{◌≡◌, ℕ, List, [], ◌∷◌}
pub use Rattle.searches_explore.specs.Needed.{without}

-- what is left where one item is left out after the other, each by its place among those that are left
abbrev pub left_of : List ℕ → List ℕ → List ℕ
left_of [] schedule = schedule
left_of (place ∷ places) schedule = left_of places (without place schedule)

abbrev pub IsPartOf : List ℕ → List ℕ → Type 0
IsPartOf part schedule = (places : List ℕ) × (part ≡ left_of places schedule)
