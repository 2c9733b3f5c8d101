-- Room for the register rows of an outcome.
use Rattle.std.specs.Prelude.{◌≡◌, ◌≤◌, ℕ, List, [], length, All, Vec, vec_items, vec_capacity}
use Rattle.std.specs.Global.{Global}

-- an empty row with room for a value of each process
pub record IsBlank (processes : ℕ) (row : Vec ℕ Global) : Type 0 where
  pub empty : vec_items row ≡ []
  pub has_room : processes ≤ vec_capacity row

pub record HasRoom (rows processes : ℕ) (empty filled : List (Vec ℕ Global)) (room : ℕ) : Type 0 where
  pub count : length empty ≡ rows
  pub blanks : All (IsBlank processes) empty
  pub none : filled ≡ []
  pub has_room : rows ≤ room
