-- Of two texts the one that a definition by cases has.
use Rattle.std.proofs.Common.{◌≡◌, ℕ, Bool, true, false, List, if◌then◌else◌, refl}

pub chosen : (text : Bool → List ℕ) (first : Bool) → (if first then text true else text false) ≡ text first
chosen text true = refl
chosen text false = refl
