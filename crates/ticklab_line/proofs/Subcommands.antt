-- A subcommand of which the name and the rows were found.
use Rattle.std.proofs.Common.{◌≡◌, List, Option, Some, None, ap, ap₂, sym, true≢false}
use Rattle.std.specs.Prelude.{is_some, option_map, unwrap_or}
use Rattle.clap.specs.Walk.{Row, Text}

abbrev named_rows : {B : Type 0} → (B → Text) → (B → List Row) → B → Text × List Row
named_rows f g b = (f b, g b)

-- a name and rows that were found are those of one command
pub of_one : {B : Type 0} (f : B → Text) (g : B → List Row) (found : Option B) (name : Text) (rows : List Row)
    → Some name ≡ option_map f found → Some rows ≡ option_map (λ (p : Text × List Row). p.1) (option_map (named_rows f g) found)
    → option_map (named_rows f g) found ≡ Some (name, rows)
of_one f g None name rows is_name are_rows = absurd (true≢false (ap is_some is_name))
of_one f g (Some b) name rows is_name are_rows =
    ap₂ (λ (n : Text) (r : List Row). Some (n, r)) (sym (ap (λ o. unwrap_or o name) is_name))
    (sym (ap (λ o. unwrap_or o rows) are_rows))
