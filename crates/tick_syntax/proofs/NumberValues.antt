-- The number that digits write.
use Rattle.std.proofs.Common.{◌≡◌, List, ℕ, true, Some, option_map, ap}
use Rattle.std.specs.Str.Parse.{digits_value}
use Rattle.std.proofs.lemmas.Bool.{and_parts}
use Rattle.base.specs.Number.{capped, number_of}
use Rattle.base.proofs.Offered.{number_of-digits}
use Rattle.tick_syntax.specs.Spelling.{is_number}
use Rattle.tick_syntax.specs.Characters.{is_digit}
use Rattle.tick_syntax.proofs.SpelledInOrder.{starts_some}

pub capped_value : (ds : List ℕ) → is_number ds ≡ true → option_map capped (number_of ds) ≡ Some (capped (digits_value 10 ds))
capped_value ds number =
    let parts = and_parts _ _ number in
    ap (option_map capped) (number_of-digits ds (starts_some is_digit ds parts.0) parts.1)
