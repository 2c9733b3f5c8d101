-- Values of arguments, by what `clap` found on a command line.
use Rattle.std.specs.Prelude.{ℕ, Bool, false, List, [], Option, Some, None, codes, bytes_eq, ◌^◌, ◌&&◌, nat_lt}
use Rattle.std.specs.Prelude.{if◌then◌else◌, is_some, option_and_then, unwrap_or}
use Rattle.std.specs.Option.{option_map_or}
use Rattle.std.specs.Str.Parse.{digits_value, without_leading_plus}
use Rattle.clap.specs.Walk.{Row, Text, all_of, first_of, one_of}
use Rattle.clap.specs.ValueTests.{is_numeral}

-- the number that a text is, where it is one of so many bits
abbrev pub number_of : ℕ → Text → Option ℕ
number_of bits text =
    let digits = without_leading_plus text in
    if is_numeral digits && nat_lt (digits_value 10 digits) (2 ^ bits) then Some (digits_value 10 digits) else None

abbrev pub number_in : ℕ → Text → List Row → Option ℕ
number_in bits id rows = option_and_then (number_of bits) (one_of id rows)

abbrev pub is_set : Text → List Row → Bool
is_set id rows = option_map_or (λ text. bytes_eq text (codes "true")) (first_of id rows) false

-- all texts of an argument, none where it is left out
abbrev pub list_of : Text → List Row → List Text
list_of id rows = unwrap_or (all_of id rows) []

abbrev pub for_file : {X : Type 0} → List Row → (Text → Option X) → Option X
for_file rows asked = option_and_then asked (first_of (codes "file") rows)

abbrev pub for_number : {X : Type 0} → ℕ → Text → List Row → (ℕ → Option X) → Option X
for_number bits id rows asked = option_and_then asked (number_in bits id rows)

-- an argument without a default has a text only where it was given
abbrev pub is_given : Text → List Row → Bool
is_given id rows = is_some (first_of id rows)

-- the number of an option, and this one where the option is not given
abbrev pub number_or : ℕ → Text → ℕ → List Row → Option ℕ
number_or bits id default rows = if is_given id rows then number_in bits id rows else Some default

abbrev pub for_number_or : {X : Type 0} → ℕ → Text → ℕ → List Row → (ℕ → Option X) → Option X
for_number_or bits id default rows asked = option_and_then asked (number_or bits id default rows)
