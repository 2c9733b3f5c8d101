-- A test of what lent words are, and the first of two hints.
use Rattle.std.proofs.Common.{◌≡◌, ℕ, Bool, ◌||◌, List, [], ◌∷◌, Option, Some, None, ap, map, option_map, refl}
use Rattle.std.specs.Borrow.{Bor}
use Rattle.std.specs.List.{list_any}
use Rattle.std.specs.Option.{option_or}
use Rattle.ticklab_explain.specs.Rows.{help_of}
use Rattle.ticklab_explain.specs.declared.hint.OtherPlace.{OtherPlace}
use Rattle.ticklab_explain.specs.declared.piece.Quote.{Quote}

pub any_of : {A B : Type 0} (test : B → Bool) (f : A → B) → (xs : List A) → list_any test (map f xs) ≡ list_any (λ x. test (f x)) xs
any_of test f [] = refl
any_of test f (x ∷ xs) = ap (λ (b : Bool). test (f x) || b) (any_of test f xs)

pub first_help : (one other : Option (Bor (List (Quote × Bor (List ℕ))) × OtherPlace))
    → option_map help_of (option_or one other) ≡ option_or (option_map help_of one) (option_map help_of other)
first_help None other = refl
first_help (Some hint) other = refl
