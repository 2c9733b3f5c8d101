-- Offered to crates above: two lists side by side, from a place on.
use Rattle.std.proofs.Common.{◌≡◌, ◌∙◌, ◌+◌, ◌<◌, ◌≤◌, ℕ, List, [], ◌∷◌, drop, get_or, length, ap₂, sym}
use Rattle.std.proofs.Math.ListN.{drop_of_length-le}
use Rattle.std.proofs.lemmas.List.{drop_more}
use Rattle.std.specs.List.{zip}

module _ {X Y : Type 0} (xs : List X) (ys : List Y) (i : ℕ) where
  -- the next two, and those after them
  pub next_two : (x : X) (y : Y) → i < length xs → i < length ys → x ≡ get_or xs i x → y ≡ get_or ys i y
      → zip (drop i xs) (drop i ys) ≡ (x, y) ∷ zip (drop (i + 1) xs) (drop (i + 1) ys)
  next_two x y in_xs in_ys is_x is_y =
      ap₂ (λ (a : List X) (b : List Y). zip a b) (drop_more xs i x in_xs) (drop_more ys i y in_ys)
      ∙ ap₂ (λ (a : X) (b : Y). (a, b) ∷ zip (drop (i + 1) xs) (drop (i + 1) ys)) (sym is_x) (sym is_y)

  -- after the last there are none
  pub no_two : length xs ≤ i → length ys ≤ i → zip (drop i xs) (drop i ys) ≡ []
  no_two no_x no_y = ap₂ (λ (a : List X) (b : List Y). zip a b) (drop_of_length-le xs no_x) (drop_of_length-le ys no_y)
