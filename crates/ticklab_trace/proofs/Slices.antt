-- What a list's tail from one place on makes, where a list is made into something item by item, as statements into a block.
use Rattle.std.proofs.Common.{◌≡◌, ℕ, suc, ◌+◌, ◌<◌, List, ◌∷◌, length, ap, ◌∙◌, sym, add-one, drop, drop-cons, get_or}

module _ {A B : Type 0} (whole : List A → B) (join : A → B → B) (joins : (x : A) (xs : List A) → whole (x ∷ xs) ≡ join x (whole xs)) where
  pub next_item : (xs : List A) (k : ℕ) (x : A) → k < length xs → x ≡ get_or xs k x → whole (drop k xs) ≡ join x (whole (drop (k + 1) xs))
  next_item xs k x inside is =
      ap whole (drop-cons xs k x inside) ∙ joins (get_or xs k x) (drop (suc k) xs)
      ∙ ap (λ y. join y (whole (drop (suc k) xs))) (sym is)
      ∙ ap (λ j. join x (whole (drop j xs))) (sym (add-one k))
