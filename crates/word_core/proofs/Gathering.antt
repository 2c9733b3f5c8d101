-- The labels of those that are present, gathered one after the other, and their ranks handed back.
use Rattle.std.proofs.Common.{◌≡◌, ℕ, suc, ◌+◌, ◌-◌, ◌<◌, ◌≤◌, true, false, cond, Option, None, Some, List, [], ◌∷◌, ◌++◌, length, get_or, map, replicate, take, drop, refl, sym, ap, ◌∙◌, arith, length-append}
use Rattle.std.proofs.lemmas.List.{take_more, drop_more, get_or_at, get_or_append_left, get_or-map, length-map, append_assoc, append-nil, take-append-drop}
use Rattle.std.proofs.lemmas.List.Elements.{filter_map-append}
use Rattle.std.proofs.lemmas.List.Sums.{sum_by-cons}
use Rattle.label_core.specs.Labels.{dominates, dominated}
use Rattle.word_core.specs.Stamps.{Labels, label_at, is_present, present}
use Rattle.word_core.specs.Order.{above, labels_below}

-- one process more of those that were gone through
present_more : (labels : Labels) (i : ℕ) → i < length labels → present (take (i + 1) labels) ≡ present (take i labels) ++ present (label_at labels i ∷ [])
present_more labels i inside = ap present (take_more labels i None inside) ∙ filter_map-append (λ label. label) (take i labels) (label_at labels i ∷ [])

pub present_none : (labels : Labels) (i : ℕ) → i < length labels → label_at labels i ≡ None → present (take (i + 1) labels) ≡ present (take i labels)
present_none labels i inside is =
    present_more labels i inside ∙ ap (λ label. present (take i labels) ++ present (label ∷ [])) is ∙ append-nil (present (take i labels))

pub present_some : (labels : Labels) (i : ℕ) (label : List ℕ) → i < length labels → label_at labels i ≡ Some label
    → present (take (i + 1) labels) ≡ present (take i labels) ++ label ∷ []
present_some labels i label inside is =
    present_more labels i inside ∙ ap (λ held. present (take i labels) ++ present (held ∷ [])) is

-- the label of a process stands behind those of the processes before it
pub present_at : (labels : Labels) (i : ℕ) (label : List ℕ) → i < length labels → label_at labels i ≡ Some label
    → (length (present (take i labels)) < length (present labels)) × (get_or (present labels) (length (present (take i labels))) [] ≡ label)
present_at labels i label inside is =
    let front : List (List ℕ) = present (take i labels) in
    let rest : List (List ℕ) = present (drop (i + 1) labels) in
    let split : present labels ≡ front ++ label ∷ rest =
    ap present (sym (take-append-drop i labels)) ∙ filter_map-append (λ held. held) (take i labels) (drop i labels)
    ∙ ap (λ held. front ++ present held) (drop_more labels i None inside)
    ∙ ap (λ held. front ++ present (held ∷ drop (i + 1) labels)) is in
    (omega (arith, ap length split, length-append front (label ∷ rest)), ap (λ all. get_or all (length front) []) split ∙ get_or_at front label rest [] (length front) refl)

-- a label that is present is above all that are absent and those whose labels it dominates
pub below_present : (labels : Labels) (label : List ℕ) → labels_below labels (Some label) + length (present labels) ≡ length labels + dominated (present labels) label
below_present [] label = refl
below_present (None ∷ labels) label =
    let count : labels_below (None ∷ labels) (Some label) ≡ 1 + labels_below labels (Some label) =
    sum_by-cons (λ other. cond (above (Some label) other) 1 0) None labels in
    omega (arith, count, below_present labels label)
below_present (Some other ∷ labels) label =
    let one : ℕ = cond (dominates label other) 1 0 in
    let count : labels_below (Some other ∷ labels) (Some label) ≡ one + labels_below labels (Some label) =
    sum_by-cons (λ held. cond (above (Some label) held) 1 0) (Some other) labels in
    let among : dominated (other ∷ present labels) label ≡ one + dominated (present labels) label =
    sum_by-cons (λ held. cond (dominates label held) 1 0) other (present labels) in
    omega (arith, count, among, below_present labels label)

-- an absent one is above nobody
pub below_none : (labels : Labels) → labels_below labels None ≡ 0
below_none [] = refl
below_none (label ∷ labels) = sum_by-cons (λ other. cond (above None other) 1 0) label labels ∙ omega (arith, below_none labels)

present_label : (label : Option (List ℕ)) → is_present label ≡ true → (held : List ℕ) × (label ≡ Some held)
present_label None here = cc
present_label (Some held) here = (held, refl)

pub absent_label : (label : Option (List ℕ)) → is_present label ≡ false → label ≡ None
absent_label None gone = refl
absent_label (Some held) gone = cc

-- the rank of a process that is present is found behind those before it, and all that are absent are below it
pub record RankFound (labels : Labels) (row : List ℕ) (i place count : ℕ) : Type 0 where
  pub inside : place < length (present labels)
  pub rank : length labels - count + get_or row place 0 ≡ labels_below labels (label_at labels i)
  pub next : length (present (take (i + 1) labels)) ≡ place + 1

pub rank_found : (labels : Labels) (row : List ℕ) (i place count : ℕ)
    → row ≡ map (dominated (present labels)) (present labels) ++ replicate (6 - length (present labels)) 0 → count ≡ length (present labels)
    → count ≤ length labels → i < length labels
    → place ≡ length (present (take i labels)) → is_present (label_at labels i) ≡ true → RankFound labels row i place count
rank_found labels row i place count row_is count_is few in_i here present_i =
    let all : List (List ℕ) = present labels in
    let held = present_label (label_at labels i) present_i in
    let label : List ℕ = held.0 in
    let found = present_at labels i label in_i held.1 in
    let inside : place < length all = omega (arith, here, found.0) in
    let ranks : List ℕ = map (dominated all) all in
    let read : get_or row place 0 ≡ dominated all label =
    ap (λ r. get_or r place 0) row_is
    ∙ get_or_append_left ranks (replicate (6 - length all) 0) 0 place (omega (arith, length-map all (dominated all), inside))
    ∙ get_or-map (dominated all) all place [] 0 inside
    ∙ ap (λ k. dominated all (get_or all k [])) here ∙ ap (dominated all) found.1 in
    let below : labels_below labels (label_at labels i) ≡ labels_below labels (Some label) = ap (labels_below labels) held.1 in
    record {
      inside = inside;
      rank = omega (arith, read, below, below_present labels label, count_is, few);
      next = ap length (present_some labels i label in_i held.1) ∙ length-append (present (take i labels)) (label ∷ []) ∙ omega (arith, here);
    }

-- a row of ranks in which the next one is 0 has it already
pub zero_next : (items : List ℕ) (i : ℕ) → i < length items → i < 6 → get_or items i 0 ≡ 0
    → take i items ++ replicate (6 - i) 0 ≡ take (i + 1) items ++ replicate (6 - (i + 1)) 0
zero_next items i inside few none =
    let more : 6 - i ≡ suc (6 - (i + 1)) = omega arith in
    ap (λ k. take i items ++ replicate k 0) more
    ∙ sym (append_assoc (take i items) (0 ∷ []) (replicate (6 - (i + 1)) 0))
    ∙ ap (λ front. front ++ replicate (6 - (i + 1)) 0) (ap (λ x. take i items ++ x ∷ []) (sym none) ∙ sym (take_more items i 0 inside))
