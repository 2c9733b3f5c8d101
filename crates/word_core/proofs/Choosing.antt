-- Beside ordered labels of the others a process can choose its next: fewer are present than there are
-- processes, and the one with the greatest number has the greatest label.
use Rattle.std.proofs.Common.{◌≡◌, ℕ, zero, suc, ◌-◌, ◌<◌, ◌≤◌, true, false, ltb, Option, None, Some, List, [], ◌∷◌, length, refl, sym, ap, ◌∙◌, arith}
use Rattle.std.specs.Prelude.{All, IfSome, Contains, slice_index}
use Rattle.std.proofs.lemmas.Bool.{le-ltb, ltb-false}
use Rattle.std.proofs.lemmas.List.{get_or_default}
use Rattle.std.proofs.lemmas.List.Elements.{All-nil, All-cons, All-head, All-tail, All-set, All-from_get_or, All-get_or, All-from_recursion}
use Rattle.label_core.specs.Labels.{IsLabel, HasGreatest, CanChoose, dominates}
use Rattle.label_core.proofs.Offered.{greatest_from_undominated}
use Rattle.ticket_core.specs.Tickets.{clear_ticket}
use Rattle.word_core.specs.Stamps.{Labels, label_at, is_present, present, cleared}
use Rattle.word_core.specs.Packed.{AreLabels}
use Rattle.word_core.specs.Order.{OrderedBy, above}
use Rattle.word_core.proofs.Counting.{Most, most_of}
use Rattle.word_core.proofs.Setting.{cleared_ordered}

-- what holds of each label where there is one holds of those that are present
pub All-present : (P : List ℕ → Type 0) (labels : Labels) → All (λ label. IfSome label P) labels → All P (present labels)
All-present P [] all = All-nil P
All-present P (None ∷ labels) all =
    let none : Option (List ℕ) = None in All-present P labels (All-tail (λ label. IfSome label P) none labels all)
All-present P (Some label ∷ labels) all =
    All-cons P label (present labels) (All-head (λ other. IfSome other P) (Some label) labels all)
    (All-present P labels (All-tail (λ other. IfSome other P) (Some label) labels all))

contains_present : (labels : Labels) (i : ℕ) (label : List ℕ) → label_at labels i ≡ Some label → Contains (present labels) label
contains_present [] i label is = cc
contains_present (None ∷ labels) zero label is = cc
contains_present (None ∷ labels) (suc i) label is = contains_present labels i label is
contains_present (Some other ∷ labels) zero label is = let same : other ≡ label = cc in (0, omega arith, same)
contains_present (Some other ∷ labels) (suc i) label is =
    let rest : Contains (present labels) label = contains_present labels i label is in (suc rest.0, omega (arith, rest.1), rest.2)

present_le : (labels : Labels) → length (present labels) ≤ length labels
present_le [] = omega arith
present_le (None ∷ labels) = omega (arith, present_le labels)
present_le (Some label ∷ labels) = omega (arith, present_le labels)

-- where one is absent fewer are present than there are processes
fewer_present : (p : ℕ) (labels : Labels) → p < length labels → length (present (cleared p labels)) < length labels
fewer_present p [] inside = absurd (omega (arith, inside))
fewer_present zero (label ∷ labels) inside = omega (arith, present_le labels)
fewer_present (suc p) (None ∷ labels) inside = omega (arith, fewer_present p labels (omega (arith, inside)))
fewer_present (suc p) (Some label ∷ labels) inside = omega (arith, fewer_present p labels (omega (arith, inside)))

none_present : (labels : Labels) → ((i : ℕ) → i < length labels → is_present (label_at labels i) ≡ false) → length (present labels) ≡ 0
none_present [] none = refl
none_present (None ∷ labels) none = none_present labels (λ i inside. none (suc i) (omega arith))
none_present (Some label ∷ labels) none = let bad : true ≡ false = none 0 (omega arith) in cc

-- a process whose number is the greatest
record Topmost (numbers : List ℕ) : Type 0 where
  process : ℕ
  inside : process < length numbers
  over : (j : ℕ) → j < length numbers → slice_index numbers j ≤ slice_index numbers process

topmost : (numbers : List ℕ) → 0 < length numbers → Topmost numbers
topmost [] some = absurd (omega arith)
topmost (first ∷ rest) some =
    let numbers : List ℕ = first ∷ rest in
    let most : Most (λ x. x) numbers = most_of (λ x. x) first rest in
    let at : ℕ = most.member.0 in
    let in_at : at < length numbers = most.member.1 in
    let here : slice_index numbers at ≡ most.item = get_or_default numbers at 0 most.item in_at ∙ most.member.2 in
    let all : All (λ x. x ≤ most.item) numbers = All-from_recursion (λ x. x ≤ most.item) numbers most.over in
    record {
      process = at;
      inside = in_at;
      over = λ j in_j. let below : slice_index numbers j ≤ most.item = All-get_or (λ x. x ≤ most.item) numbers j 0 in_j all in omega (arith, here, below);
    }

-- a label that is not above another does not dominate it
under_top : (label : Option (List ℕ)) (top : List ℕ) → above label (Some top) ≡ false → IfSome label (λ other. dominates other top ≡ false)
under_top None top under = tt
under_top (Some label) top under = under

-- where one of ordered labels is present, one of those that are is greatest
has_greatest : (digits : ℕ) (labels : Labels) (numbers : List ℕ) → All (λ label. IfSome label (IsLabel digits)) labels → OrderedBy labels numbers
    → 0 < length (present labels) → HasGreatest (present labels)
has_greatest digits labels numbers are by some =
    let top : Topmost numbers = topmost numbers (omega (arith, by.count, present_le labels)) in
    let at : ℕ = top.process in
    let in_at : at < length labels = omega (arith, by.count, top.inside) in
    let Case : Option (List ℕ) → Type 0 = λ label. label_at labels at ≡ label → HasGreatest (present labels) in
    let by_case : (label : Option (List ℕ)) → Case label = λ label. elim label as Case [
      | None ↦ λ here.
          let zero_top : ltb 0 (slice_index numbers at) ≡ false = sym (by.present at in_at) ∙ ap is_present here in
          absurd (omega (
            arith,
            some,
            none_present labels (λ i in_i.
                by.present i in_i ∙ le-ltb 0 (slice_index numbers i) (omega (arith, ltb-false 0 (slice_index numbers at) zero_top, top.over i (omega (arith, by.count))))),
          ))
      | Some label ↦ λ here.
          greatest_from_undominated digits (present labels) label (All-present (IsLabel digits) labels are) (contains_present labels at label here)
          (All-present (λ other. dominates other label ≡ false) labels
          (All-from_get_or (λ other. IfSome other (λ l. dominates l label ≡ false)) labels None (λ j in_j.
          under_top (label_at labels j) label (ap (above (label_at labels j)) (sym here)
          ∙ by.over j at in_j in_at ∙ le-ltb (slice_index numbers at) (slice_index numbers j) (top.over j (omega (arith, by.count)))))))
    ] in
    by_case (label_at labels at) refl

-- the process that is to choose gives its own label up first
pub can_choose : (n p : ℕ) (labels : Labels) (numbers : List ℕ) → AreLabels n labels → OrderedBy labels numbers → p < length labels
    → CanChoose n (present (cleared p labels))
can_choose n p labels numbers are by in_p =
    let none : Option (List ℕ) = None in
    let left : All (λ label. IfSome label (IsLabel (n - 1))) (cleared p labels) = All-set (λ label. IfSome label (IsLabel (n - 1))) labels p none tt are.each in
    record {
      few = omega (arith, are.count, fewer_present p labels in_p);
      labels = All-present (IsLabel (n - 1)) (cleared p labels) left;
      top = λ some. has_greatest (n - 1) (cleared p labels) (clear_ticket p numbers) left (cleared_ordered p labels numbers by) some;
    }
