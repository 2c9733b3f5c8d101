-- What a process writes, a label or none and a number with it, keeps the order of the others.
use Rattle.std.proofs.Common.{◌≡◌, ◌≢◌, ℕ, ◌<◌, true, false, ltb, Option, None, Some, List, length, set, refl, sym, ap, ◌∙◌, subst, arith, ⊎_elim, length-set, get_or-set_same, get_or-set_other}
use Rattle.std.specs.Prelude.{slice_index}
use Rattle.std.proofs.lemmas.Bool.{cases_eq, cases_lt, le-ltb}
use Rattle.std.proofs.lemmas.List.{set_past}
use Rattle.label_core.proofs.Offered.{dominates_self, dominates_one_way}
use Rattle.ticket_core.specs.Tickets.{clear_ticket}
use Rattle.word_core.specs.Stamps.{Labels, label_at, is_present, cleared}
use Rattle.word_core.specs.Order.{OrderedBy, above}

-- nobody is above itself
pub above_self : (label : Option (List ℕ)) → above label label ≡ false
above_self None = refl
above_self (Some label) = dominates_self label

-- no two are above each other
pub above_one_way : (a b : Option (List ℕ)) → above a b ≡ true → above b a ≡ false
above_one_way None b over = cc
above_one_way (Some a) None over = refl
above_one_way (Some a) (Some b) over = dominates_one_way a b over

-- all that are present are above an absent one
pub above_none : (label : Option (List ℕ)) → above label None ≡ is_present label
above_none None = refl
above_none (Some label) = refl

-- a label, or none, and a number that stand to each of the others as these do among themselves
pub record Fits (p : ℕ) (labels : Labels) (numbers : List ℕ) (label : Option (List ℕ)) (number : ℕ) : Type 0 where
  pub present : is_present label ≡ ltb 0 number
  pub apart : (j : ℕ) → j < length labels → j ≢ p → number ≡ slice_index numbers j → number ≡ 0
  pub over : (j : ℕ) → j < length labels → j ≢ p → above label (label_at labels j) ≡ ltb (slice_index numbers j) number
  pub under : (j : ℕ) → j < length labels → j ≢ p → above (label_at labels j) label ≡ ltb number (slice_index numbers j)

pub set_ordered : (p : ℕ) (labels : Labels) (numbers : List ℕ) (label : Option (List ℕ)) (number : ℕ) → OrderedBy labels numbers → p < length labels
    → Fits p labels numbers label number → OrderedBy (set labels p label) (set numbers p number)
set_ordered p labels numbers label number by in_p fits =
    let none : Option (List ℕ) = None in
    let labels' : Labels = set labels p label in
    let numbers' : List ℕ = set numbers p number in
    let n_p : slice_index numbers' p ≡ number = get_or-set_same numbers p number 0 (omega (arith, by.count)) in
    let l_p : label_at labels' p ≡ label = get_or-set_same labels p label none in_p in
    let n_o : (j : ℕ) → j ≢ p → slice_index numbers' j ≡ slice_index numbers j = λ j other. get_or-set_other numbers p j number 0 other in
    let l_o : (j : ℕ) → j ≢ p → label_at labels' j ≡ label_at labels j = λ j other. get_or-set_other labels p j label none other in
    let within : (j : ℕ) → j < length labels' → j < length labels = λ j in_j. omega (arith, length-set labels p label) in
    record {
      count = length-set numbers p number ∙ by.count ∙ sym (length-set labels p label);
      present = λ i in_i. ⊎_elim
          (λ at_i. rw at_i (rw (n_p, l_p) fits.present))
          (λ not_i. rw (n_o i not_i, l_o i not_i) (by.present i (within i in_i)))
          (cases_eq i p);
      apart = λ i j in_i in_j other same. ⊎_elim
          (λ at_i.
          let not_j : j ≢ p = λ at_j. other (at_i ∙ sym at_j) in
          let here : slice_index numbers' i ≡ number = ap (slice_index numbers') at_i ∙ n_p in
          here ∙ fits.apart j (within j in_j) not_j (sym here ∙ same ∙ n_o j not_j))
          (λ not_i. ⊎_elim
          (λ at_j.
          let here : slice_index numbers' j ≡ number = ap (slice_index numbers') at_j ∙ n_p in
          same ∙ here ∙ fits.apart i (within i in_i) not_i (sym here ∙ sym same ∙ n_o i not_i))
          (λ not_j. n_o i not_i ∙ by.apart i j (within i in_i) (within j in_j) other (sym (n_o i not_i) ∙ same ∙ n_o j not_j))
          (cases_eq j p))
          (cases_eq i p);
      over = λ i j in_i in_j. ⊎_elim
          (λ at_i. ⊎_elim
          (λ at_j. let same : j ≡ i = at_j ∙ sym at_i in
          rw same (above_self (label_at labels' i) ∙ sym (le-ltb (slice_index numbers' i) (slice_index numbers' i) (omega arith))))
          (λ not_j. rw at_i (rw (n_p, l_p, n_o j not_j, l_o j not_j) (fits.over j (within j in_j) not_j)))
          (cases_eq j p))
          (λ not_i. ⊎_elim
          (λ at_j. rw at_j (rw (n_p, l_p, n_o i not_i, l_o i not_i) (fits.under i (within i in_i) not_i)))
          (λ not_j. rw (n_o i not_i, l_o i not_i, n_o j not_j, l_o j not_j) (by.over i j (within i in_i) (within j in_j)))
          (cases_eq j p))
          (cases_eq i p);
    }

-- nothing and 0 fit beside any others
clear_fits : (p : ℕ) (labels : Labels) (numbers : List ℕ) → OrderedBy labels numbers → Fits p labels numbers None 0
clear_fits p labels numbers by = record {
  present = sym (le-ltb 0 0 (omega arith));
  apart = λ j in_j other same. refl;
  over = λ j in_j other. sym (le-ltb (slice_index numbers j) 0 (omega arith));
  under = λ j in_j other. above_none (label_at labels j) ∙ by.present j in_j;
}

-- a clear keeps labels ordered, of any process
pub cleared_ordered : (p : ℕ) (labels : Labels) (numbers : List ℕ) → OrderedBy labels numbers → OrderedBy (cleared p labels) (clear_ticket p numbers)
cleared_ordered p labels numbers by =
    let none : Option (List ℕ) = None in
    ⊎_elim
    (λ inside. set_ordered p labels numbers none 0 by inside (clear_fits p labels numbers by))
    (λ past.
    subst (λ kept. OrderedBy kept (clear_ticket p numbers)) (sym (set_past labels p none past))
    (subst (λ kept. OrderedBy labels kept) (sym (set_past numbers p 0 (omega (arith, by.count)))) by))
    (cases_lt p (length labels))
