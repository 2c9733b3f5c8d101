-- The number of a label that keeps its first digits, turns one and has 0 from there on.
use Rattle.std.proofs.Common.{◌≡◌, ℕ, suc, ◌+◌, ◌-◌, ◌*◌, ◌^◌, ◌<◌, ◌≤◌, List, ◌∷◌, ◌++◌, length, take, replicate, get_or, refl, ap, sym, ◌∙◌, subst, arith, length-append, length-take-le}
use Rattle.std.specs.Prelude.{All, map}
use Rattle.std.specs.List.{range_with_len}
use Rattle.std.proofs.lemmas.List.{length-replicate}
use Rattle.std.proofs.lemmas.List.FromFn.{get_or-map-range_with_len}
use Rattle.std.proofs.lemmas.List.Elements.{All-take, All-cons, All-append, All-replicate}
use Rattle.std.proofs.lemmas.Nat.{mul-le}
use Rattle.label_core.specs.Labels.{IsLabel, label_number, digits_in}
use Rattle.label_core.specs.prover.Numbers.{some_labels, number_fits, digits_in-number, number-append}
use Rattle.label_core.specs.declared.table.TheConstants.{COUNTS}
use Rattle.label_core.proofs.Held.{number_in_table, zeros_number}

pub counts_are : (digits : ℕ) → digits ≤ 5 → get_or COUNTS digits 0 ≡ 3 ^ digits
counts_are digits few =
    let powers : COUNTS ≡ map (λ k. 3 ^ k) (range_with_len 0 6) = refl in
    ap (λ counts. get_or counts digits 0) powers ∙ get_or-map-range_with_len (λ k. 3 ^ k) 0 6 digits digits 0 (omega (arith, few)) (omega arith)

-- a number is no more than its product with a count of labels
pub below_product : (read digits : ℕ) → digits ≤ 5 → read ≤ read * get_or COUNTS digits 0
below_product read digits few =
    let some : 1 ≤ get_or COUNTS digits 0 = omega (arith, counts_are digits few, some_labels digits) in
    omega (arith, mul-le read 1 read (get_or COUNTS digits 0) (omega arith) some)

-- a label that keeps its first digits, turns one and has 0 from there on
abbrev pub turned : ℕ → ℕ → List ℕ → List ℕ
turned at digit label = take at label ++ digit ∷ replicate (length label - (at + 1)) 0

pub turned_number : (label : List ℕ) (at digit : ℕ) → at < length label
    → label_number (turned at digit label) ≡ label_number (take at label) * 3 ^ (length label - at) + digit * 3 ^ (length label - (at + 1))
turned_number label at digit inside =
    let later : ℕ = length label - (at + 1) in
    let head : ℕ = label_number (take at label) in
    let zeros : List ℕ = replicate later 0 in
    let tail : label_number (digit ∷ zeros) ≡ digit * 3 ^ later + 0 =
    ap (λ k. digit * 3 ^ k + label_number zeros) (length-replicate later 0) ∙ ap (λ n. digit * 3 ^ later + n) (zeros_number later) in
    let left : suc later ≡ length label - at = omega (arith, inside) in
    number-append (take at label) (digit ∷ zeros)
    ∙ ap (λ k. head * 3 ^ suc k + label_number (digit ∷ zeros)) (length-replicate later 0)
    ∙ ap (λ k. head * 3 ^ k + label_number (digit ∷ zeros)) left
    ∙ ap (λ n. head * 3 ^ (length label - at) + n) tail ∙ omega arith

-- a number that a label of `len` digits has, and these digits
pub record IsNumberOf (len : ℕ) (label : List ℕ) (read : ℕ) : Type 0 where
  pub is : digits_in len read ≡ label
  pub small : read < 3 ^ len
  pub in_table : read < 243

number_of : (len : ℕ) (label : List ℕ) → IsLabel len label → len ≤ 5 → IsNumberOf len label (label_number label)
number_of len label is few =
    let small : label_number label < 3 ^ len = subst (λ k. label_number label < 3 ^ k) is.len (number_fits label is.small) in
    record {
      is = subst (λ k. digits_in k (label_number label) ≡ label) is.len (digits_in-number label is.small);
      small = small;
      in_table = number_in_table len (label_number label) few small;
    }

turned_label : (at digit : ℕ) (label : List ℕ) → All (λ digit. digit < 3) label → at < length label → digit < 3 → IsLabel (length label) (turned at digit label)
turned_label at digit label small inside new = record {
  len = length-append (take at label) (digit ∷ replicate (length label - (at + 1)) 0)
      ∙ omega (arith, length-take-le at label (omega arith), length-replicate {A = ℕ} (length label - (at + 1)) 0, inside);
  small = All-append (λ digit. digit < 3) (take at label) (digit ∷ replicate (length label - (at + 1)) 0) (All-take (λ digit. digit < 3) at label small)
      (All-cons (λ digit. digit < 3) digit (replicate (length label - (at + 1)) 0) new
      (All-replicate (λ digit. digit < 3) (length label - (at + 1)) 0 (omega arith)));
}

-- what the code makes of the number of a label that it turns
pub turned_is : (len at digit before count : ℕ) (label : List ℕ) → IsLabel len label → len ≤ 5 → at < len → digit < 3
    → before ≡ label_number (take at label) * 3 ^ (length label - at) → count ≡ get_or COUNTS (len - (at + 1)) 0
    → IsNumberOf len (turned at digit label) (before + digit * count)
turned_is len at digit before count label is few inside new starts counts =
    let within : at < length label = omega (arith, is.len, inside) in
    let later : len - (at + 1) ≡ length label - (at + 1) = omega (arith, is.len) in
    let weight : count ≡ 3 ^ (length label - (at + 1)) = counts ∙ counts_are (len - (at + 1)) (omega (arith, few)) ∙ ap (λ k. 3 ^ k) later in
    let number : label_number (turned at digit label) ≡ before + digit * count =
    turned_number label at digit within ∙ sym (ap (λ b. b + digit * count) starts ∙ ap (λ w. label_number (take at label) * 3 ^ (length label - at) + digit * w) weight) in
    subst (IsNumberOf len (turned at digit label)) number
    (number_of len (turned at digit label) (subst (λ k. IsLabel k (turned at digit label)) is.len (turned_label at digit label is.small within new)) few)
