-- Numbers in fields of one width, side by side in one number.
-- The idea. The first number is in the lowest field, and the fields of the others are above it (`place_split`). So all is
-- by induction over the labels. Where each number fits its field, all together are below the power of two behind the last
-- field (`fields_lt`). Each number is read back from its field (`field_at`), and the whole is known from what is read
-- (`fields_back`). `fields_set` puts another number into a field, and `fields_but` empties one by a mask.
-- Read `fields_lt` first, then `field_at` and `fields_but`.
use Rattle.std.proofs.Common.{◌≡◌, ℕ, suc, zero, ◌+◌, ◌-◌, ◌*◌, ◌/◌, ◌%◌, ◌^◌, ◌<◌, ◌≤◌, Option, None, List, [], ◌∷◌, length, set, sym, ap, ◌∙◌, subst, arith}
use Rattle.std.specs.Prelude.{All, bit_and}
use Rattle.std.specs.Int.Bits.{and_zero_r}
use Rattle.std.proofs.Math.Nat.{zero-div, mul_comm, mod-eq_of_lt, pow-le-pow_right}
use Rattle.std.proofs.lemmas.Nat.{pow-add, pow_pos, shr-shr, shr_high, mod_low, mul-add-lt, div-add-mod', div_below, and_block, and_mask, mul-le}
use Rattle.std.proofs.lemmas.List.Elements.{All-head, All-tail}
use Rattle.word_core.specs.Stamps.{Labels, label_at, cleared}
use Rattle.word_core.specs.Packed.{fields}
use Rattle.word_core.specs.prover.Packing.{all_but}

field_up : (width i : ℕ) → width * suc i ≡ width + width * i
field_up width i = omega arith

place_split : (width i : ℕ) → 2 ^ (width * suc i) ≡ 2 ^ width * 2 ^ (width * i)
place_split width i = ap (λ e. 2 ^ e) (field_up width i) ∙ pow-add 2 width (width * i)

place_up : (width i : ℕ) → 2 ^ (width * suc i) ≡ 2 ^ (width * i) * 2 ^ width
place_up width i = place_split width i ∙ mul_comm (2 ^ width) (2 ^ (width * i))

-- numbers that fit their fields fit as many fields
pub fields_lt : (width : ℕ) (number : Option (List ℕ) → ℕ) (labels : Labels) → All (λ label. number label < 2 ^ width) labels
    → fields width number labels < 2 ^ (width * length labels)
fields_lt width number [] fit = pow_pos (width * 0)
fields_lt width number (label ∷ labels) fit =
    let here : number label < 2 ^ width = All-head (λ label. number label < 2 ^ width) label labels fit in
    let rest : fields width number labels < 2 ^ (width * length labels) = fields_lt width number labels (All-tail (λ label. number label < 2 ^ width) label labels fit) in
    subst (λ end. fields width number (label ∷ labels) < end) (sym (place_split width (length labels)))
    (mul-add-lt (fields width number labels) (2 ^ width) (number label) (2 ^ (width * length labels)) rest here)

above_first : (width bits i : ℕ) → bits / 2 ^ (width * suc i) ≡ bits / 2 ^ width / 2 ^ (width * i)
above_first width bits i = ap (λ e. bits / 2 ^ e) (field_up width i) ∙ sym (shr-shr bits width (width * i))

at_first : (width bits : ℕ) → bits / 2 ^ (width * 0) ≡ bits
at_first width bits = ap (λ e. bits / 2 ^ e) (let none : width * 0 ≡ 0 = omega arith in none) ∙ (let whole : bits / 1 ≡ bits = omega arith in whole)

-- each number is read back from its field
pub field_at : (width : ℕ) (number : Option (List ℕ) → ℕ) (labels : Labels) (i : ℕ) → number None ≡ 0 → All (λ label. number label < 2 ^ width) labels
    → fields width number labels / 2 ^ (width * i) % 2 ^ width ≡ number (label_at labels i)
field_at width number [] i none fit =
    ap (λ q. q % 2 ^ width) (zero-div (2 ^ (width * i))) ∙ mod-eq_of_lt (pow_pos width) ∙ sym none
field_at width number (label ∷ labels) zero none fit =
    let here : number label < 2 ^ width = All-head (λ label. number label < 2 ^ width) label labels fit in
    ap (λ q. q % 2 ^ width) (at_first width (fields width number (label ∷ labels))) ∙ mod_low (fields width number labels) width (number label) here
field_at width number (label ∷ labels) (suc i) none fit =
    let here : number label < 2 ^ width = All-head (λ label. number label < 2 ^ width) label labels fit in
    ap (λ q. q % 2 ^ width) (above_first width (fields width number (label ∷ labels)) i
    ∙ ap (λ q. q / 2 ^ (width * i)) (shr_high (fields width number labels) width (number label) here))
    ∙ field_at width number labels i none (All-tail (λ label. number label < 2 ^ width) label labels fit)

-- and what is read from the fields of a number are the fields of that number
pub fields_back : (width : ℕ) (number : Option (List ℕ) → ℕ) (labels : Labels) (bits : ℕ) → bits < 2 ^ (width * length labels)
    → ((i : ℕ) → i < length labels → bits / 2 ^ (width * i) % 2 ^ width ≡ number (label_at labels i)) → fields width number labels ≡ bits
fields_back width number [] bits small reads =
    let one : 2 ^ (width * 0) ≡ 1 = ap (λ e. 2 ^ e) (let none : width * 0 ≡ 0 = omega arith in none) in omega (arith, small, one)
fields_back width number (label ∷ labels) bits small reads =
    let here : bits % 2 ^ width ≡ number label = ap (λ q. q % 2 ^ width) (sym (at_first width bits)) ∙ reads 0 (omega arith) in
    let above : bits / 2 ^ width < 2 ^ (width * length labels) =
    div_below bits (2 ^ width) (2 ^ (width * length labels)) (pow_pos width) (subst (λ end. bits < end) (place_up width (length labels)) small) in
    let rest : fields width number labels ≡ bits / 2 ^ width = fields_back width number labels (bits / 2 ^ width) above
    (λ i inside. ap (λ q. q % 2 ^ width) (sym (above_first width bits i)) ∙ reads (suc i) (omega arith)) in
    ap (λ r. fields width number labels * 2 ^ width + r) (sym here) ∙ ap (λ q. q * 2 ^ width + bits % 2 ^ width) rest ∙ div-add-mod' bits (2 ^ width)

-- one number takes the place of another
pub fields_set : (width : ℕ) (number : Option (List ℕ) → ℕ) (p : ℕ) (labels : Labels) (label : Option (List ℕ)) → p < length labels
    → fields width number (set labels p label) + number (label_at labels p) * 2 ^ (width * p) ≡ fields width number labels + number label * 2 ^ (width * p)
fields_set width number p [] label inside = absurd (omega (arith, inside))
fields_set width number zero (first ∷ labels) label inside =
    let one : 2 ^ (width * 0) ≡ 1 = ap (λ e. 2 ^ e) (let none : width * 0 ≡ 0 = omega arith in none) in
    omega (arith, ap (λ w. number first * w) one, ap (λ w. number label * w) one)
fields_set width number (suc p) (first ∷ labels) label inside =
    let rest = fields_set width number p labels label (omega (arith, inside)) in
    let up = place_up width p in
    omega (arith, rest, ap (λ w. number (label_at labels p) * w) up, ap (λ w. number label * w) up, ap (λ r. r * 2 ^ width) rest)

-- more fields have room for no less
pub wider : (width few many bits : ℕ) → few ≤ many → bits < 2 ^ (width * few) → bits < 2 ^ (width * many)
wider width few many bits le small =
    let more : width * few ≤ width * many = mul-le width few width many (omega arith) le in
    let most : 2 ^ (width * few) ≤ 2 ^ (width * many) = pow-le-pow_right (omega arith) {i = width * few} {j = width * many} more in
    omega (arith, small, most)

-- ones in all fields but that of `p` leave all numbers but its own
pub fields_but : (width : ℕ) (number : Option (List ℕ) → ℕ) (count p : ℕ) (labels : Labels) → number None ≡ 0 → length labels ≤ count → p < length labels
    → All (λ label. number label < 2 ^ width) labels → bit_and (fields width number labels) (all_but width count p) ≡ fields width number (cleared p labels)
fields_but width number count p [] none few inside fit = absurd (omega (arith, inside))
fields_but width number zero p (label ∷ labels) none few inside fit = absurd (omega (arith, few))
fields_but width number (suc count) zero (label ∷ labels) none few inside fit =
    let here : number label < 2 ^ width = All-head (λ label. number label < 2 ^ width) label labels fit in
    let rest : fields width number labels < 2 ^ (width * length labels) = fields_lt width number labels (All-tail (λ label. number label < 2 ^ width) label labels fit) in
    let most : fields width number labels < 2 ^ (width * count) = wider width (length labels) count (fields width number labels) (omega (arith, few)) rest in
    and_block width (fields width number labels) (2 ^ (width * count) - 1) (number label) 0 here (pow_pos width)
    ∙ ap (λ q. q * 2 ^ width + bit_and (number label) 0) (and_mask (fields width number labels) (width * count) ∙ mod-eq_of_lt most)
    ∙ ap (λ r. fields width number labels * 2 ^ width + r) (and_zero_r (number label) ∙ sym none)
fields_but width number (suc count) (suc p) (label ∷ labels) none few inside fit =
    let here : number label < 2 ^ width = All-head (λ label. number label < 2 ^ width) label labels fit in
    let ones : 2 ^ width - 1 < 2 ^ width = omega (arith, pow_pos width) in
    and_block width (fields width number labels) (all_but width count p) (number label) (2 ^ width - 1) here ones
    ∙ ap (λ q. q * 2 ^ width + bit_and (number label) (2 ^ width - 1))
    (fields_but width number count p labels none (omega (arith, few)) (omega (arith, inside)) (All-tail (λ label. number label < 2 ^ width) label labels fit))
    ∙ ap (λ r. fields width number (cleared p labels) * 2 ^ width + r) (and_mask (number label) width ∙ mod-eq_of_lt here)
