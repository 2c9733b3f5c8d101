-- What the bits of a word say of its labels, and back: the labels that are read from a word are those that it
-- packs (`labels_read`), and bits that have what they may have are the word of the labels read from them
-- (`is_word`). So two lists of labels with one word are the same list (`distinct_law`).
--
-- The idea. A word has two halves, bytes below bit 48 and presence bits from there on. Each half is numbers
-- in fields of one width, and `Fields.antt` has how these are read, set and cleared. This page does so for
-- both halves and puts them together; `mask_word` and `written` do it for a label that goes or comes. The
-- difficulty is that the halves must not meet: with at most six processes the bytes stay below bit 48
-- (`halves`), and a byte of the whole word is one of its lower half (`byte_low`). Read `halves` and
-- `labels_read` first.
use Rattle.std.proofs.Common.{◌≡◌, ℕ, suc, zero, ◌+◌, ◌-◌, ◌*◌, ◌/◌, ◌%◌, ◌^◌, ◌<◌, ◌≤◌, Option, None, Some, List, length, set, refl, sym, ap, ◌∙◌, subst, arith, length-set}
use Rattle.std.specs.Prelude.{◌==◌, All, IfSome, bit_and}
use Rattle.std.proofs.Math.Nat.{div-eq_of_lt}
use Rattle.std.proofs.lemmas.Nat.{pow-add, pow_pos, shr-shr, shr_high, mod_low, field_of, mod-pow-add, div-add-mod', mod_below, and_block}
use Rattle.std.proofs.lemmas.List.{ext_get_or, length-replicate}
use Rattle.std.proofs.lemmas.List.Elements.{All-get_or, All-from_get_or, All-weaker, All-set, All-replicate}
use Rattle.label_core.specs.Labels.{IsLabel, label_number}
use Rattle.label_core.proofs.Offered.{numbered, numbered_back, number_fits, numbers_fit}
use Rattle.word_core.specs.Stamps.{Labels, label_at, is_present, start_labels, cleared}
use Rattle.word_core.specs.Packed.{AreLabels, IsWordOf, byte, presence, fields, word}
use Rattle.word_core.specs.Laws.{DistinctLaw}
use Rattle.word_core.specs.prover.Packing.{byte_in, presence_in, label_of, label_in, labels_from, labels_in, Counts, Fits, AllCount, all_but, mask_but, length-labels_in}
use Rattle.word_core.proofs.Fields.{fields_lt, field_at, fields_back, fields_set, fields_but, wider}

-- a byte has room for each label of at most five digits, a bit for whether there is one
byte_lt : (digits : ℕ) (label : Option (List ℕ)) → digits ≤ 5 → IfSome label (IsLabel digits) → byte label < 2 ^ 8
byte_lt digits None few is = omega arith
byte_lt digits (Some label) few is = omega (arith, numbers_fit digits (label_number label) few (number_fits digits label is))

presence_lt : (label : Option (List ℕ)) → presence label < 2 ^ 1
presence_lt None = omega arith
presence_lt (Some label) = omega arith

bytes_fit : (digits : ℕ) (labels : Labels) → digits ≤ 5 → All (λ label. IfSome label (IsLabel digits)) labels → All (λ label. byte label < 2 ^ 8) labels
bytes_fit digits labels few are = All-weaker (λ label. IfSome label (IsLabel digits)) (λ label. byte label < 2 ^ 8) (λ label is. byte_lt digits label few is) labels are

presences_fit : (labels : Labels) → All (λ label. presence label < 2 ^ 1) labels
presences_fit labels = All-from_get_or (λ label. presence label < 2 ^ 1) labels None (λ i inside. presence_lt (label_at labels i))

-- the two halves of a word of at most six processes
record Halves (labels : Labels) : Type 0 where
  fits : All (λ label. byte label < 2 ^ 8) labels
  small : fields 8 byte labels < 2 ^ (8 * length labels)
  low : word labels % 2 ^ 48 ≡ fields 8 byte labels
  high : word labels / 2 ^ 48 ≡ fields 1 presence labels
  few : fields 1 presence labels < 2 ^ length labels

halves : (n : ℕ) (labels : Labels) → n ≤ 6 → AreLabels n labels → Halves labels
halves n labels most are =
    let fits : All (λ label. byte label < 2 ^ 8) labels = bytes_fit (n - 1) labels (omega (arith, most)) are.each in
    let small : fields 8 byte labels < 2 ^ (8 * length labels) = fields_lt 8 byte labels fits in
    let below : fields 8 byte labels < 2 ^ (8 * 6) = wider 8 (length labels) 6 (fields 8 byte labels) (omega (arith, are.count, most)) small in
    let one : 1 * length labels ≡ length labels = omega arith in
    record {
      fits = fits;
      small = small;
      low = mod_low (fields 1 presence labels) 48 (fields 8 byte labels) below;
      high = shr_high (fields 1 presence labels) 48 (fields 8 byte labels) below;
      few = subst (λ k. fields 1 presence labels < 2 ^ k) one (fields_lt 1 presence labels (presences_fit labels));
    }

-- a byte of the whole bits is one of their lower half
byte_low : (bits i : ℕ) → i < 6 → byte_in (bits % 2 ^ 48) i ≡ byte_in bits i
byte_low bits i inside =
    let width : ℕ = 8 * i in
    let rest : ℕ = 40 - width in
    let whole : 48 ≡ (rest + 8) + width = omega arith in
    let split : bits % 2 ^ 48 / 2 ^ width ≡ bits / 2 ^ width % 2 ^ (rest + 8) = ap (λ k. bits % 2 ^ k / 2 ^ width) whole ∙ field_of bits (rest + 8) width in
    ap (λ q. q % 256) split
    ∙ ap (λ q. q % 256) (mod-pow-add (bits / 2 ^ width) rest 8)
    ∙ mod_low (bits / 2 ^ width / 2 ^ 8 % 2 ^ rest) 8 (bits / 2 ^ width % 2 ^ 8) (mod_below (bits / 2 ^ width) 256 (omega arith))

presence_high : (bits i : ℕ) → presence_in bits i ≡ bits / 2 ^ 48 / 2 ^ (1 * i) % 2
presence_high bits i =
    let one : i ≡ 1 * i = omega arith in ap (λ q. q % 2) (sym (shr-shr bits 48 i) ∙ ap (λ k. bits / 2 ^ 48 / 2 ^ k) one)

-- the byte and the bit of a process are read back
pub byte_read : (n bits i : ℕ) (labels : Labels) → n ≤ 6 → i < 6 → IsWordOf n bits labels → byte_in bits i ≡ byte (label_at labels i)
byte_read n bits i labels most inside is =
    let half : Halves labels = halves n labels most is.are in
    sym (byte_low bits i inside) ∙ ap (λ b. byte_in b i) (ap (λ b. b % 2 ^ 48) (sym is.packs) ∙ half.low) ∙ field_at 8 byte labels i refl half.fits

pub presence_read : (n bits i : ℕ) (labels : Labels) → n ≤ 6 → IsWordOf n bits labels → presence_in bits i ≡ presence (label_at labels i)
presence_read n bits i labels most is =
    let half : Halves labels = halves n labels most is.are in
    presence_high bits i ∙ ap (λ b. b / 2 ^ (1 * i) % 2) (ap (λ b. b / 2 ^ 48) (sym is.packs) ∙ half.high) ∙ field_at 1 presence labels i refl (presences_fit labels)

label_back : (digits : ℕ) (label : Option (List ℕ)) → IfSome label (IsLabel digits) → label_of digits (byte label) (presence label) ≡ label
label_back digits None is = refl
label_back digits (Some label) is = ap (λ (l : List ℕ). Some l) (numbered_back digits label is)

-- and so is its label
pub label_read : (n bits i : ℕ) (labels : Labels) → n ≤ 6 → i < n → IsWordOf n bits labels → label_in (n - 1) bits i ≡ label_at labels i
label_read n bits i labels most inside is =
    ap (λ b. label_of (n - 1) b (presence_in bits i)) (byte_read n bits i labels most (omega arith) is)
    ∙ ap (label_of (n - 1) (byte (label_at labels i))) (presence_read n bits i labels most is)
    ∙ label_back (n - 1) (label_at labels i) (All-get_or (λ label. IfSome label (IsLabel (n - 1))) labels i None (omega (arith, is.are.count)) is.are.each)

label_at-labels_from : (count digits bits i k : ℕ) → k < count → label_at (labels_from count digits bits i) k ≡ label_in digits bits (i + k)
label_at-labels_from zero digits bits i k inside = absurd (omega arith)
label_at-labels_from (suc count) digits bits i zero inside = ap (label_in digits bits) (let same : i ≡ i + 0 = omega arith in same)
label_at-labels_from (suc count) digits bits i (suc k) inside =
    label_at-labels_from count digits bits (suc i) k (omega arith) ∙ ap (label_in digits bits) (let same : suc i + k ≡ i + suc k = omega arith in same)

pub label_at-labels_in : (n bits i : ℕ) → i < n → label_at (labels_in n bits) i ≡ label_in (n - 1) bits i
label_at-labels_in n bits i inside = label_at-labels_from n (n - 1) bits 0 i inside ∙ ap (label_in (n - 1) bits) (let same : 0 + i ≡ i = omega arith in same)

-- the labels that are read from a word are those that it packs
pub labels_read : (n bits : ℕ) (labels : Labels) → n ≤ 6 → IsWordOf n bits labels → labels_in n bits ≡ labels
labels_read n bits labels most is =
    ext_get_or None (labels_in n bits) labels (length-labels_in n bits ∙ sym is.are.count) (λ i inside.
    let in_n : i < n = omega (arith, length-labels_in n bits) in
    label_at-labels_in n bits i in_n ∙ label_read n bits i labels most in_n is)

-- what a word has, it may have
counts_of : (digits : ℕ) (label : Option (List ℕ)) → IfSome label (IsLabel digits) → Counts digits (byte label) (presence label)
counts_of digits None is = refl
counts_of digits (Some label) is = number_fits digits label is

pub word_fits : (n bits : ℕ) (labels : Labels) → n ≤ 6 → IsWordOf n bits labels → Fits n bits
word_fits n bits labels most is =
    let half : Halves labels = halves n labels most is.are in
    record {
      bytes = subst (λ b. b % 2 ^ 48 < 2 ^ (8 * n)) is.packs (subst (λ k. word labels % 2 ^ 48 < 2 ^ (8 * k)) is.are.count (subst (λ b. b < 2 ^ (8 * length labels)) (sym half.low) half.small));
      presences = subst (λ b. b / 2 ^ 48 < 2 ^ n) is.packs (subst (λ k. word labels / 2 ^ 48 < 2 ^ k) is.are.count (subst (λ b. b < 2 ^ length labels) (sym half.high) half.few));
    }

pub word_counts : (n bits : ℕ) (labels : Labels) → n ≤ 6 → IsWordOf n bits labels → AllCount n bits
word_counts n bits labels most is = λ i inside.
    subst (λ b. Counts (n - 1) b (presence_in bits i)) (sym (byte_read n bits i labels most (omega arith) is))
    (subst (Counts (n - 1) (byte (label_at labels i))) (sym (presence_read n bits i labels most is))
    (counts_of (n - 1) (label_at labels i) (All-get_or (λ label. IfSome label (IsLabel (n - 1))) labels i None (omega (arith, is.are.count)) is.are.each)))

-- and bits that have what they may have are a word
record Reads (digits byte_there presence_there : ℕ) : Type 0 where
  is : IfSome (label_of digits byte_there presence_there) (IsLabel digits)
  byte : byte (label_of digits byte_there presence_there) ≡ byte_there
  presence : presence_there < 2 → presence (label_of digits byte_there presence_there) ≡ presence_there

reads_of : (digits byte_there presence_there : ℕ) → Counts digits byte_there presence_there → Reads digits byte_there presence_there
reads_of digits there zero counts = record { is = tt; byte = sym counts; presence = λ small. refl }
reads_of digits there (suc present) counts =
    let new = numbered digits there counts in
    record { is = new.is; byte = new.reads; presence = λ small. omega arith }

pub is_word : (n bits : ℕ) → n ≤ 6 → Fits n bits → AllCount n bits → IsWordOf n bits (labels_in n bits)
is_word n bits most fits counts =
    let labels : Labels = labels_in n bits in
    let len : length labels ≡ n = length-labels_in n bits in
    let read : (i : ℕ) → i < n → Reads (n - 1) (byte_in bits i) (presence_in bits i) = λ i inside. reads_of (n - 1) (byte_in bits i) (presence_in bits i) (counts i inside) in
    let one : n ≡ 1 * length labels = omega (arith, len) in
    let low : fields 8 byte labels ≡ bits % 2 ^ 48 =
    fields_back 8 byte labels (bits % 2 ^ 48) (subst (λ k. bits % 2 ^ 48 < 2 ^ (8 * k)) (sym len) fits.bytes) (λ i inside.
    let in_n : i < n = omega (arith, len) in
    byte_low bits i (omega arith) ∙ sym (read i in_n).byte ∙ ap byte (sym (label_at-labels_in n bits i in_n))) in
    let high : fields 1 presence labels ≡ bits / 2 ^ 48 =
    fields_back 1 presence labels (bits / 2 ^ 48) (subst (λ k. bits / 2 ^ 48 < 2 ^ k) one fits.presences) (λ i inside.
    let in_n : i < n = omega (arith, len) in
    sym (presence_high bits i) ∙ sym ((read i in_n).presence (mod_below (bits / 2 ^ (48 + i)) 2 (omega arith))) ∙ ap presence (sym (label_at-labels_in n bits i in_n))) in
    record {
      are = record {
        count = len;
        each = All-from_get_or (λ label. IfSome label (IsLabel (n - 1))) labels None (λ i inside.
            let in_n : i < n = omega (arith, len) in
            subst (λ label. IfSome label (IsLabel (n - 1))) (sym (label_at-labels_in n bits i in_n)) (read i in_n).is);
      };
      packs = ap (λ q. q * 2 ^ 48 + fields 8 byte labels) high ∙ ap (λ r. bits / 2 ^ 48 * 2 ^ 48 + r) low ∙ div-add-mod' bits (2 ^ 48);
    }

-- labels that pack to one word are one list
pub distinct_law : DistinctLaw
distinct_law n most a b is_a is_b same =
    sym (labels_read n (word a) a most (record { are = is_a; packs = λ _. word a })) ∙ ap (labels_in n) same
    ∙ labels_read n (word b) b most (record { are = is_b; packs = λ _. word b })

-- the word of labels that are all absent
fields_start : (width : ℕ) (number : Option (List ℕ) → ℕ) (n : ℕ) → number None ≡ 0 → fields width number (start_labels n) ≡ 0
fields_start width number zero none = refl
fields_start width number (suc n) none = omega (arith, ap (λ rest. rest * 2 ^ width) (fields_start width number n none), none)

pub start_word : (n : ℕ) → IsWordOf n 0 (start_labels n)
start_word n =
    let none : Option (List ℕ) = None in
    record {
      are = record { count = length-replicate n none; each = All-replicate (λ label. IfSome label (IsLabel (n - 1))) n none tt };
      packs = omega (arith, fields_start 8 byte n refl, fields_start 1 presence n refl);
    }

all_but_lt : (p : ℕ) → p < 6 → all_but 8 6 p < 2 ^ 48
all_but_lt zero inside = omega arith
all_but_lt (suc zero) inside = omega arith
all_but_lt (suc (suc zero)) inside = omega arith
all_but_lt (suc (suc (suc zero))) inside = omega arith
all_but_lt (suc (suc (suc (suc zero)))) inside = omega arith
all_but_lt (suc (suc (suc (suc (suc zero))))) inside = omega arith
all_but_lt (suc (suc (suc (suc (suc (suc p)))))) inside = absurd (omega (arith, inside))

-- the word without the label of `p`
pub mask_word : (n p : ℕ) (labels : Labels) → n ≤ 6 → AreLabels n labels → p < length labels → bit_and (word labels) (mask_but p) ≡ word (cleared p labels)
mask_word n p labels most are inside =
    let half : Halves labels = halves n labels most are in
    let below : fields 8 byte labels < 2 ^ 48 = wider 8 (length labels) 6 (fields 8 byte labels) (omega (arith, are.count, most)) half.small in
    and_block 48 (fields 1 presence labels) (all_but 1 6 p) (fields 8 byte labels) (all_but 8 6 p) below (all_but_lt p (omega (arith, are.count, most, inside)))
    ∙ ap (λ q. q * 2 ^ 48 + bit_and (fields 8 byte labels) (all_but 8 6 p)) (fields_but 1 presence 6 p labels refl (omega (arith, are.count, most)) inside (presences_fit labels))
    ∙ ap (λ r. fields 1 presence (cleared p labels) * 2 ^ 48 + r) (fields_but 8 byte 6 p labels refl (omega (arith, are.count, most)) inside half.fits)

-- the word with a label of `p`, which had none
pub written : (p : ℕ) (labels : Labels) (label : List ℕ) → p < length labels → label_at labels p ≡ None
    → word (set labels p (Some label)) ≡ word labels + label_number label * 2 ^ (8 * p) + 2 ^ (48 + p)
written p labels label inside absent =
    let low = fields_set 8 byte p labels (Some label) inside in
    let high = fields_set 1 presence p labels (Some label) inside in
    let no_byte : byte (label_at labels p) ≡ 0 = ap byte absent in
    let no_presence : presence (label_at labels p) ≡ 0 = ap presence absent in
    let place : 2 ^ (48 + p) ≡ 2 ^ 48 * 2 ^ (1 * p) = pow-add 2 48 p ∙ ap (λ k. 2 ^ 48 * 2 ^ k) (let one : p ≡ 1 * p = omega arith in one) in
    omega (arith, low, high, place, ap (λ b. b * 2 ^ (8 * p)) no_byte, ap (λ b. b * 2 ^ (1 * p)) no_presence)

-- ---- words as they are held

-- bits that are a word are the word of the labels read from them
pub word_self : (n bits : ℕ) (labels : Labels) → n ≤ 6 → IsWordOf n bits labels → IsWordOf n bits (labels_in n bits)
word_self n bits labels most is = subst (IsWordOf n bits) (sym (labels_read n bits labels most is)) is

pub held_word : (n count bits : ℕ) (labels : Labels) → IsWordOf count bits (labels_in count bits) → labels_in count bits ≡ labels → n ≡ length labels
    → IsWordOf n bits labels
held_word n count bits labels is view counted =
    let held : IsWordOf count bits labels = subst (IsWordOf count bits) view is in
    subst (λ k. IsWordOf k bits labels) (sym (counted ∙ held.are.count)) held

pub word_lt : (n : ℕ) (labels : Labels) → n ≤ 6 → AreLabels n labels → word labels < 2 ^ 54
word_lt n labels most are =
    let half : Halves labels = halves n labels most are in
    let below : fields 8 byte labels < 2 ^ 48 = wider 8 (length labels) 6 (fields 8 byte labels) (omega (arith, are.count, most)) half.small in
    let few : fields 1 presence labels < 2 ^ 6 = wider 1 (length labels) 6 (fields 1 presence labels) (omega (arith, are.count, most)) (fields_lt 1 presence labels (presences_fit labels)) in
    omega (arith, below, few)

pub present_bit : (label : Option (List ℕ)) → (presence label == 1) ≡ is_present label
present_bit None = refl
present_bit (Some label) = refl

-- the word of labels of which one was written
pub set_are : (n p : ℕ) (labels : Labels) (label : List ℕ) → AreLabels n labels → IsLabel (n - 1) label → AreLabels n (set labels p (Some label))
set_are n p labels label are is = record {
  count = length-set labels p (Some label) ∙ are.count;
  each = All-set (λ other. IfSome other (IsLabel (n - 1))) labels p (Some label) is are.each;
}

-- bits of which none is set from a place on
pub below_from_shift : (bits k : ℕ) → bits / 2 ^ k ≡ 0 → bits < 2 ^ k
below_from_shift bits k none =
    let rest : bits % 2 ^ k ≡ bits = omega (arith, div-add-mod' bits (2 ^ k), ap (λ q. q * 2 ^ k) none) in
    subst (λ b. b < 2 ^ k) rest (mod_below bits (2 ^ k) (pow_pos k))

pub shift_gone : (bits k : ℕ) → bits < 2 ^ k → bits / 2 ^ k ≡ 0
shift_gone bits k small = div-eq_of_lt small
