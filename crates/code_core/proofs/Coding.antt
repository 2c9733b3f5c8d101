-- What is encoded is decoded to what it was: `coding_end` says it of a whole code.
--
-- A word is the kind of its instruction times 2 ^ 24, plus operands below 2 ^ 16. So division gives the kind
-- back (`kind_back`), and the bits below give the operands back, by a case split on the instruction (`said`).
-- The difficulty is Push. Its word has only the number of its constant, and decoding needs the list of all
-- constants. So `back_from`, by induction on the instructions, allows any list of constants before theirs.
-- The words are made in a loop: `coding_next` keeps its invariant `Coding`, and `coding_end` applies
-- `back_from`. `decoded_at` is for one place: the instruction there is what its word says.
-- Read `back_from` first.
use Rattle.std.proofs.Common.{◌≡◌, ℕ, ◌+◌, ◌*◌, ◌/◌, ◌%◌, ◌<◌, ◌≤◌, List, [], ◌∷◌, ◌++◌, refl, ap, ◌∙◌, sym, subst, length, drop, get_or, arith, append_assoc, Some}
use Rattle.std.specs.Prelude.{All, slice_index, slice_get, option_map}
use Rattle.std.proofs.lemmas.List.{append-nil, length-append, drop_more, drop_all, take_all}
use Rattle.std.proofs.lemmas.List.Elements.{All-nil, All-cons, All-head, All-tail, All-more}
use Rattle.std.proofs.lemmas.Nat.{div-mul-add}
use Rattle.std.proofs.lemmas.Option.{slice_get-map}
use Rattle.base.specs.declared.operator.Op.{Op}
use Rattle.base.specs.declared.operator.Op.TheVariants as O
use Rattle.code_core.specs.declared.instr.Instr.{Instr}
use Rattle.code_core.specs.declared.instr.Instr.TheVariants as I
use Rattle.code_core.specs.Words.{kind, sign_number, operands, word_of, constant_in, constants_of, words_from, words_of, sign_of, of_kind, decoded, decoded_all}
use Rattle.code_core.specs.prover.Coding.{SlotsFit, IsWord, AreCoded, Coding}

kind_known : (i : Instr) → kind i ≤ 19
kind_known (I.Push v) = omega arith
kind_known _ = omega arith

sign_known : (op : Op) → sign_number op ≤ 8
sign_known O.Add = omega arith
sign_known _ = omega arith

-- the operands leave the upper bits alone
operands_small : (constant : ℕ) (i : Instr) → constant < 65536 → SlotsFit i → operands constant i < 65536
operands_small constant (I.Push v) few slots = few
operands_small constant (I.Load x) few slots = omega (arith, slots)
operands_small constant (I.Bin op) few slots = omega (arith, sign_known op)
operands_small constant (I.Store x) few slots = omega (arith, slots)
operands_small constant (I.Get r x) few slots = omega (arith, slots.0, slots.1)
operands_small constant (I.Put r) few slots = omega (arith, slots)
operands_small constant (I.Exchange l) few slots = slots
operands_small constant (I.Scan s) few slots = omega (arith, slots)
operands_small constant (I.Copy s t) few slots = omega (arith, slots.0, slots.1)
operands_small constant (I.Older s x) few slots = omega (arith, slots.0, slots.1)
operands_small constant (I.Held s x) few slots = omega (arith, slots.0, slots.1)
operands_small constant (I.JumpZero l) few slots = slots
operands_small constant (I.Jump l) few slots = slots
operands_small constant _ few slots = omega arith

kind_back : (constant : ℕ) (i : Instr) → constant < 65536 → SlotsFit i → word_of constant i / 16777216 ≡ kind i
kind_back constant i few slots =
    let small : operands constant i < 65536 = operands_small constant i few slots in
    div-mul-add (kind i) 16777216 (operands constant i) (omega (arith, small))

-- a slot alone, two slots, a place
alone : (kind x : ℕ) → x < 256 → (kind * 16777216 + x) % 256 ≡ x
alone kind x fits = omega (arith, fits)

first : (kind x y : ℕ) → x < 256 → (kind * 16777216 + (y * 256 + x)) % 256 ≡ x
first kind x y fits = omega (arith, fits)

second : (kind x y : ℕ) → x < 256 → y < 256 → (kind * 16777216 + (y * 256 + x)) / 256 % 256 ≡ y
second kind x y fits fit = omega (arith, fits, fit)

low : (kind l : ℕ) → l < 65536 → (kind * 16777216 + l) % 65536 ≡ l
low kind l fits = omega (arith, fits)

sign_back : (op : Op) → sign_of ((4 * 16777216 + sign_number op) % 256) ≡ op
sign_back O.Add = refl
sign_back _ = refl

-- what the kind says of the bits below it
said : (constants : List ℕ) (constant : ℕ) (i : Instr) → constant < 65536 → SlotsFit i → ((v : ℕ) → i ≡ I.Push v → slice_index constants constant ≡ v)
    → of_kind constants (word_of constant i) (kind i) ≡ i
said constants constant (I.Push v) few slots there = ap (λ k. I.Push (slice_index constants k)) (low 0 constant few) ∙ ap I.Push (there v refl)
said constants constant (I.Load x) few slots there = ap I.Load (alone 1 x slots)
said constants constant (I.Bin op) few slots there = ap I.Bin (sign_back op)
said constants constant (I.Store x) few slots there = ap I.Store (alone 5 x slots)
said constants constant (I.Get r x) few slots there = (λ j. I.Get (first 6 r x slots.0 j) (second 6 r x slots.0 slots.1 j))
said constants constant (I.Put r) few slots there = ap I.Put (alone 7 r slots)
said constants constant (I.Exchange l) few slots there = ap I.Exchange (low 10 l slots)
said constants constant (I.Scan s) few slots there = ap I.Scan (alone 11 s slots)
said constants constant (I.Copy s t) few slots there = (λ j. I.Copy (first 12 s t slots.0 j) (second 12 s t slots.0 slots.1 j))
said constants constant (I.Older s x) few slots there = (λ j. I.Older (first 13 s x slots.0 j) (second 13 s x slots.0 slots.1 j))
said constants constant (I.Held s x) few slots there = (λ j. I.Held (first 19 s x slots.0 j) (second 19 s x slots.0 slots.1 j))
said constants constant (I.JumpZero l) few slots there = ap I.JumpZero (low 15 l slots)
said constants constant (I.Jump l) few slots there = ap I.Jump (low 16 l slots)
said constants constant _ few slots there = refl

is_word : (constants constant : ℕ) (i : Instr) → constant < 65536 → SlotsFit i → constant + length (constant_in i) ≤ constants
    → IsWord constants (word_of constant i)
is_word constants constant i few slots room =
    let back : word_of constant i / 16777216 ≡ kind i = kind_back constant i few slots in
    record {
      known = omega (arith, back, kind_known i);
      constant = λ is. pushes i room (sym back ∙ is);
      sign = λ is. signs i (sym back ∙ is);
    }
  where
    pushes : (i : Instr) → constant + length (constant_in i) ≤ constants → kind i ≡ 0 → word_of constant i % 65536 < constants
    pushes (I.Push v) room is = omega (arith, low 0 constant few)
    pushes _ room is = omega (arith, is)

    signs : (i : Instr) → kind i ≡ 4 → word_of constant i % 256 ≤ 8
    signs (I.Bin op) is = omega (arith, alone 4 (sign_number op) (omega (arith, sign_known op)), sign_known op)
    signs _ is = omega (arith, is)

-- a constant stands where its number says
constant_there : (before : List ℕ) (i : Instr) (later : List ℕ) (v : ℕ) → i ≡ I.Push v → slice_index (before ++ (constant_in i ++ later)) (length before) ≡ v
constant_there before i later v is = ap (λ j. slice_index (before ++ (constant_in j ++ later)) (length before)) is ∙ at_seam before
  where
    at_seam : (before : List ℕ) → slice_index (before ++ v ∷ later) (length before) ≡ v
    at_seam [] = refl
    at_seam (c ∷ before) = at_seam before

at_most_one : (i : Instr) → length (constant_in i) ≤ 1
at_most_one (I.Push v) = omega arith
at_most_one _ = omega arith

record AreBack (code : List Instr) (words constants : List ℕ) : Type 0 where
  back : decoded_all constants words ≡ code
  each : All (IsWord (length constants)) words

-- instructions before which there were some constants
back_from : (before : List ℕ) (code : List Instr) → All SlotsFit code → length before + length code ≤ 65536
    → AreBack code (words_from (length before) code) (before ++ constants_of code)
back_from before [] fit few = record { back = refl; each = All-nil (IsWord (length (before ++ []))) }
back_from before (i ∷ is) fit few =
    let later = constants_of is in
    let constants = before ++ (constant_in i ++ later) in
    let longer : length before + length (constant_in i) ≡ length (before ++ constant_in i) = sym (length-append before (constant_in i)) in
    let whole : (before ++ constant_in i) ++ later ≡ constants = append_assoc before (constant_in i) later in
    let one : length (constant_in i) ≤ 1 = at_most_one i in
    let rest : AreBack is (words_from (length before + length (constant_in i)) is) constants =
    subst (AreBack is (words_from (length before + length (constant_in i)) is)) whole
    (subst (λ n. AreBack is (words_from n is) ((before ++ constant_in i) ++ later)) (sym longer)
    (back_from (before ++ constant_in i) is (All-tail SlotsFit i is fit) (omega (arith, longer, one, few)))) in
    let long : length constants ≡ length before + length (constant_in i) + length later =
    ap length (sym whole) ∙ length-append (before ++ constant_in i) later ∙ ap (λ n. n + length later) (sym longer) in
    let number : length before < 65536 = omega (arith, few) in
    let fits : SlotsFit i = All-head SlotsFit i is fit in
    let one_back : decoded constants (word_of (length before) i) ≡ i =
    ap (of_kind constants (word_of (length before) i)) (kind_back (length before) i number fits)
    ∙ said constants (length before) i number fits (constant_there before i later) in
    record {
      back = ap (λ j. j ∷ decoded_all constants (words_from (length before + length (constant_in i)) is)) one_back ∙ ap (λ js. i ∷ js) rest.back;
      each = All-cons (IsWord (length constants)) _ _ (is_word (length constants) (length before) i number fits (omega (arith, long))) rest.each;
    }

pub coding_start : (code : List Instr) → Coding code 0 [] []
coding_start code = record { words_are = refl; constants_are = refl; slots = All-nil SlotsFit; few = omega arith }

pub coding_next : (code : List Instr) (k : ℕ) (i : Instr) (words constants : List ℕ) → k < length code → get_or code k (I.Push 0) ≡ i → SlotsFit i
    → Coding code k words constants → Coding code (k + 1) (words ++ word_of (length constants) i ∷ []) (constants ++ constant_in i)
coding_next code k i words constants inside is fits coding =
    let rest = drop (k + 1) code in
    let here : drop k code ≡ i ∷ rest = drop_more code k (I.Push 0) inside ∙ ap (λ j. j ∷ rest) is in
    let one : length (constant_in i) ≤ 1 = at_most_one i in
    record {
      words_are =
          append_assoc words (word_of (length constants) i ∷ []) (words_from (length (constants ++ constant_in i)) rest)
          ∙ ap (λ n. words ++ word_of (length constants) i ∷ words_from n rest) (length-append constants (constant_in i))
          ∙ ap (λ js. words ++ words_from (length constants) js) (sym here) ∙ coding.words_are;
      constants_are =
          append_assoc constants (constant_in i) (constants_of rest)
          ∙ ap (λ js. constants ++ constants_of js) (sym here) ∙ coding.constants_are;
      slots = All-more SlotsFit code k (I.Push 0) inside coding.slots (subst SlotsFit (sym is) fits);
      few = omega (arith, coding.few, one, length-append constants (constant_in i));
    }

pub coding_end : (code : List Instr) (k : ℕ) (words constants : List ℕ) → length code ≤ k → length code ≤ 65535 → Coding code k words constants
    → AreCoded code words constants × (decoded_all constants words ≡ code)
coding_end code k words constants done few coding =
    let over : drop k code ≡ [] = drop_all k code done in
    let words_are : words ≡ words_of code =
    sym (append-nil words) ∙ ap (λ js. words ++ words_from (length constants) js) (sym over) ∙ coding.words_are in
    let constants_are : constants ≡ constants_of code =
    sym (append-nil constants) ∙ ap (λ js. constants ++ constants_of js) (sym over) ∙ coding.constants_are in
    let all : AreBack code (words_of code) (constants_of code) =
    back_from [] code (subst (All SlotsFit) (take_all k code done) coding.slots) (omega arith) in
    let are : AreBack code words constants =
    subst (λ ws. AreBack code ws constants) (sym words_are) (subst (AreBack code (words_of code)) (sym constants_are) all) in (
      record { words_are = words_are; constants_are = constants_are; each = are.each },
      are.back,
    )

-- the instruction at a place is what its word says
pub decoded_at : (constants words : List ℕ) (place word : ℕ) → slice_get words place ≡ Some word
    → slice_get (decoded_all constants words) place ≡ Some (decoded constants word)
decoded_at constants words place word here = slice_get-map (decoded constants) words place ∙ ap (option_map (decoded constants)) here
