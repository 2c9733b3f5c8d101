-- Register rows in an array, and the words with which a table opens and closes.
-- The idea. A register of row r and process i stands at place r * n + i (`rows_in-at`), and an array that has the registers
-- of some rows at these places has these rows (`rows_in-from`). Both are by induction over the rows. The words of a table
-- are its labels as one word, and then its rows. So they open as `opening_words` says, and the memory that a history leaves
-- can be read from them (`closed_memory`).
-- Read `rows_in-from` first, then `closed_memory`.
use Rattle.std.proofs.Common.{◌≡◌, ℕ, zero, suc, ◌+◌, ◌*◌, ◌^◌, ◌<◌, ◌≤◌, List, [], ◌∷◌, length, get_or, take, drop, refl, sym, ap, ◌∙◌, subst, arith, length-drop}
use Rattle.std.specs.Prelude.{All, replicate, slice_index}
use mathlib.Core.Option.{some, some-injective, some-ne-none}
use lib.ListN.{get_elem?}
use Rattle.std.specs.List.{concat}
use Rattle.std.proofs.Math.Nat.{suc-mul, mul-le-mul_left, mul-le-mul_right}
use Rattle.std.proofs.lemmas.List.{ext_get_or, get_or-take, get_or-drop, get_or_append_left, get_or-append-add, length-take-le, take-replicate}
use Rattle.std.proofs.lemmas.List.Elements.{All-head, All-tail, All-nil, All-append, All-get_or}
use Rattle.word_core.specs.Stamps.{Labels, start_labels}
use Rattle.word_core.specs.Packed.{IsWordOf, word}
use Rattle.word_core.specs.History.{Memory, start_memory, memory_of, register_at, IsRow, IsLegal}
use Rattle.word_core.specs.declared.history.Shared.{Shared}
use Rattle.word_core.proofs.OfferedHistory.{history_rows}
use Rattle.stamp_table.specs.Rule.{table_words}
use Rattle.stamp_table.specs.prover.Closed.{rows_in}
use Rattle.stamp_table.proofs.Places.{start_registers, length-concat}
use Rattle.stamp_table.proofs.Answering.{labels_are}

pub length-rows_in : (count n : ℕ) (registers : List ℕ) → length (rows_in count n registers) ≡ count
length-rows_in zero n registers = refl
length-rows_in (suc count) n registers = ap suc (length-rows_in count n (drop n registers))

further : (n r i : ℕ) → n + (r * n + i) ≡ suc r * n + i
further n r i = omega (arith, suc-mul r n)

-- a register stands where its row and its process say
pub rows_in-at : (count n : ℕ) (registers : List ℕ) (r i : ℕ) → r < count → i < n → register_at (rows_in count n registers) r i ≡ get_or registers (r * n + i) 0
rows_in-at zero n registers r i in_r in_i = absurd (omega arith)
rows_in-at (suc count) n registers zero i in_r in_i =
    let here : i ≡ zero * n + i = omega arith in
    get_or-take n registers i 0 in_i ∙ ap (λ k. get_or registers k 0) here
rows_in-at (suc count) n registers (suc r) i in_r in_i =
    rows_in-at count n (drop n registers) r i (omega arith) in_i
    ∙ get_or-drop n registers (r * n + i) 0
    ∙ ap (λ k. get_or registers k 0) (further n r i)

-- an array that begins with the registers of these rows has these rows
pub rows_in-from : (n : ℕ) (rows : List (List ℕ)) (registers : List ℕ) → All (IsRow n) rows → length rows * n ≤ length registers
    → ((k : ℕ) → k < length rows * n → get_or registers k 0 ≡ get_or (concat rows) k 0) → rows_in (length rows) n registers ≡ rows
rows_in-from n [] registers are fits same = refl
rows_in-from n (row ∷ rows) registers are fits same =
    let here : IsRow n row = All-head (IsRow n) row rows are in
    let wide : suc (length rows) * n ≡ length rows * n + n = suc-mul (length rows) n in
    let taken : length (take n registers) ≡ n = length-take-le n registers (omega (arith, wide)) in
    let first : take n registers ≡ row = ext_get_or 0 (take n registers) row (taken ∙ sym here.count)
    (λ i in_i.
    get_or-take n registers i 0 (omega (arith, taken)) ∙ same i (omega (arith, taken, wide))
    ∙ get_or_append_left row (concat rows) 0 i (omega (arith, taken, here.count))) in
    let rest : rows_in (length rows) n (drop n registers) ≡ rows = rows_in-from n rows (drop n registers) (All-tail (IsRow n) row rows are)
    (omega (arith, length-drop n registers, wide))
    (λ k in_k.
    let place : length row + k ≡ n + k = ap (λ m. m + k) here.count in
    get_or-drop n registers k 0 ∙ same (n + k) (omega (arith, wide))
    ∙ ap (λ m. get_or (concat (row ∷ rows)) m 0) (sym place) ∙ get_or-append-add row (concat rows) k 0) in
    ap (λ x. x ∷ rows_in (length rows) n (drop n registers)) first ∙ ap (λ xs. row ∷ xs) rest

-- the registers of at most eight rows of at most six processes
pub few_registers : (n rows : ℕ) → n ≤ 6 → rows ≤ 8 → rows * n ≤ 48
few_registers n rows few few_rows = omega (arith, mul-le-mul_right n few_rows, mul-le-mul_left 8 few)

-- the words of a table at its start
pub opening_words : (n rows bits : ℕ) → n ≤ 6 → rows ≤ 8 → bits ≡ word (start_labels n)
    → take (1 + rows * n) (bits ∷ replicate 48 0) ≡ table_words (start_memory n rows)
opening_words n rows bits few few_rows is =
    let next : 1 + rows * n ≡ suc (rows * n) = omega arith in
    ap (λ k. take k (bits ∷ replicate 48 0)) next
    ∙ ap (λ xs. bits ∷ xs) (take-replicate (rows * n) 48 0 (few_registers n rows few few_rows))
    ∙ ap (λ xs. bits ∷ xs) (sym (start_registers n rows))
    ∙ ap (λ b. b ∷ concat (start_memory n rows).rows) is

pub got : (l : List ℕ) (i x : ℕ) → get_elem? l i ≡ some x → get_or l i 0 ≡ x
got [] i x at = absurd (some-ne-none x (sym at))
got (y ∷ l) zero x at = some-injective y x at
got (y ∷ l) (suc i) x at = got l i x at

all_fit : (n : ℕ) (rows : List (List ℕ)) → All (IsRow n) rows → All (λ x. x < 2 ^ 32) (concat rows)
all_fit n [] are = All-nil (λ x. x < 2 ^ 32)
all_fit n (row ∷ rows) are =
    All-append (λ x. x < 2 ^ 32) row (concat rows) (All-head (IsRow n) row rows are).each (all_fit n rows (All-tail (IsRow n) row rows are))

concat_fits : (n : ℕ) (rows : List (List ℕ)) (k : ℕ) → All (IsRow n) rows → k < length rows * n → slice_index (concat rows) k < 2 ^ 32
concat_fits n rows k are in_k =
    All-get_or (λ x. x < 2 ^ 32) (concat rows) k 0 (omega (arith, length-concat n rows are)) (all_fit n rows are)

-- what is read from the words of a closed table is what its history leaves
pub closed_memory : (n rows : ℕ) → n ≤ 6 → (seen : List Shared) (words registers : List ℕ) (bits : ℕ) (labels : Labels) → IsLegal n rows seen
    → words ≡ table_words (memory_of n rows seen) → get_elem? words 0 ≡ some bits → IsWordOf n bits labels → rows * n ≤ length registers
    → ((k : ℕ) → k < rows * n → slice_index registers k ≡ slice_index words (1 + k))
    → record { labels = labels; rows = rows_in rows n registers } ≡ memory_of n rows seen
closed_memory n rows few seen words registers bits labels legal is at word_of long same =
    let m : Memory = memory_of n rows seen in
    let are = history_rows n rows seen legal in
    let stands : word m.labels ≡ bits = sym (ap (λ (l : List ℕ). get_or l 0 0) is) ∙ got words 0 bits at in
    let labels_is : labels ≡ m.labels = labels_are n rows few seen bits labels stands word_of in
    let count : length m.rows ≡ rows = are.rows_count in
    let each : rows_in (length m.rows) n registers ≡ m.rows = rows_in-from n m.rows registers are.each (subst (λ k. k * n ≤ length registers) (sym count) long)
    (λ k in_k.
    let next : 1 + k ≡ suc k = omega arith in
    same k (subst (λ r. k < r * n) count in_k) ∙ ap (λ (l : List ℕ). slice_index l (1 + k)) is ∙ ap (slice_index (table_words m)) next) in
    let rows_is : rows_in rows n registers ≡ m.rows = ap (λ r. rows_in r n registers) (sym count) ∙ each in
    λ i. record { labels = labels_is i; rows = rows_is i }

-- each register that is read from them has 32 bits
pub closed_fits : (n rows : ℕ) (seen : List Shared) (words : List ℕ) → IsLegal n rows seen → words ≡ table_words (memory_of n rows seen)
    → (k : ℕ) → k < rows * n → slice_index words (1 + k) < 2 ^ 32
closed_fits n rows seen words legal is k in_k =
    let m : Memory = memory_of n rows seen in
    let are = history_rows n rows seen legal in
    let next : 1 + k ≡ suc k = omega arith in
    let here : slice_index words (1 + k) ≡ slice_index (concat m.rows) k = ap (λ (l : List ℕ). slice_index l (1 + k)) is ∙ ap (slice_index (table_words m)) next in
    subst (λ x. x < 2 ^ 32) (sym here) (concat_fits n m.rows k are.each (subst (λ r. k < r * n) (sym are.rows_count) in_k))
