-- The words of a table: where a register stands, and what becomes of it.
use Rattle.std.proofs.Common.{◌≡◌, ℕ, zero, suc, ◌+◌, ◌-◌, ◌*◌, ◌<◌, ◌≤◌, List, [], ◌∷◌, ◌++◌, length, get_or, set, ap, ◌∙◌, arith, length-append}
use Rattle.std.specs.Prelude.{All, replicate}
use Rattle.std.specs.List.{concat}
use Rattle.std.proofs.Math.Nat.{suc-mul}
use Rattle.std.proofs.lemmas.List.{get_or_append_left, get_or-append-add, set-append_left, set-append_right, replicate-append-replicate}
use Rattle.std.proofs.lemmas.List.Elements.{All-head, All-tail}
use Rattle.word_core.specs.History.{register_at, register_set, IsRow}

pub length-concat : (n : ℕ) (rows : List (List ℕ)) → All (IsRow n) rows → length (concat rows) ≡ length rows * n
length-concat n [] are = omega arith
length-concat n (row ∷ rows) are =
    let here : IsRow n row = All-head (IsRow n) row rows are in
    omega (arith, length-append row (concat rows), here.count, length-concat n rows (All-tail (IsRow n) row rows are), suc-mul (length rows) n)

further : (n r i k : ℕ) → k ≡ n → suc r * n + i ≡ k + (r * n + i)
further n r i k same = omega (arith, suc-mul r n)

first : (n i : ℕ) → zero * n + i ≡ i
first n i = omega arith

pub concat-at : (n : ℕ) (rows : List (List ℕ)) (r i : ℕ) → All (IsRow n) rows → r < length rows → i < n
    → get_or (concat rows) (r * n + i) 0 ≡ register_at rows r i
concat-at n [] r i are in_r in_i = absurd (omega arith)
concat-at n (row ∷ rows) zero i are in_r in_i =
    let here : IsRow n row = All-head (IsRow n) row rows are in
    ap (λ k. get_or (row ++ concat rows) k 0) (first n i) ∙ get_or_append_left row (concat rows) 0 i (omega (arith, here.count))
concat-at n (row ∷ rows) (suc r) i are in_r in_i =
    let here : IsRow n row = All-head (IsRow n) row rows are in
    ap (λ k. get_or (row ++ concat rows) k 0) (further n r i (length row) here.count)
    ∙ get_or-append-add row (concat rows) (r * n + i) 0
    ∙ concat-at n rows r i (All-tail (IsRow n) row rows are) (omega arith) in_i

pub concat-set : (n : ℕ) (rows : List (List ℕ)) (r i v : ℕ) → All (IsRow n) rows → r < length rows → i < n
    → set (concat rows) (r * n + i) v ≡ concat (register_set rows r i v)
concat-set n [] r i v are in_r in_i = absurd (omega arith)
concat-set n (row ∷ rows) zero i v are in_r in_i =
    let here : IsRow n row = All-head (IsRow n) row rows are in
    ap (λ k. set (row ++ concat rows) k v) (first n i) ∙ set-append_left row (concat rows) i v (omega (arith, here.count))
concat-set n (row ∷ rows) (suc r) i v are in_r in_i =
    let here : IsRow n row = All-head (IsRow n) row rows are in
    let past : n ≤ suc r * n + i = omega (arith, suc-mul r n) in
    let back : suc r * n + i - n ≡ r * n + i = omega (arith, suc-mul r n) in
    set-append_right row (concat rows) n (suc r * n + i) v here.count past
    ∙ ap (λ k. row ++ set (concat rows) k v) back
    ∙ ap (λ xs. row ++ xs) (concat-set n rows r i v (All-tail (IsRow n) row rows are) (omega arith) in_i)

pub start_registers : (n rows : ℕ) → concat (replicate rows (replicate n 0)) ≡ replicate (rows * n) 0
start_registers n zero = let none : 0 ≡ zero * n = omega arith in ap (λ k. replicate k 0) none
start_registers n (suc rows) =
    let more : n + rows * n ≡ suc rows * n = omega (arith, suc-mul rows n) in
    ap (λ xs. replicate n 0 ++ xs) (start_registers n rows) ∙ replicate-append-replicate n (rows * n) 0 ∙ ap (λ k. replicate k 0) more
