-- The lemmas that other crates may cite: digits spell the number that their value is, and the digits of
-- a number spell it; what rows of a fixed length hold; and what holds of both ways holds of either.
use Rattle.std.proofs.Common.{◌≡◌, ℕ, Bool, true, false, if◌then◌else◌, suc, ◌+◌, ◌-◌, ◌<◌, ◌≤◌, List, [], ◌∷◌, ◌++◌, length, get_or, ap, ◌∙◌, sym, arith, take, drop, set, replicate, append_assoc, take-append-drop, length-take-le}
use Rattle.std.proofs.lemmas.List.{set-append_right, take-replicate, drop-replicate, take_more, take_all}
use Rattle.std.proofs.Math.Seq.{take-append-add, drop-append-add}
use Rattle.base.specs.Rows.{padded}
pub use Rattle.base.proofs.RowLemmas.{made_more, rows_set, fails_on, fails_with}
pub use Rattle.base.proofs.Blocks.{statement_of_branch, statement_of_repeat, next_statement, no_statement}
pub use Rattle.base.proofs.DigitValues.{number_of-digits, Spells, decimal_spells}

-- the row is what counts of it, padded again
pub padded_back : {X : Type 0} (m c : ℕ) (z : X) (row : List X) → length row ≡ m → c ≤ m → drop c row ≡ replicate (m - c) z
    → padded m z (take c row) ≡ row
padded_back m c z row whole few rest =
    let fits : c ≤ length row = omega arith in
    rw (length-take-le c row fits, ← rest) (take-append-drop c row)

-- an item is written at the first place that does not count yet
pub padded_set : {X : Type 0} (m : ℕ) (z : X) (front : List X) (i : ℕ) (v : X) → length front ≡ i → i < m
    → set (front ++ replicate (m - i) z) i v ≡ (front ++ v ∷ []) ++ replicate (m - (i + 1)) z
padded_set m z front i v here inside =
    let more : m - i ≡ suc (m - (i + 1)) = omega arith in
    let none : i - i ≡ 0 = omega arith in
    set-append_right front (replicate (m - i) z) i i v here (omega arith)
    ∙ rw (more, none) (sym (append_assoc front (v ∷ []) (replicate (m - (i + 1)) z)))

-- a list is written into the row item by item
pub padded_next : {X : Type 0} (m : ℕ) (z : X) (items : List X) (i : ℕ) (d : X) → i < length items → i < m
    → set (take i items ++ replicate (m - i) z) i (get_or items i d) ≡ take (i + 1) items ++ replicate (m - (i + 1)) z
padded_next m z items i d here inside =
    padded_set m z (take i items) i (get_or items i d) (length-take-le i items (omega arith)) inside
    ∙ ap (λ front. front ++ replicate (m - (i + 1)) z) (sym (take_more items i d here))

-- and then the row is the list, padded
pub padded_end : {X : Type 0} (m : ℕ) (z : X) (items : List X) (i : ℕ) → i ≡ length items → take i items ++ replicate (m - i) z ≡ padded m z items
padded_end m z items i all =
    ap (λ k. take k items ++ replicate (m - k) z) all
    ∙ ap (λ front. front ++ replicate (m - length items) z) (take_all (length items) items (omega arith))

-- the row up to a place past what counts
pub padded_take : {X : Type 0} (m c i : ℕ) (z : X) (front : List X) → length front ≡ i → i ≤ c → c ≤ m
    → take c (front ++ replicate (m - i) z) ≡ front ++ replicate (c - i) z
padded_take m c i z front here past within =
    let reached : c ≡ length front + (c - i) = omega arith in
    ap (λ k. take k (front ++ replicate (m - i) z)) reached
    ∙ take-append-add front (replicate (m - i) z) (c - i)
    ∙ ap (λ row. front ++ row) (take-replicate (c - i) (m - i) z (omega arith))

-- and from there on
pub padded_drop : {X : Type 0} (m c i : ℕ) (z : X) (front : List X) → length front ≡ i → i ≤ c → c ≤ m
    → drop c (front ++ replicate (m - i) z) ≡ replicate (m - c) z
padded_drop m c i z front here past within =
    let reached : c ≡ length front + (c - i) = omega arith in
    let left : (m - i) - (c - i) ≡ m - c = omega arith in
    ap (λ k. drop k (front ++ replicate (m - i) z)) reached
    ∙ drop-append-add front (replicate (m - i) z) (c - i)
    ∙ drop-replicate (c - i) (m - i) z
    ∙ ap (λ k. replicate k z) left

-- what holds of both holds of whichever a test takes
pub one_of_two : {X : Type 0} (P : X → Type 0) (b : Bool) (x y : X) → P x → P y → P (if b then x else y)
one_of_two P true x y p q = p
one_of_two P false x y p q = q
