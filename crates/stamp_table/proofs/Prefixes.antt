-- Lists of steps: beginnings of one list (`StartsWith`), and the steps of one process (`mine`).
-- The idea. Most of it is by lengths. The steps of a process are taken from each part of a list by itself (`mine-append`).
-- So where a beginning has all of them, the rest has none (`mine-rest`). Of two beginnings of one list the shorter begins
-- the longer (`starts_shorter`). So the longer of the two begins with both (`longer_first`, `longer_second`).
-- Read `mine-append` and `starts_shorter` first, then `longer_whole`.
use Rattle.std.proofs.Common.{◌≡◌, ◌≢◌, ◌⊎◌, ℕ, ◌+◌, ◌-◌, ◌≤◌, ◌==◌, cond, List, [], ◌∷◌, ◌++◌, length, take, sym, ap, ◌∙◌, subst, ⊎_elim, arith, append_assoc, length-append}
use Rattle.std.proofs.lemmas.Bool.{eq-eqb, ne_eqb, cases_lt, lt-ltb, le-ltb}
use Rattle.std.proofs.lemmas.List.{append-nil, nil_from_length}
use Rattle.std.proofs.lemmas.List.Elements.{filter-append}
use Rattle.std.proofs.Math.Seq.{take-append_seam, take-append-add}
use Rattle.word_core.specs.declared.history.Shared.{Shared}
use Rattle.stamp_table.specs.Passes.{mine, StartsWith, longer}

pub mine-append : (p : ℕ) (steps others : List Shared) → mine p (steps ++ others) ≡ mine p steps ++ mine p others
mine-append p steps others = filter-append (λ (s : Shared). s.process == p) steps others

pub mine-one : (p : ℕ) (s : Shared) → s.process ≡ p → mine p (s ∷ []) ≡ s ∷ []
mine-one p s is = let none : List Shared = [] in ap (λ b. cond b (s ∷ none) none) (eq-eqb s.process p is)

pub mine-other : (p : ℕ) (s : Shared) → s.process ≢ p → mine p (s ∷ []) ≡ []
mine-other p s other = let none : List Shared = [] in ap (λ b. cond b (s ∷ none) none) (ne_eqb s.process p other)

pub mine-snoc_own : (p : ℕ) (steps : List Shared) (s : Shared) → s.process ≡ p → mine p (steps ++ s ∷ []) ≡ mine p steps ++ s ∷ []
mine-snoc_own p steps s is = mine-append p steps (s ∷ []) ∙ ap (λ xs. mine p steps ++ xs) (mine-one p s is)

pub mine-snoc_other : (p : ℕ) (steps : List Shared) (s : Shared) → s.process ≢ p → mine p (steps ++ s ∷ []) ≡ mine p steps
mine-snoc_other p steps s other =
    mine-append p steps (s ∷ []) ∙ ap (λ xs. mine p steps ++ xs) (mine-other p s other) ∙ append-nil (mine p steps)

-- where a beginning has all steps of a process, what follows has none
pub mine-rest : (p : ℕ) (front rest : List Shared) → mine p front ≡ mine p (front ++ rest) → mine p rest ≡ []
mine-rest p front rest same =
    let lengths : length (mine p front) ≡ length (mine p front ++ mine p rest) = ap length (same ∙ mine-append p front rest) in
    nil_from_length (mine p rest) (omega (arith, lengths, length-append (mine p front) (mine p rest)))

-- where a beginning has all steps of a process, so has each longer one
pub mine-middle : (p : ℕ) (whole long short : List Shared) → StartsWith whole long → StartsWith long short → mine p short ≡ mine p whole
    → mine p long ≡ mine p short
mine-middle p whole long short outer inner same =
    let all : mine p whole ≡ (mine p short ++ mine p inner.0) ++ mine p outer.0 =
    ap (mine p) outer.1 ∙ mine-append p long outer.0 ∙ ap (λ xs. mine p xs ++ mine p outer.0) inner.1
    ∙ ap (λ xs. xs ++ mine p outer.0) (mine-append p short inner.0) in
    let lengths : length (mine p short) ≡ length ((mine p short ++ mine p inner.0) ++ mine p outer.0) = ap length (same ∙ all) in
    let none : mine p inner.0 ≡ [] = nil_from_length (mine p inner.0)
    (omega (arith, lengths, length-append (mine p short ++ mine p inner.0) (mine p outer.0), length-append (mine p short) (mine p inner.0))) in
    ap (mine p) inner.1 ∙ mine-append p short inner.0 ∙ ap (λ xs. mine p short ++ xs) none ∙ append-nil (mine p short)

pub starts_itself : (steps : List Shared) → StartsWith steps steps
starts_itself steps = ([], sym (append-nil steps))

pub starts_further : (steps front more : List Shared) → StartsWith steps front → StartsWith (steps ++ more) front
starts_further steps front more starts =
    (starts.0 ++ more, ap (λ xs. xs ++ more) starts.1 ∙ append_assoc front starts.0 more)

pub starts_through : (steps middle front : List Shared) → StartsWith steps middle → StartsWith middle front → StartsWith steps front
starts_through steps middle front outer inner =
    (inner.0 ++ outer.0, outer.1 ∙ ap (λ xs. xs ++ outer.0) inner.1 ∙ append_assoc front inner.0 outer.0)

length_starts : (steps front : List Shared) (starts : StartsWith steps front) → length steps ≡ length front + length starts.0
length_starts steps front starts = ap length starts.1 ∙ length-append front starts.0

-- of two beginnings of one list the shorter begins the longer
pub starts_shorter : (whole short long : List Shared) → StartsWith whole short → StartsWith whole long → length short ≤ length long
    → StartsWith long short
starts_shorter whole short long starts_short starts_long fits =
    let more : ℕ = length long - length short in
    let split : length long ≡ length short + more = omega arith in
    let from_long : take (length long) whole ≡ long = ap (take (length long)) starts_long.1 ∙ take-append_seam long starts_long.0 in
    let from_short : take (length short + more) whole ≡ short ++ take more starts_short.0 =
    ap (take (length short + more)) starts_short.1 ∙ take-append-add short starts_short.0 more in
    (take more starts_short.0, sym from_long ∙ ap (λ k. take k whole) split ∙ from_short)

-- a beginning that is as long is the whole
pub starts_whole : (whole front : List Shared) → StartsWith whole front → length whole ≤ length front → front ≡ whole
starts_whole whole front starts fits =
    let none : starts.0 ≡ [] = nil_from_length starts.0 (omega (arith, length_starts whole front starts)) in
    sym (starts.1 ∙ ap (λ xs. front ++ xs) none ∙ append-nil front)

-- the longer of two beginnings of one list is a beginning of it, and begins with both
pub longer_starts : (whole a b : List Shared) → StartsWith whole a → StartsWith whole b → StartsWith whole (longer a b)
longer_starts whole a b starts_a starts_b =
    ⊎_elim
    (λ less. subst (λ t. StartsWith whole (cond t b a)) (sym (lt-ltb (length a) (length b) less)) starts_b)
    (λ more. subst (λ t. StartsWith whole (cond t b a)) (sym (le-ltb (length a) (length b) more)) starts_a)
    (cases_lt (length a) (length b))

pub longer_first : (whole a b : List Shared) → StartsWith whole a → StartsWith whole b → StartsWith (longer a b) a
longer_first whole a b starts_a starts_b =
    ⊎_elim
    (λ less. subst (λ t. StartsWith (cond t b a) a) (sym (lt-ltb (length a) (length b) less)) (starts_shorter whole a b starts_a starts_b (omega arith)))
    (λ more. subst (λ t. StartsWith (cond t b a) a) (sym (le-ltb (length a) (length b) more)) (starts_itself a))
    (cases_lt (length a) (length b))

pub longer_second : (whole a b : List Shared) → StartsWith whole a → StartsWith whole b → StartsWith (longer a b) b
longer_second whole a b starts_a starts_b =
    ⊎_elim
    (λ less. subst (λ t. StartsWith (cond t b a) b) (sym (lt-ltb (length a) (length b) less)) (starts_itself b))
    (λ more. subst (λ t. StartsWith (cond t b a) b) (sym (le-ltb (length a) (length b) more)) (starts_shorter whole b a starts_b starts_a more))
    (cases_lt (length a) (length b))

-- where one of the two is the whole, so is the longer
pub longer_whole : (whole a b : List Shared) → StartsWith whole a → StartsWith whole b → (a ≡ whole) ⊎ (b ≡ whole) → longer a b ≡ whole
longer_whole whole a b starts_a starts_b one =
    let long : StartsWith whole (longer a b) = longer_starts whole a b starts_a starts_b in
    let over_a = longer_first whole a b starts_a starts_b in
    let over_b = longer_second whole a b starts_a starts_b in
    starts_whole whole (longer a b) long (⊎_elim
    (λ is. omega (arith, length_starts (longer a b) a over_a, ap length is))
    (λ is. omega (arith, length_starts (longer a b) b over_b, ap length is))
    one)
