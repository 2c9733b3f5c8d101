-- A program is accepted exactly where nothing refuses it; this page has the part of the declarations. Nothing
-- refuses them exactly where no name is declared twice and each number is within the limit of its kind
-- (`declarations_fine`, and back `declarations_clear`).
--
-- The idea. A refusal compares a declaration with those before it, and `IsAccepted` (`specs/Accepted.antt`)
-- any two. The induction is on the declarations, for any list `before` of earlier ones: each is new beside
-- `before` and within its limit (`IsFresh`), and no two of them share their letters (`IsOnce`). The
-- difficulty is that `before` grows by one at each step: what is fresh beside the longer list is fresh beside
-- `before` and differs from the one more (`earlier`), and back (`later`). Read `IsFresh` and
-- `declarations_fine` first.
use Rattle.std.proofs.Common.{◌≡◌, ◌≢◌, ◌<◌, ◌≤◌, ◌+◌, ℕ, suc, Bool, true, false, if◌then◌else◌, is_some, nat_lt, List, [], ◌∷◌, ◌++◌, length, map, Option, Some, None, refl, sym, ap, ◌∙◌, arith, true≢false, All}
use Rattle.std.proofs.lemmas.Bool.{ltb-true, lt-ltb}
use Rattle.std.proofs.lemmas.List.Elements.{All-cons}
use Rattle.std.proofs.lemmas.List.Kept.{AllPairs-cons}
use Rattle.std.proofs.lemmas.Slice.Eq.{bytes_eq-Decides}
use Rattle.std.specs.List.{AllByRecursion, AllPairs}
use Rattle.std.specs.Str.{bytes_eq}
use Rattle.tick_kinds.specs.declared.fault.KindFault.TheVariants as F
use Rattle.tick_kinds.specs.declared.kind.Kind.{Kind}
use Rattle.tick_kinds.specs.declared.kind.Kind.TheVariants as K
use Rattle.tick_kinds.specs.Declarations.{Slot, Declaration, numbered, slot_in, limit}
use Rattle.tick_kinds.specs.Refusals.{is_kind, declaration_refusals, declarations_refusals}
use Rattle.tick_kinds.proofs.Telling.{or_else, slot_in-append, flips}
use Rattle.base.specs.Plain.{Name}

pub is_kind-true : (a b : Kind) → is_kind a b ≡ true → a ≡ b
is_kind-true K.Variable K.Variable h = refl
is_kind-true K.Scan K.Scan h = refl
is_kind-true K.Register K.Register h = refl
is_kind-true K.Variable K.Scan h = absurd (true≢false (sym h))
is_kind-true K.Variable K.Register h = absurd (true≢false (sym h))
is_kind-true K.Scan K.Variable h = absurd (true≢false (sym h))
is_kind-true K.Scan K.Register h = absurd (true≢false (sym h))
is_kind-true K.Register K.Variable h = absurd (true≢false (sym h))
is_kind-true K.Register K.Scan h = absurd (true≢false (sym h))

pub is_kind-same : (a : Kind) → is_kind a a ≡ true
is_kind-same K.Variable = refl
is_kind-same K.Scan = refl
is_kind-same K.Register = refl

pub front_empty : {A : Type 0} (xs ys : List A) → xs ++ ys ≡ [] → xs ≡ []
front_empty [] ys h = refl
front_empty (x ∷ xs) ys h = absurd (cc)

pub back_empty : {A : Type 0} (xs ys : List A) → xs ++ ys ≡ [] → ys ≡ []
back_empty [] ys h = h
back_empty (x ∷ xs) ys h = absurd (cc)

pub both_empty : {A : Type 0} (xs ys : List A) → xs ≡ [] → ys ≡ [] → xs ++ ys ≡ []
both_empty xs ys hx hy = ap (λ zs. zs ++ ys) hx ∙ hy

-- what a test of its own leaves empty
pub kept_empty : {A : Type 0} (b : Bool) (x : A) → (if b then [] else x ∷ []) ≡ [] → b ≡ true
kept_empty true x h = refl
kept_empty false x h = absurd (cc)

-- Names that are declared once.

letters : Declaration → List ℕ
letters d = d.name.letters

-- no letters stand twice
abbrev pub IsOnce : List (List ℕ) → Type 0
IsOnce [] = Unit {0}
IsOnce (x ∷ xs) = AllByRecursion (λ y. bytes_eq x y ≡ false) xs × IsOnce xs

differ : (x : List ℕ) (ys : List (List ℕ)) → AllByRecursion (λ y. bytes_eq x y ≡ false) ys → All (λ y. x ≢ y) ys
differ x [] h = λ k d i. absurd (omega arith)
differ x (y ∷ ys) h =
    All-cons (λ y. x ≢ y) y ys (λ e. true≢false (sym ((bytes_eq-Decides x y).1 e) ∙ h.0)) (differ x ys h.1)

other : (x y : List ℕ) → x ≢ y → bytes_eq x y ≡ false
other x y n = by (bytes_eq x y) refl
  where
    by : (b : Bool) → bytes_eq x y ≡ b → b ≡ false
    by true e = absurd (n ((bytes_eq-Decides x y).0 e))
    by false e = refl

differing : (x : List ℕ) (ys : List (List ℕ)) → All (λ y. x ≢ y) ys → AllByRecursion (λ y. bytes_eq x y ≡ false) ys
differing x [] h = tt
differing x (y ∷ ys) h =
    (other x y (h 0 y (omega arith)), differing x ys (λ k d i. h (suc k) d (omega arith)))

pub pairs_from : (xs : List (List ℕ)) → IsOnce xs → AllPairs (λ x y. x ≢ y) xs
pairs_from [] h = λ i j d p q. absurd (omega arith)
pairs_from (x ∷ xs) h = AllPairs-cons (λ x y. x ≢ y) x xs (differ x xs h.0) (pairs_from xs h.1)

pub once_from : (xs : List (List ℕ)) → AllPairs (λ x y. x ≢ y) xs → IsOnce xs
once_from [] h = tt
once_from (x ∷ xs) h = (
  differing x xs (λ k d i. h 0 (suc k) d (omega arith) (omega arith)),
  once_from xs (λ i j d p q. h (suc i) (suc j) d (omega arith) (omega arith)),
)

-- the name is new after those before it, and its number is within the limit of its kind
abbrev pub IsFresh : List Declaration → Declaration → Type 0
IsFresh before d = (slot_in before d.name.letters ≡ None) × (d.slot.1 < limit d.slot.0)

fresh_from : (before : List Declaration) (d : Declaration) → declaration_refusals before d ≡ [] → IsFresh before d
fresh_from before d h = by (slot_in before d.name.letters) h
  where
    by :
        (o : Option Slot)
        → (if is_some o then F.Twice d.name.span ∷ [] else if nat_lt d.slot.1 (limit d.slot.0) then [] else F.TooMany d.name.span ∷ []) ≡ []
        → (o ≡ None) × (d.slot.1 < limit d.slot.0)
    by None h = (refl, ltb-true _ _ (kept_empty _ _ h))
    by (Some s) h = absurd (cc)

fresh_clear : (before : List Declaration) (d : Declaration) → IsFresh before d → declaration_refusals before d ≡ []
fresh_clear before d h =
    ap (λ o. if is_some o then F.Twice d.name.span ∷ [] else if nat_lt d.slot.1 (limit d.slot.0) then [] else F.TooMany d.name.span ∷ []) h.0
    ∙ ap (λ b. if b then [] else F.TooMany d.name.span ∷ []) (lt-ltb _ _ h.1)

pub or_none_left : (o u : Option Slot) → or_else o u ≡ None → o ≡ None
or_none_left None u h = refl
or_none_left (Some s) u h = absurd (cc)

pub or_none_right : (o u : Option Slot) → or_else o u ≡ None → u ≡ None
or_none_right None u h = h
or_none_right (Some s) u h = absurd (cc)

given_none : (b : Bool) (s : Slot) → (if b then Some s else None) ≡ None → b ≡ false
given_none true s h = absurd (cc)
given_none false s h = refl

-- what is fresh after one more was fresh before it, and differs from it
earlier :
    (before : List Declaration) (d : Declaration) (es : List Declaration)
    → AllByRecursion (IsFresh (before ++ d ∷ [])) es
    → AllByRecursion (IsFresh before) es × AllByRecursion (λ y. bytes_eq d.name.letters y ≡ false) (map (λ d. d.name.letters) es)
earlier before d [] h = (tt, tt)
earlier before d (e ∷ es) h =
    let p : or_else (slot_in before e.name.letters) (if bytes_eq e.name.letters d.name.letters then Some d.slot else None) ≡ None =
    sym (slot_in-append before (d ∷ []) e.name.letters) ∙ h.0.0 in
    let rest = earlier before d es h.1 in
    (((or_none_left _ _ p, h.0.1), rest.0), (flips d.name.letters e.name.letters ∙ given_none _ _ (or_none_right _ _ p), rest.1))

later :
    (before : List Declaration) (d : Declaration) (es : List Declaration)
    → AllByRecursion (IsFresh before) es → AllByRecursion (λ y. bytes_eq d.name.letters y ≡ false) (map (λ d. d.name.letters) es)
    → AllByRecursion (IsFresh (before ++ d ∷ [])) es
later before d [] h g = tt
later before d (e ∷ es) h g =
    let p : slot_in (before ++ d ∷ []) e.name.letters ≡ None =
    slot_in-append before (d ∷ []) e.name.letters
    ∙ ap (λ o. or_else o (if bytes_eq e.name.letters d.name.letters then Some d.slot else None)) h.0.0
    ∙ ap (λ b. if b then Some d.slot else None) (flips e.name.letters d.name.letters ∙ g.0) in
    ((p, h.0.1), later before d es h.1 g.1)

pub declarations_fine :
    (ds before : List Declaration) → declarations_refusals ds before ≡ []
    → AllByRecursion (IsFresh before) ds × IsOnce (map (λ d. d.name.letters) ds)
declarations_fine [] before h = (tt, tt)
declarations_fine (d ∷ ds) before h =
    let here = fresh_from before d (front_empty _ _ h) in
    let rest = declarations_fine ds (before ++ d ∷ []) (back_empty (declaration_refusals before d) _ h) in
    let parts = earlier before d ds rest.0 in
    ((here, parts.0), (parts.1, rest.1))

pub declarations_clear :
    (ds before : List Declaration) → AllByRecursion (IsFresh before) ds
    → IsOnce (map (λ d. d.name.letters) ds) → declarations_refusals ds before ≡ []
declarations_clear [] before h g = refl
declarations_clear (d ∷ ds) before h g =
    both_empty _ _ (fresh_clear before d h.0) (declarations_clear ds (before ++ d ∷ []) (later before d ds h.1 g.0) g.1)

-- Numbers within the limits.

abbrev pub IsSmall : Declaration → Type 0
IsSmall d = d.slot.1 < limit d.slot.0

pub smalls : (before ds : List Declaration) → AllByRecursion (IsFresh before) ds → AllByRecursion IsSmall ds
smalls before [] h = tt
smalls before (d ∷ ds) h = (h.0.1, smalls before ds h.1)

pub fresh_first : (ds : List Declaration) → AllByRecursion IsSmall ds → AllByRecursion (IsFresh []) ds
fresh_first [] h = tt
fresh_first (d ∷ ds) h = ((refl, h.0), fresh_first ds h.1)

pub all_left : (P : Declaration → Type 0) (xs ys : List Declaration) → AllByRecursion P (xs ++ ys) → AllByRecursion P xs
all_left P [] ys h = tt
all_left P (x ∷ xs) ys h = (h.0, all_left P xs ys h.1)

pub all_right : (P : Declaration → Type 0) (xs ys : List Declaration) → AllByRecursion P (xs ++ ys) → AllByRecursion P ys
all_right P [] ys h = h
all_right P (x ∷ xs) ys h = all_right P xs ys h.1

pub all_both : (P : Declaration → Type 0) (xs ys : List Declaration) → AllByRecursion P xs → AllByRecursion P ys → AllByRecursion P (xs ++ ys)
all_both P [] ys h g = g
all_both P (x ∷ xs) ys h g = (h.0, all_both P xs ys h.1 g)

pub within_limit : (kind : Kind) (xs : List Name) (k : ℕ) → AllByRecursion IsSmall (numbered kind xs k) → k ≤ limit kind → k + length xs ≤ limit kind
within_limit kind [] k h g = omega arith
within_limit kind (x ∷ xs) k h g =
    let small : k < limit kind = h.0 in
    let rest : k + 1 + length xs ≤ limit kind = within_limit kind xs (k + 1) h.1 (omega arith) in
    omega arith

pub numbers_small : (kind : Kind) (xs : List Name) (k : ℕ) → k + length xs ≤ limit kind → AllByRecursion IsSmall (numbered kind xs k)
numbers_small kind [] k h = tt
numbers_small kind (x ∷ xs) k h =
    let p : k + suc (length xs) ≤ limit kind = h in
    let small : k < limit kind = omega arith in
    (small, numbers_small kind xs (k + 1) (omega arith))
