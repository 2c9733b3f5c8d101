-- The names that a program uses: nothing refuses one exactly where its place's section declares it
-- (`uses_declared`, and back `uses_clear`), and then its number is within that section (`use_within`).
--
-- The idea. Looking a name up goes through three sections in turn (`three`). Two facts of one section are
-- shown by induction on its names: it has a slot exactly where it has the letters (`some_there`), and the
-- slot has its kind and a number below its end (`slot_there`). So it is with whatever is found among all
-- declarations (`found`). The difficulty is the way back: an earlier section could have the same letters,
-- with another kind. Where names are declared once, the sections before have no such letters (`apart`);
-- `declared_kind` is the case split on the kind. Read `three` and `found` first.
use Rattle.std.proofs.Common.{◌≡◌, ◌<◌, ◌+◌, ℕ, suc, Bool, true, false, if◌then◌else◌, ◌||◌, is_some, List, [], ◌∷◌, ◌++◌, length, map, Option, Some, None, refl, sym, ap, ◌∙◌, subst, arith, true≢false, All, Contains}
use Rattle.std.proofs.lemmas.Cmp.{nat_list_eq_equiv}
use Rattle.std.proofs.lemmas.List.{map-append}
use Rattle.std.proofs.lemmas.List.Elements.{All-cons}
use Rattle.std.proofs.lemmas.List.Folds.{list_any-append}
use Rattle.std.proofs.lemmas.Map.Views.{Contains-from_any, list_any-from_Contains}
use Rattle.std.proofs.lemmas.Slice.Eq.{bytes_eq-Decides}
use Rattle.std.specs.List.{flat_map, list_any, AllByRecursion}
use Rattle.std.specs.Str.{bytes_eq}
use Rattle.tick_kinds.specs.declared.fault.KindFault.TheVariants as F
use Rattle.tick_kinds.specs.declared.kind.Kind.{Kind}
use Rattle.tick_kinds.specs.declared.kind.Kind.TheVariants as K
use Rattle.tick_kinds.specs.Accepted.{IsDeclared, letters_of}
use Rattle.tick_kinds.specs.Declarations.{Slot, Declaration, declarations, numbered, slot_in, section}
use Rattle.tick_kinds.specs.Refusals.{use_refusals, use_refusals_by}
use Rattle.tick_kinds.specs.Uses.{Use}
use Rattle.tick_kinds.proofs.Accepting.{IsOnce, is_kind-true, is_kind-same, front_empty, back_empty, both_empty, kept_empty}
use Rattle.tick_kinds.proofs.Telling.{or_else, slot_in-append, none_of}
use Rattle.base.specs.Plain.{Name, WholeProgram}

abbrev has : List ℕ → List (List ℕ) → Bool
has q ls = list_any (bytes_eq q) ls

has_from : (q : List ℕ) (ls : List (List ℕ)) → Contains ls q → has q ls ≡ true
has_from q ls h = list_any-from_Contains nat_list_eq_equiv q ls h

contains_from : (q : List ℕ) (ls : List (List ℕ)) → has q ls ≡ true → Contains ls q
contains_from q ls h = Contains-from_any (λ x y e. (bytes_eq-Decides x y).0 e) q ls h

-- Letters that stand once stand on one side of any cut.
none_same :
    (x : List ℕ) (ys : List (List ℕ)) → AllByRecursion (λ y. bytes_eq x y ≡ false) ys → has x ys ≡ false
none_same x [] h = refl
none_same x (y ∷ ys) h = ap (λ b. b || has x ys) h.0 ∙ none_same x ys h.1

any_right : (q : List ℕ) (xs ys : List (List ℕ)) → has q ys ≡ true → has q (xs ++ ys) ≡ true
any_right q xs ys h = list_any-append (bytes_eq q) xs ys ∙ ap (λ b. has q xs || b) h ∙ by (has q xs)
  where
    by : (b : Bool) → (b || true) ≡ true
    by true = refl
    by false = refl

apart : (q : List ℕ) (xs ys : List (List ℕ)) → IsOnce (xs ++ ys) → has q ys ≡ true → has q xs ≡ false
apart q [] ys h g = refl
apart q (x ∷ xs) ys h g = by (bytes_eq q x) refl (apart q xs ys h.1 g)
  where
    by : (b : Bool) → bytes_eq q x ≡ b → has q xs ≡ false → (b || has q xs) ≡ false
    by true e rest =
        let same : q ≡ x = (bytes_eq-Decides q x).0 e in
        let there : has x (xs ++ ys) ≡ true = subst (λ w. has w (xs ++ ys) ≡ true) same (any_right q xs ys g) in
        absurd (true≢false (sym there ∙ none_same x (xs ++ ys) h.0))
    by false e rest = rest

once_right : (xs ys : List (List ℕ)) → IsOnce (xs ++ ys) → IsOnce ys
once_right [] ys h = h
once_right (x ∷ xs) ys h = once_right xs ys h.1

-- One section: whether it has the letters, and with which slot.

letters-numbered : (kind : Kind) (xs : List Name) (k : ℕ) → map (λ d. d.name.letters) (numbered kind xs k) ≡ letters_of xs
letters-numbered kind [] k = refl
letters-numbered kind (x ∷ xs) k = ap (λ ls. x.letters ∷ ls) (letters-numbered kind xs (k + 1))

some_there : (kind : Kind) (q : List ℕ) (xs : List Name) (k : ℕ) → is_some (slot_in (numbered kind xs k) q) ≡ has q (letters_of xs)
some_there kind q [] k = refl
some_there kind q (x ∷ xs) k = by (bytes_eq q x.letters) (some_there kind q xs (k + 1))
  where
    by :
        (b : Bool) → is_some (slot_in (numbered kind xs (k + 1)) q) ≡ has q (letters_of xs)
        → is_some (if b then Some (kind, k) else slot_in (numbered kind xs (k + 1)) q) ≡ (b || has q (letters_of xs))
    by true h = refl
    by false h = h

-- a slot of this kind, below the end of its section
abbrev IsSlot : Kind → ℕ → Option Slot → Type 0
IsSlot kind end None = Unit {0}
IsSlot kind end (Some slot) = (kind ≡ slot.0) × (slot.1 < end)

slot_there : (kind : Kind) (q : List ℕ) (xs : List Name) (k : ℕ) → IsSlot kind (k + length xs) (slot_in (numbered kind xs k) q)
slot_there kind q [] k = tt
slot_there kind q (x ∷ xs) k = by (bytes_eq q x.letters) (slot_there kind q xs (k + 1))
  where
    same : k + 1 + length xs ≡ k + suc (length xs)
    same = omega arith

    by :
        (b : Bool) → IsSlot kind (k + 1 + length xs) (slot_in (numbered kind xs (k + 1)) q)
        → IsSlot kind (k + suc (length xs)) (if b then Some (kind, k) else slot_in (numbered kind xs (k + 1)) q)
    by true h = (refl, omega arith)
    by false h = subst (λ n. IsSlot kind n (slot_in (numbered kind xs (k + 1)) q)) same h

module _ (p : WholeProgram Name) where
  abbrev pub vars : List ℕ → Option Slot
  vars q = slot_in (numbered K.Variable p.variables 0) q

  abbrev pub scans : List ℕ → Option Slot
  scans q = slot_in (numbered K.Scan p.scans 0) q

  abbrev pub regs : List ℕ → Option Slot
  regs q = slot_in (numbered K.Register p.registers 0) q

  pub three : (q : List ℕ) → slot_in (declarations p) q ≡ or_else (vars q) (or_else (scans q) (regs q))
  three q =
      slot_in-append (numbered K.Variable p.variables 0) (numbered K.Scan p.scans 0 ++ numbered K.Register p.registers 0) q
      ∙ ap (or_else (vars q)) (slot_in-append (numbered K.Scan p.scans 0) (numbered K.Register p.registers 0) q)

  pub letters-declarations :
      map (λ d. d.name.letters) (declarations p)
      ≡ letters_of p.variables ++ (letters_of p.scans ++ letters_of p.registers)
  letters-declarations =
      map-append _ (numbered K.Variable p.variables 0) (numbered K.Scan p.scans 0 ++ numbered K.Register p.registers 0)
      ∙ (λ i. letters-numbered K.Variable p.variables 0 i
      ++ map-append (λ (d : Declaration). d.name.letters) (numbered K.Scan p.scans 0) (numbered K.Register p.registers 0) i)
      ∙ (λ i. letters_of p.variables ++ (letters-numbered K.Scan p.scans 0 i ++ letters-numbered K.Register p.registers 0 i))

  -- what a found slot says: the section of its kind has the letters, and more names than its number
  abbrev IsFound : List ℕ → Option Slot → Type 0
  IsFound q None = Unit {0}
  IsFound q (Some slot) = (has q (letters_of (section p slot.0)) ≡ true) × (slot.1 < length (section p slot.0))

  found_in :
      (kind : Kind) (q : List ℕ) → IsFound q (slot_in (numbered kind (section p kind) 0) q)
  found_in kind q =
      by (slot_in (numbered kind (section p kind) 0) q) refl (slot_there kind q (section p kind) 0) (some_there kind q (section p kind) 0)
    where
      by :
          (o : Option Slot) → o ≡ o → IsSlot kind (0 + length (section p kind)) o
          → is_some o ≡ has q (letters_of (section p kind)) → IsFound q o
      by None e h g = tt
      by (Some s) e h g =
          let here : (has q (letters_of (section p kind)) ≡ true) × (s.1 < length (section p kind)) = (sym g, omega (arith, h.1)) in
          subst (λ k. (has q (letters_of (section p k)) ≡ true) × (s.1 < length (section p k))) h.0 here

  either : (q : List ℕ) (o u : Option Slot) → IsFound q o → IsFound q u → IsFound q (or_else o u)
  either q None u h g = g
  either q (Some s) u h g = h

  found : (q : List ℕ) → IsFound q (slot_in (declarations p) q)
  found q =
      subst (IsFound q) (sym (three q))
      (either q _ _ (found_in K.Variable q) (either q _ _ (found_in K.Scan q) (found_in K.Register q)))

  -- Where names are declared once, a section's letters are found with its kind.
  abbrev IsOf : Kind → Option Slot → Type 0
  IsOf kind o = (k : ℕ) × (o ≡ Some (kind, k))

  own : (kind : Kind) (q : List ℕ) → has q (letters_of (section p kind)) ≡ true → IsOf kind (slot_in (numbered kind (section p kind) 0) q)
  own kind q h =
      by (slot_in (numbered kind (section p kind) 0) q) (slot_there kind q (section p kind) 0) (some_there kind q (section p kind) 0 ∙ h)
    where
      by : (o : Option Slot) → IsSlot kind (0 + length (section p kind)) o → is_some o ≡ true → IsOf kind o
      by None g e = absurd (true≢false (sym e))
      by (Some s) g e = (s.1, ap (λ k. Some (k, s.1)) (sym g.0))

  absent : (kind : Kind) (q : List ℕ) → has q (letters_of (section p kind)) ≡ false → slot_in (numbered kind (section p kind) 0) q ≡ None
  absent kind q h = none_of _ (some_there kind q (section p kind) 0 ∙ h)

  module _ (once : IsOnce (letters_of p.variables ++ (letters_of p.scans ++ letters_of p.registers))) (q : List ℕ) where
    declared_kind : (kind : Kind) → has q (letters_of (section p kind)) ≡ true → IsOf kind (slot_in (declarations p) q)
    declared_kind K.Variable h =
        let o = own K.Variable q h in
        (o.0, three q ∙ ap (λ v. or_else v (or_else (scans q) (regs q))) o.1)
    declared_kind K.Scan h =
        let o = own K.Scan q h in
        let there : has q (letters_of p.scans ++ letters_of p.registers) ≡ true =
        list_any-append (bytes_eq q) (letters_of p.scans) (letters_of p.registers) ∙ ap (λ b. b || has q (letters_of p.registers)) h in (
          o.0,
          three q ∙ ap (λ v. or_else v (or_else (scans q) (regs q))) (absent K.Variable q (apart q (letters_of p.variables) _ once there))
              ∙ ap (λ v. or_else v (regs q)) o.1,
        )
    declared_kind K.Register h =
        let o = own K.Register q h in
        let there : has q (letters_of p.scans ++ letters_of p.registers) ≡ true = any_right q (letters_of p.scans) (letters_of p.registers) h in (
          o.0,
          three q ∙ ap (λ v. or_else v (or_else (scans q) (regs q))) (absent K.Variable q (apart q (letters_of p.variables) _ once there))
              ∙ ap (λ v. or_else v (regs q)) (absent K.Scan q (apart q (letters_of p.scans) (letters_of p.registers) (once_right (letters_of p.variables) _ once) h))
              ∙ o.1,
        )

  abbrev look : List ℕ → Option Slot
  look = slot_in (declarations p)

  -- a use that nothing refuses is found with the kind that its place wants
  use_found : (u : Use) → use_refusals look u ≡ [] → IsOf u.wanted (look u.name.letters)
  use_found u h = by (look u.name.letters) h
    where
      by : (o : Option Slot) → use_refusals_by u o ≡ [] → IsOf u.wanted o
      by None h = absurd (cc)
      by (Some s) h = (s.1, ap (λ k. Some (k, s.1)) (sym (is_kind-true u.wanted s.0 (kept_empty _ _ h))))

  use_clear : (u : Use) → IsOf u.wanted (look u.name.letters) → use_refusals look u ≡ []
  use_clear u h =
      ap (use_refusals_by u) h.1
      ∙ ap (λ b. if b then [] else F.WrongKind u.name.span u.wanted u.wanted ∷ []) (is_kind-same u.wanted)

  use_declared : (u : Use) → use_refusals look u ≡ [] → IsDeclared p u
  use_declared u h =
      let o = use_found u h in
      let f : IsFound u.name.letters (Some (u.wanted, o.0)) = subst (IsFound u.name.letters) o.1 (found u.name.letters) in
      contains_from _ _ f.0

  -- the number of a use that nothing refuses
  pub use_within : (u : Use) → use_refusals look u ≡ [] → (k : ℕ) × (look u.name.letters ≡ Some (u.wanted, k)) × (k < length (section p u.wanted))
  use_within u h =
      let o = use_found u h in
      let f : IsFound u.name.letters (Some (u.wanted, o.0)) = subst (IsFound u.name.letters) o.1 (found u.name.letters) in
      (o.0, o.1, f.1)

  pub uses_declared : (us : List Use) → flat_map (use_refusals look) us ≡ [] → All (IsDeclared p) us
  uses_declared [] h = λ k d i. absurd (omega arith)
  uses_declared (u ∷ us) h =
      All-cons (IsDeclared p) u us (use_declared u (front_empty _ _ h)) (uses_declared us (back_empty (use_refusals look u) _ h))

  pub uses_clear :
      IsOnce (letters_of p.variables ++ (letters_of p.scans ++ letters_of p.registers))
      → (us : List Use) → All (IsDeclared p) us → flat_map (use_refusals look) us ≡ []
  uses_clear once [] h = refl
  uses_clear once (u ∷ us) h =
      both_empty _ _ (use_clear u (declared_kind once u.name.letters u.wanted (has_from _ _ (h 0 u (omega arith)))))
      (uses_clear once us (λ k d i. h (suc k) d (omega arith)))
