-- Checking from the front on tells the first refusal of a program's declarations, and has a table of them where
-- there is none (`declarations_told`). `Statements` goes on with the body, `Acceptance` with whole programs.
--
-- The idea. `told fs a` is the first of the faults `fs`, or the value `a` where there is none. Each step of
-- checking answers `told` of its own refusals and its own value; two steps in a row do so with both lists of
-- refusals (`told-then`). The difficulty of declarations: checking updates a table, in which the newest name
-- counts, and the definition looks through a list, in which the first one counts. `table-more` shows that they
-- agree where the name is new; where it is not, checking stops. Read `told` and `told-then` first.
use Rattle.std.proofs.Common.{◌≡◌, ℕ, Bool, true, false, if◌then◌else◌, is_some, nat_lt, List, [], ◌∷◌, ◌++◌, Option, Some, None, Ok, Err, refl, sym, ap, ◌∙◌, append_assoc, true≢false}
use Rattle.std.proofs.lemmas.List.{append-nil}
use Rattle.std.proofs.lemmas.Slice.Eq.{bytes_eq-Decides}
use Rattle.std.proofs.lemmas.Bool.Decides.{same_from_decides}
use Rattle.std.specs.Str.{bytes_eq}
use Rattle.tick_kinds.specs.declared.fault.KindFault.{KindFault}
use Rattle.tick_kinds.specs.declared.fault.KindFault.TheVariants as F
use Rattle.base.specs.Refusing.{◌>>=◌}
use Rattle.tick_kinds.specs.prover.Checked.{Checked, with_declaration, checked_declaration, checked_declarations}
use Rattle.tick_kinds.specs.Declarations.{Slot, Declaration, slot_in, limit}
use Rattle.tick_kinds.specs.Refusals.{declaration_refusals, declarations_refusals}

-- the first of the faults, else the value
abbrev pub told : {A : Type 0} → List KindFault → A → Checked A
told [] a = Ok a
told (f ∷ fs) a = Err f

pub told-then :
    {A B : Type 0} (r : Checked A) (fs gs : List KindFault) (a : A) (g : A → Checked B) (b : B)
    → r ≡ told fs a → g a ≡ told gs b → (r >>= g) ≡ told (fs ++ gs) b
told-then r fs gs a g b hr hg = ap (λ r. r >>= g) hr ∙ by fs
  where
    by : (fs : List KindFault) → (told fs a >>= g) ≡ told (fs ++ gs) b
    by [] = hg
    by (f ∷ fs) = refl

pub told-last :
    {A B : Type 0} (r : Checked A) (fs : List KindFault) (a : A) (h : A → B)
    → r ≡ told fs a → (r >>= λ x. Ok (h x)) ≡ told fs (h a)
told-last r fs a h hr = ap (λ r. r >>= λ x. Ok (h x)) hr ∙ by fs
  where
    by : (fs : List KindFault) → (told fs a >>= λ x. Ok (h x)) ≡ told fs (h a)
    by [] = refl
    by (f ∷ fs) = refl

-- the first of two, where it says something
abbrev pub or_else : Option Slot → Option Slot → Option Slot
or_else None o = o
or_else (Some x) o = Some x

pub slot_in-append :
    (ds es : List Declaration) (q : List ℕ) → slot_in (ds ++ es) q ≡ or_else (slot_in ds q) (slot_in es q)
slot_in-append [] es q = refl
slot_in-append (d ∷ ds) es q = by (bytes_eq q d.name.letters) (slot_in-append ds es q)
  where
    by :
        (b : Bool) → slot_in (ds ++ es) q ≡ or_else (slot_in ds q) (slot_in es q)
        → (if b then Some d.slot else slot_in (ds ++ es) q) ≡ or_else (if b then Some d.slot else slot_in ds q) (slot_in es q)
    by true h = refl
    by false h = h

pub none_of : (o : Option Slot) → is_some o ≡ false → o ≡ None
none_of None h = refl
none_of (Some x) h = absurd (true≢false h)

or_none : (o : Option Slot) → or_else o None ≡ o
or_none None = refl
or_none (Some x) = refl

pub flips : (a b : List ℕ) → bytes_eq a b ≡ bytes_eq b a
flips a b =
    same_from_decides _ _ (bytes_eq-Decides a b)
    (λ h. sym ((bytes_eq-Decides b a).0 h), λ h. (bytes_eq-Decides b a).1 (sym h))

module _ (d : Declaration) (before : List Declaration) where
  letters-same : (q : List ℕ) → bytes_eq q d.name.letters ≡ bytes_eq d.name.letters q
  letters-same q = flips q d.name.letters

  -- one more declared name
  table-more :
      is_some (slot_in before d.name.letters) ≡ false
      → with_declaration d (slot_in before) ≡ slot_in (before ++ d ∷ [])
  table-more new = λ i q. at q i
    where
      by :
          (q : List ℕ) (b : Bool) → bytes_eq d.name.letters q ≡ b
          → (if b then Some d.slot else slot_in before q)
          ≡ or_else (slot_in before q) (if b then Some d.slot else None)
      by q true same =
          let p : slot_in before q ≡ None =
          ap (slot_in before) (sym ((bytes_eq-Decides d.name.letters q).0 same)) ∙ none_of _ new in
          sym (ap (λ o. or_else o (Some d.slot)) p)
      by q false other = sym (or_none (slot_in before q))

      at : (q : List ℕ) → with_declaration d (slot_in before) q ≡ slot_in (before ++ d ∷ []) q
      at q =
          by q (bytes_eq d.name.letters q) refl
          ∙ ap (λ b. or_else (slot_in before q) (if b then Some d.slot else None)) (sym (letters-same q))
          ∙ sym (slot_in-append before (d ∷ []) q)

  declaration_told :
      checked_declaration d (slot_in before) ≡ told (declaration_refusals before d) (slot_in (before ++ d ∷ []))
  unfolding checked_declaration
  declaration_told =
      by (is_some (slot_in before d.name.letters)) refl (nat_lt d.slot.1 (limit d.slot.0))
    where
      by :
          (b : Bool) → is_some (slot_in before d.name.letters) ≡ b → (c : Bool)
          → (if b then Err (F.Twice d.name.span) else if c then Ok (with_declaration d (slot_in before)) else Err (F.TooMany d.name.span))
          ≡ told (if b then F.Twice d.name.span ∷ [] else if c then [] else F.TooMany d.name.span ∷ []) (slot_in (before ++ d ∷ []))
      by true h c = refl
      by false h true = ap Ok (table-more h)
      by false h false = refl

pub declarations_told :
    (ds before : List Declaration)
    → checked_declarations ds (slot_in before) ≡ told (declarations_refusals ds before) (slot_in (before ++ ds))
unfolding checked_declarations
declarations_told [] before = ap (λ ds. Ok (slot_in ds)) (sym (append-nil before))
declarations_told (d ∷ ds) before =
    told-then _ _ _ _ _ _ (declaration_told d before)
    (declarations_told ds (before ++ d ∷ [])
    ∙ ap (λ es. told (declarations_refusals ds (before ++ d ∷ [])) (slot_in es)) (append_assoc before (d ∷ []) ds))
