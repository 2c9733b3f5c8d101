-- One declaration after another.
-- The idea. `declares` is for one declaration whose name is new. After it a section goes on (`declared_one`), and it fails
-- where one declaration does (`declared_none`). A program has three sections of declarations, which are checked one after
-- the other (`checked_declarations-append`). So there are four ends: one of the three fails, or all are declared
-- (`sections_declared`).
-- Read `declares` first, then `declared_one` and `sections_declared`.
use Rattle.std.proofs.Common.{◌≡◌, ◌<◌, ◌≤◌, ℕ, suc, true, false, is_some, nat_lt, List, [], ◌∷◌, ◌++◌, ◌+◌, map, drop, drop-cons, get_or, length, add-one, Some, None, Ok, Err, refl, sym, ap, ◌∙◌}
use Rattle.std.proofs.Math.ListN.{drop_of_length-le}
use Rattle.std.proofs.lemmas.Bool.{lt-ltb}
use Rattle.std.specs.Borrow.{Bor}
use Rattle.std.specs.Map.{update, lookup}
use Rattle.std.specs.Str.{bytes_eq}
use Rattle.tick_kinds.specs.declared.fault.KindFault.{KindFault}
use Rattle.tick_kinds.specs.declared.kind.Kind.{Kind}
use Rattle.tick_kinds.specs.declared.kind.Kind.TheVariants as K
use Rattle.tick_kinds.specs.prover.Checked.{Checked, Table, Fails, is_memory, checked_declaration, checked_declarations}
use Rattle.tick_kinds.specs.Declarations.{Slot, Declaration, declarations, numbered, limit}
use Rattle.tick_kinds.specs.prover.Table.{slot_at}
use Rattle.indexmap.specs.IndexMap.{IndexMap, IsEmpty}
use Rattle.base.specs.declared.tree.Tree.{Tree}
use Rattle.base.specs.Refusing.{◌>>=◌}
use Rattle.base.proofs.Offered.{fails_on}
use Rattle.base.specs.declared.tree.Named.{Named}
use Rattle.base.specs.Plain.{name_of, tree_of}

-- a name that was not declared, within the limit of its kind
pub declares :
    (d : Declaration) (letters : List ℕ) (old new : Table) → letters ≡ d.name.letters
    → is_some (old letters) ≡ false → d.slot.1 < limit d.slot.0
    → ((q : List ℕ) → new q ≡ update bytes_eq old letters (Some d.slot) q)
    → checked_declaration d old ≡ Ok new
unfolding checked_declaration
declares d letters old new same absent fits follows =
    let none : is_some (old d.name.letters) ≡ false = ap (λ l. is_some (old l)) (sym same) ∙ absent in
    let small : nat_lt d.slot.1 (limit d.slot.0) ≡ true = lt-ltb _ _ fits in
    let table : update bytes_eq old d.name.letters (Some d.slot) ≡ new =
    ap (λ l. update bytes_eq old l (Some d.slot)) (sym same) ∙ sym (λ i q. follows q i) in
    rw (none, small) (ap Ok table)

module _ (kind : Kind) where
  -- the declarations of a section from the i-th on
  abbrev pub from : List Named → ℕ → List Declaration
  from xs i = numbered kind (map name_of (drop i xs)) i

  pub next_name :
      (xs : List Named) (i : ℕ) (x : Named) → i < length xs → x ≡ get_or xs i x
      → from xs i ≡ record { name = name_of x; slot = (kind, i) } ∷ from xs (i + 1)
  next_name xs i x h is =
      ap (λ ys. numbered kind (map name_of ys) i) (drop-cons xs i x h)
      ∙ ap (λ y. record { name = name_of y; slot = (kind, i) } ∷ numbered kind (map name_of (drop (suc i) xs)) (i + 1)) (sym is)
      ∙ ap (λ k. record { name = name_of x; slot = (kind, i) } ∷ numbered kind (map name_of (drop k xs)) (i + 1)) (sym (add-one i))

  pub no_name : (xs : List Named) (i : ℕ) → length xs ≤ i → from xs i ≡ []
  no_name xs i h = ap (λ ys. numbered kind (map name_of ys) i) (drop_of_length-le xs h)

pub declared_all : (look : Table) → checked_declarations [] look ≡ Ok look
unfolding checked_declarations
declared_all look = refl

pub declared_one :
    (d : Declaration) (ds : List Declaration) (old new : Table) → checked_declaration d old ≡ Ok new
    → checked_declarations (d ∷ ds) old ≡ checked_declarations ds new
unfolding checked_declarations
declared_one d ds old new h = ap (λ r. r >>= checked_declarations ds) h

pub declared_none :
    (d : Declaration) (ds : List Declaration) (old : Table) (e : KindFault)
    → Fails e (checked_declaration d old) → Fails e (checked_declarations (d ∷ ds) old)
unfolding checked_declarations
declared_none d ds old e h = fails_on is_memory e (checked_declaration d old) (checked_declarations ds) h

-- two sections, one after the other
pub checked_declarations-append :
    (ds es : List Declaration) (look : Table)
    → checked_declarations (ds ++ es) look ≡ (checked_declarations ds look >>= checked_declarations es)
unfolding checked_declarations
checked_declarations-append [] es look = refl
checked_declarations-append (d ∷ ds) es look =
    by (checked_declaration d look) (λ t. checked_declarations-append ds es t)
  where
    by :
        (r : Checked Table)
        → ((t : Table) → checked_declarations (ds ++ es) t ≡ (checked_declarations ds t >>= checked_declarations es))
        → (r >>= checked_declarations (ds ++ es)) ≡ ((r >>= checked_declarations ds) >>= checked_declarations es)
    by (Ok t) rest = rest t
    by (Err e) rest = refl

-- what an empty map says of letters
nothing_declared : {S : Type 0} (m : IndexMap (Bor (List ℕ)) Slot S) → IsEmpty m → slot_at m ≡ (λ _. None)
nothing_declared m h = ap (λ es q. lookup (λ (k : Bor (List ℕ)). bytes_eq q k.now) es) h

-- a tree declares the names of these three lists
declarations-tree :
    (tree : Tree) (vs ss rs : List Named)
    → vs ≡ tree.variables.items → ss ≡ tree.scans.items → rs ≡ tree.registers.items
    → declarations (tree_of tree)
    ≡ numbered K.Variable (map name_of vs) 0 ++ (numbered K.Scan (map name_of ss) 0 ++ numbered K.Register (map name_of rs) 0)
declarations-tree tree vs ss rs hv hs hr =
    sym
    (λ i. numbered K.Variable (map name_of (hv i)) 0
    ++ (numbered K.Scan (map name_of (hs i)) 0 ++ numbered K.Register (map name_of (hr i)) 0))

-- what a tree declares, from an empty map on
pub declared_from :
    {S : Type 0} (m : IndexMap (Bor (List ℕ)) Slot S) → IsEmpty m → (tree : Tree) (vs ss rs : List Named)
    → vs ≡ tree.variables.items → ss ≡ tree.scans.items → rs ≡ tree.registers.items
    → checked_declarations (declarations (tree_of tree)) (λ _. None)
    ≡ checked_declarations
    (numbered K.Variable (map name_of vs) 0 ++ (numbered K.Scan (map name_of ss) 0 ++ numbered K.Register (map name_of rs) 0)) (slot_at m)
declared_from m empty tree vs ss rs hv hs hr =
    λ i. checked_declarations (declarations-tree tree vs ss rs hv hs hr i) (sym (nothing_declared m empty) i)

module _ (a b c : List Declaration) (t0 : Table) where
  pub first_section_fails :
      (e : KindFault) → Fails e (checked_declarations a t0) → Fails e (checked_declarations (a ++ (b ++ c)) t0)
  first_section_fails e h =
      rw (checked_declarations-append a (b ++ c) t0) (fails_on is_memory e (checked_declarations a t0) _ h)

  module _ (t1 : Table) (ha : checked_declarations a t0 ≡ Ok t1) where
    pub second_section_fails :
        (e : KindFault) → Fails e (checked_declarations b t1) → Fails e (checked_declarations (a ++ (b ++ c)) t0)
    second_section_fails e h =
        rw (checked_declarations-append a (b ++ c) t0, ha, checked_declarations-append b c t1)
        (fails_on is_memory e (checked_declarations b t1) _ h)

    module _ (t2 : Table) (hb : checked_declarations b t1 ≡ Ok t2) where
      sections : checked_declarations (a ++ (b ++ c)) t0 ≡ checked_declarations c t2
      sections =
          checked_declarations-append a (b ++ c) t0 ∙ ap (λ r. r >>= checked_declarations (b ++ c)) ha
          ∙ checked_declarations-append b c t1 ∙ ap (λ r. r >>= checked_declarations c) hb

      pub third_section_fails :
          (e : KindFault) → Fails e (checked_declarations c t2) → Fails e (checked_declarations (a ++ (b ++ c)) t0)
      third_section_fails e h = rw sections h

      pub sections_declared :
          (t3 : Table) → checked_declarations c t2 ≡ Ok t3 → checked_declarations (a ++ (b ++ c)) t0 ≡ Ok t3
      sections_declared t3 h = sections ∙ h
