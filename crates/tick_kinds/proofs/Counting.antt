-- How many names the tree of an accepted program declares, and the slot of a name among those of a section.
use Rattle.std.proofs.Common.{◌≡◌, ◌<◌, ◌≤◌, ◌+◌, ℕ, true, false, if◌then◌else◌, List, length, map, get_or, Option, Some, None, Ok, sym, ap, ◌∙◌, arith, vec_len, string_bytes}
use Rattle.std.proofs.lemmas.List.{length-map}
use Rattle.std.specs.Str.{bytes_eq}
use Rattle.tick_kinds.specs.declared.kind.Kind.{Kind}
use Rattle.tick_kinds.specs.prover.Checked.{checked_program}
use Rattle.tick_kinds.specs.declared.kind.Kind.TheVariants as K
use Rattle.tick_kinds.specs.Declarations.{Slot, declarations, numbered, slot_in}
use Rattle.tick_kinds.proofs.Acceptance.{accepted}
use Rattle.tick_kinds.proofs.Declaring.{from, next_name, no_name}
use Rattle.tick_kinds.proofs.Telling.{flips, or_else}
use Rattle.tick_kinds.proofs.Using.{three}
use Rattle.base.specs.declared.tree.Named.{Named}
use Rattle.base.specs.declared.tree.Tree.{Tree}
use Rattle.base.specs.Plain.{Block, Name, WholeProgram, name_of, tree_of}

module _ (t : Tree) (b : Block ℕ) (h : checked_program (tree_of t) ≡ Ok b) where
  pub some_process : 1 ≤ t.processes
  some_process = (accepted (tree_of t) b h).some_process

  pub most_processes : t.processes ≤ 6
  most_processes = (accepted (tree_of t) b h).processes

  pub most_variables : vec_len t.variables ≤ 64
  most_variables = omega (arith, (accepted (tree_of t) b h).variables, length-map t.variables.items name_of, t.variables.ok)

  pub most_scans : vec_len t.scans ≤ 16
  most_scans = omega (arith, (accepted (tree_of t) b h).scans, length-map t.scans.items name_of, t.scans.ok)

  pub most_registers : vec_len t.registers ≤ 8
  most_registers = omega (arith, (accepted (tree_of t) b h).registers, length-map t.registers.items name_of, t.registers.ok)

module _ (kind : Kind) (xs : List Named) (i : ℕ) (q : List ℕ) where
  pub slot_here :
      (x : Named) → i < length xs → x ≡ get_or xs i x → bytes_eq (string_bytes x.name) q ≡ true
      → slot_in (from kind xs i) q ≡ Some (kind, i)
  slot_here x h is same =
      ap (λ ds. slot_in ds q) (next_name kind xs i x h is)
      ∙ ap (λ b. if b then Some (kind, i) else slot_in (from kind xs (i + 1)) q) (flips q (string_bytes x.name) ∙ same)

  pub slot_after :
      (x : Named) → i < length xs → x ≡ get_or xs i x → bytes_eq (string_bytes x.name) q ≡ false
      → slot_in (from kind xs i) q ≡ slot_in (from kind xs (i + 1)) q
  slot_after x h is same =
      ap (λ ds. slot_in ds q) (next_name kind xs i x h is)
      ∙ ap (λ b. if b then Some (kind, i) else slot_in (from kind xs (i + 1)) q) (flips q (string_bytes x.name) ∙ same)

  pub slot_nowhere : length xs ≤ i → slot_in (from kind xs i) q ≡ None
  slot_nowhere h = ap (λ ds. slot_in ds q) (no_name kind xs i h)

-- The slot of a name in the section that has it first.
module _ (t : Tree) (p : WholeProgram Name) (same : tree_of t ≡ p) (q : List ℕ) (a : Option Slot) (vs : List Named)
    (va : vs ≡ t.variables.items) (ha : a ≡ slot_in (numbered K.Variable (map name_of vs) 0) q) where
  all_three :
      slot_in (declarations p) q
      ≡ or_else a (or_else (slot_in (numbered K.Scan (map name_of t.scans.items) 0) q) (slot_in (numbered K.Register (map name_of t.registers.items) 0) q))
  all_three =
      ap (λ p. slot_in (declarations p) q) (sym same) ∙ three (tree_of t) q
      ∙ ap (λ o. or_else o (or_else (slot_in (numbered K.Scan (map name_of t.scans.items) 0) q) (slot_in (numbered K.Register (map name_of t.registers.items) 0) q)))
      (sym (ha ∙ ap (λ xs. slot_in (numbered K.Variable (map name_of xs) 0) q) va))

  pub is_variable : (s : Slot) → a ≡ Some s → Some s ≡ slot_in (declarations p) q
  is_variable s is = sym (all_three ∙ ap (λ o. or_else o (or_else (slot_in (numbered K.Scan (map name_of t.scans.items) 0) q) (slot_in (numbered K.Register (map name_of t.registers.items) 0) q))) is)

  module _ (no_variable : a ≡ None) (b : Option Slot) (ss : List Named)
      (vb : ss ≡ t.scans.items) (hb : b ≡ slot_in (numbered K.Scan (map name_of ss) 0) q) where
    last_two :
        slot_in (declarations p) q ≡ or_else b (slot_in (numbered K.Register (map name_of t.registers.items) 0) q)
    last_two =
        all_three
        ∙ ap (λ o. or_else o (or_else (slot_in (numbered K.Scan (map name_of t.scans.items) 0) q) (slot_in (numbered K.Register (map name_of t.registers.items) 0) q))) no_variable
        ∙ ap (λ o. or_else o (slot_in (numbered K.Register (map name_of t.registers.items) 0) q))
        (sym (hb ∙ ap (λ xs. slot_in (numbered K.Scan (map name_of xs) 0) q) vb))

    pub is_scan : (s : Slot) → b ≡ Some s → Some s ≡ slot_in (declarations p) q
    is_scan s is = sym (last_two ∙ ap (λ o. or_else o (slot_in (numbered K.Register (map name_of t.registers.items) 0) q)) is)

    pub is_register :
        b ≡ None → (c : Option Slot) (rs : List Named) → rs ≡ t.registers.items
        → c ≡ slot_in (numbered K.Register (map name_of rs) 0) q → c ≡ slot_in (declarations p) q
    is_register no_scan c rs vc hc =
        hc ∙ ap (λ xs. slot_in (numbered K.Register (map name_of xs) 0) q) vc
        ∙ sym (last_two ∙ ap (λ o. or_else o (slot_in (numbered K.Register (map name_of t.registers.items) 0) q)) no_scan)
