-- What an instruction finds in the process that makes it.
use Rattle.std.proofs.Common.{◌≡◌, ℕ, ◌+◌, ◌<◌, ◌≤◌, true, length, ap, ◌∙◌, subst, sym, arith, Some}
use Rattle.std.specs.Prelude.{nat_lt, slice_get}
use Rattle.std.proofs.lemmas.Bool.{ltb-true, OnTrue_from}
use Rattle.std.proofs.lemmas.List.Elements.{All-get_or}
use Rattle.code_core.specs.declared.instr.Instr.{Instr}
use Rattle.code_core.specs.declared.instr.Instr.TheVariants as I
use Rattle.code_core.specs.Instructions.{StepCode, CodeSizes, pops, left, goes_on, fits}
use Rattle.code_core.proofs.Offered.{IsFine, verified_fine}
use Rattle.code_machine.specs.Machine.{CodeProcess, scan_at}
use Rattle.code_machine.specs.Safety.{AreOrdered}
use Rattle.code_machine.specs.Process.{OneProcess, IsOf}
use Rattle.code_machine.specs.prover.Held.{HasSlots, Finds}
use Rattle.code_machine.proofs.Fine.{both_true}

module _ (z : CodeSizes) (q : CodeProcess) (variables : length q.variables ≡ z.variables) (scans : length q.scans ≡ z.scans) where
  in_variables : (x : ℕ) → nat_lt x z.variables ≡ true → x < length q.variables
  in_variables x fit = omega (arith, ltb-true x z.variables fit)

  in_scans : (s : ℕ) → nat_lt s z.scans ≡ true → s < length q.scans
  in_scans s fit = omega (arith, ltb-true s z.scans fit)

  has_slots : (i : Instr) → fits z i ≡ true → HasSlots q i
  has_slots (I.Load x) fit = in_variables x fit
  has_slots (I.Store x) fit = in_variables x fit
  has_slots (I.Get r x) fit = in_variables x (both_true (nat_lt r z.rows) (nat_lt x z.variables) fit).1
  has_slots (I.Scan s) fit = in_scans s fit
  has_slots (I.Copy s t) fit = let h = both_true (nat_lt s z.scans) (nat_lt t z.scans) fit in (in_scans s h.0, in_scans t h.1)
  has_slots (I.Older s x) fit = let h = both_true (nat_lt s z.scans) (nat_lt x z.variables) fit in (in_scans s h.0, in_variables x h.1)
  has_slots (I.Held s x) fit = let h = both_true (nat_lt s z.scans) (nat_lt x z.variables) fit in (in_scans s h.0, in_variables x h.1)
  has_slots _ fit = tt

module _ (code : StepCode) (one : OneProcess) (of : IsOf code one) (instruction : Instr) (here : slice_get code.instructions one.process.place ≡ Some instruction) where
  fine : IsFine code.sizes code.instructions
  fine = verified_fine code.sizes code.instructions of.verified

  finds : Finds one instruction
  finds = record {
    operands = subst (λ h. pops instruction ≤ h) (sym of.safe.height) (fine.each one.process.place instruction here).enough;
    room = OnTrue_from (goes_on instruction) _ (λ goes.
        subst (λ h. left instruction h ≤ one.room) (sym of.safe.height)
        (subst (λ h. h ≤ one.room) ((fine.each one.process.place instruction here).on goes).1 (omega (arith, fine.highest (one.process.place + 1), of.room))));
    more = OnTrue_from (goes_on instruction) _ (λ goes. omega (arith, ((fine.each one.process.place instruction here).on goes).0, fine.few));
    slots = has_slots code.sizes one.process of.safe.variables of.safe.scans instruction (fine.each one.process.place instruction here).slots;
  }

pub found : {code : StepCode} {one : OneProcess} {instruction i : Instr} → IsOf code one → slice_get code.instructions one.process.place ≡ Some instruction
    → instruction ≡ i → Finds one i
found {code} {one} {instruction} {i} of here is = subst (Finds one) is (finds code one of instruction here)

-- the labels in a scan that there is
scan_labels : (code : StepCode) (one : OneProcess) → IsOf code one → (s : ℕ) → s < length one.process.scans
    → AreOrdered code.sizes.processes (scan_at one.process code.sizes.processes s)
scan_labels code one of s there = All-get_or (AreOrdered code.sizes.processes) one.process.scans s _ there of.safe.filled

-- and how many they are, where the number of processes is the code's
pub scan_count : {code : StepCode} {one : OneProcess} → IsOf code one → (s n : ℕ) → s < length one.process.scans → n ≡ code.sizes.processes
    → length (scan_at one.process n s) ≡ n
scan_count {code} {one} of s n there many =
    ap (λ n. length (scan_at one.process n s)) many ∙ (scan_labels code one of s there).are.count ∙ sym many
