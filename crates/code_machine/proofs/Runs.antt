-- Every state of every run of a verified code is safe, and no process is stuck in it: `never_stuck_law`.
--
-- `AllSafe` is an invariant of the run: it holds at the start (`all_start`), and a step keeps it
-- (`step_safe`). `run_safe` is the induction on the schedule.
-- The difficulty is in what is shared. By `did_safe` (`Safe.antt`) the process that steps stays safe if the
-- labels of a word in the reply are in order. They are, because the shared labels are in order (`has_word`).
-- And the shared labels stay in order (`labels_ordered`): a won exchange writes what a stamp makes of labels
-- in order, and a clear keeps the order.
-- The other processes stay safe, because `IsSafe` looks at one process alone (`each_after`).
-- Read `after_safe` first.
use Rattle.std.proofs.Common.{◌≡◌, ⊎_elim, ℕ, ◌<◌, ◌≤◌, true, false, if◌then◌else◌, List, [], ◌∷◌, length, replicate, get_or, refl, ap, ◌∙◌, sym, subst, arith, Option, Some, None}
use Rattle.std.specs.Prelude.{slice_get, slice_set, All}
use Rattle.std.proofs.lemmas.Bool.{both_ways}
use Rattle.std.proofs.lemmas.List.{length-set, length-replicate}
use Rattle.std.proofs.lemmas.List.Elements.{All-set, All-get_or, All-replicate}
use Rattle.std.proofs.lemmas.Option.{slice_get_within}
use Rattle.base.specs.declared.status.Status.{Status}
use Rattle.base.specs.declared.status.Status.TheVariants.{Running, Ended, Trapped}
use Rattle.code_core.specs.declared.instr.Instr.{Instr}
use Rattle.code_core.specs.Instructions.{CodeSizes, pops}
use Rattle.code_core.specs.Verified.{is_exchange}
use Rattle.code_core.proofs.Offered.{get-set, get-replicate}
use Rattle.word_core.specs.Stamps.{Labels, start_labels}
use Rattle.code_machine.specs.declared.ask.Ask.{Ask}
use Rattle.code_machine.specs.declared.ask.Ask.TheVariants as Q
use Rattle.code_machine.specs.declared.ask.Reply.TheVariants as R
use Rattle.code_machine.specs.Machine.{CodeProcess, CodeState, Moved, CodeStep, alone, asks, did, same_labels, reply_in, labels_by, rows_by, state_after, step_as, step_of, code_step, code_run, start_process, code_start, run_of}
use Rattle.code_machine.specs.Safety.{AreOrdered, IsSafe, NeverStuck, AllSafe, HasWord, IsLawful}
use Rattle.code_machine.specs.Laws.{IsNeverStuck, NeverStuckLaw}
use Rattle.code_machine.proofs.Fine.{Places, verified_places}
use Rattle.code_machine.proofs.Words.{start_in_order, stamped_in_order, cleared_in_order}
use Rattle.code_machine.proofs.Safe.{DidSafe, did_safe}

-- the answers of safe words are lawful
pub has_word : (n : ℕ) (labels : Labels) (rows : List (List ℕ)) (ask : Ask) → AreOrdered n labels → HasWord n (reply_in labels rows ask)
has_word n labels rows Q.LoadWord are = are
has_word n labels rows Q.Scan are = are
has_word n labels rows (Q.Exchange old new) are =
    elim (same_labels labels old) as (λ b. HasWord n (if b then R.Won else R.Lost labels)) [ true ↦ tt | false ↦ tt ]
has_word n labels rows (Q.Get r i) are = tt
has_word n labels rows (Q.Put r v) are = tt
has_word n labels rows Q.Clear are = tt

module _ (sizes : CodeSizes) (p : ℕ) (in_p : p < sizes.processes) where
  pub labels_ordered : (ask : Ask) (labels : Labels) → IsLawful sizes p ask → AreOrdered sizes.processes labels
      → AreOrdered sizes.processes (labels_by p ask labels)
  labels_ordered (Q.Exchange old new) labels lawful are =
      elim (same_labels labels old) as (λ b. AreOrdered sizes.processes (if b then new else labels)) [
        | true ↦ subst (AreOrdered sizes.processes) (sym lawful.1) (stamped_in_order sizes.processes p old lawful.0 in_p)
        | false ↦ are
      ]
  labels_ordered Q.LoadWord labels lawful are = are
  labels_ordered Q.Scan labels lawful are = are
  labels_ordered (Q.Get r i) labels lawful are = are
  labels_ordered (Q.Put r v) labels lawful are = are
  labels_ordered Q.Clear labels lawful are = cleared_in_order sizes.processes p labels are

  pub rows_kept : (ask : Ask) (rows : List (List ℕ)) → length (rows_by p ask rows) ≡ length rows
  rows_kept (Q.Put r v) rows = length-set rows r _
  rows_kept Q.LoadWord rows = refl
  rows_kept Q.Scan rows = refl
  rows_kept (Q.Exchange old new) rows = refl
  rows_kept (Q.Get r i) rows = refl
  rows_kept Q.Clear rows = refl

  registers_kept : (ask : Ask) (rows : List (List ℕ)) → IsLawful sizes p ask → length rows ≡ sizes.rows
      → All (λ row. length row ≡ sizes.processes) rows → All (λ row. length row ≡ sizes.processes) (rows_by p ask rows)
  registers_kept (Q.Put r v) rows lawful many all =
      let inside : r < length rows = omega (arith, lawful, many) in
      All-set (λ row. length row ≡ sizes.processes) rows r (slice_set (get_or rows r []) p v)
      (length-set (get_or rows r []) p v ∙ All-get_or (λ row. length row ≡ sizes.processes) rows r [] inside all) all
  registers_kept Q.LoadWord rows lawful many all = all
  registers_kept Q.Scan rows lawful many all = all
  registers_kept (Q.Exchange old new) rows lawful many all = all
  registers_kept (Q.Get r i) rows lawful many all = all
  registers_kept Q.Clear rows lawful many all = all

module _ (sizes : CodeSizes) (code : List Instr) (p : ℕ) (in_p : p < sizes.processes) where
  each_after : (qs : List CodeProcess) (q : CodeProcess) → IsSafe sizes code p q
      → ((j : ℕ) (x : CodeProcess) → slice_get qs j ≡ Some x → IsSafe sizes code j x)
      → (j : ℕ) (x : CodeProcess) → slice_get (slice_set qs p q) j ≡ Some x → IsSafe sizes code j x
  each_after qs q safe each j x at =
      ⊎_elim
      (λ (here, same). subst (λ k. IsSafe sizes code k x) (sym here) (subst (IsSafe sizes code p) same safe))
      (λ (apart, other). each j x other)
      (get-set qs p j q x at)

  after_safe : (s : CodeState) (d : CodeStep) → DidSafe sizes code p d → AllSafe sizes code s → AllSafe sizes code (state_after p s d)
  after_safe s (alone m) safe all = record {
    labels = all.labels;
    rows = all.rows;
    registers = all.registers;
    many = length-set s.processes p m.process ∙ all.many;
    each = each_after s.processes m.process safe all.each;
  }
  after_safe s (asks ask answered) safe all =
      let m : Moved = answered (reply_in s.labels s.rows ask) in record {
        labels = labels_ordered sizes p in_p ask s.labels safe.0 all.labels;
        rows = rows_kept sizes p in_p ask s.rows ∙ all.rows;
        registers = registers_kept sizes p in_p ask s.rows safe.0 all.rows all.registers;
        many = length-set s.processes p m.process ∙ all.many;
        each = each_after s.processes m.process (safe.1 (reply_in s.labels s.rows ask) (has_word sizes.processes s.labels s.rows ask all.labels)) all.each;
      }

module _ (sizes : CodeSizes) (code : List Instr) (fine : Places sizes code) where
  as_safe : (p : ℕ) (s : CodeState) (q : CodeProcess) (status : Status) → p < sizes.processes → IsSafe sizes code p q → AllSafe sizes code s
      → AllSafe sizes code (step_as sizes.processes code p s q status)
  as_safe p s q Running in_p safe all = after_safe sizes code p in_p s (did sizes.processes p code q) (did_safe sizes code fine p in_p q safe) all
  as_safe p s q Ended in_p safe all = all
  as_safe p s q (Trapped t) in_p safe all = all

  pub step_safe : (p : ℕ) (s : CodeState) → AllSafe sizes code s → AllSafe sizes code (code_step sizes.processes code p s)
  step_safe p s all =
      let case : (o : Option CodeProcess) → slice_get s.processes p ≡ o → AllSafe sizes code (step_of sizes.processes code p s o) =
      λ o at. elim o as (λ o. slice_get s.processes p ≡ o → AllSafe sizes code (step_of sizes.processes code p s o)) [
        | None ↦ λ at. all
        | Some q ↦ λ at. as_safe p s q q.status (omega (arith, slice_get_within s.processes p q at, all.many)) (all.each p q at) all
      ] at in
      case (slice_get s.processes p) refl

  pub run_safe : (schedule : List ℕ) (s : CodeState) → AllSafe sizes code s → AllSafe sizes code (code_run sizes.processes code schedule s)
  run_safe [] s all = all
  run_safe (p ∷ schedule) s all = run_safe schedule (code_step sizes.processes code p s) (step_safe p s all)

  pub start_safe : (p : ℕ) → IsSafe sizes code p (start_process sizes)
  start_safe p = record {
    inside = fine.some;
    height = sym fine.first;
    variables = length-replicate sizes.variables 0;
    scans = length-replicate sizes.scans (start_labels sizes.processes);
    filled = All-replicate (AreOrdered sizes.processes) sizes.scans (start_labels sizes.processes) (start_in_order sizes.processes);
    scratch = start_in_order sizes.processes;
    beside = start_in_order sizes.processes;
    next = λ l at. absurd (both_ways (is_exchange (slice_get code 0)) fine.starts (ap is_exchange at));
  }

  pub all_start : AllSafe sizes code (code_start sizes)
  all_start = record {
    labels = start_in_order sizes.processes;
    rows = length-replicate sizes.rows (replicate sizes.processes 0);
    registers = All-replicate (λ row. length row ≡ sizes.processes) sizes.rows (replicate sizes.processes 0) (length-replicate sizes.processes 0);
    many = length-replicate sizes.processes (start_process sizes);
    each = λ p q at. subst (IsSafe sizes code p) (get-replicate sizes.processes p (start_process sizes) q at).1 (start_safe p);
  }

  stuck_nowhere : (p : ℕ) (q : CodeProcess) → IsSafe sizes code p q → NeverStuck sizes code p q
  stuck_nowhere p q safe = record {
    safe = safe;
    operands = λ i here. subst (λ h. pops i ≤ h) (sym safe.height) (fine.short q.place i here);
    slots = λ i here. fine.slots q.place i here;
  }

  pub never_stuck : (schedule : List ℕ) → IsNeverStuck sizes code schedule
  never_stuck schedule =
      let all : AllSafe sizes code (run_of sizes code schedule) = run_safe schedule (code_start sizes) all_start in
      record { safe = all; each = λ p q at. stuck_nowhere p q (all.each p q at) }

pub never_stuck_law : NeverStuckLaw
never_stuck_law sizes code verified schedule = never_stuck sizes code (verified_places sizes code verified) schedule
