-- What a process may ask for, and what a history answers it.
-- The idea. A safe process asks for an exchange only with what a stamp of it makes (`asks_own`). The other lemmas are by
-- cases of what is asked for. What is shared replies with the act that becomes of it (`act_fits`), and both leave the same
-- (`leaves`). The other way round, an act that comes next in a history and fits what is asked for is that act (`served`).
-- Whether an exchange is won is known from the words (`found_same`, `found_other`).
-- Read `act_fits` first, then `served`.
use Rattle.std.proofs.Common.{◌≡◌, ℕ, ◌≤◌, Bool, true, false, if◌then◌else◌, List, refl, ap, sym, ◌∙◌, subst}
use Rattle.std.specs.Prelude.{Option, Some, None, nat_lt, slice_get, slice_index}
use Rattle.std.proofs.lemmas.Option.{same_Some}
use Rattle.word_core.specs.Packed.{AreLabels, word}
use Rattle.word_core.specs.Stamps.{Labels, stamped}
use Rattle.word_core.specs.History.{Memory, acted, Answers}
use Rattle.word_core.specs.declared.history.SharedAct.{SharedAct}
use Rattle.word_core.specs.declared.history.SharedAct.TheVariants.{Load, Won, Lost, Read, Write, Clear}
use Rattle.word_core.proofs.Offered.{distinct_law}
use Rattle.code_core.specs.declared.instr.Instr.{Instr}
use Rattle.code_core.specs.declared.instr.Instr.TheVariants as I
use Rattle.code_core.specs.Instructions.{CodeSizes}
use Rattle.code_machine.specs.declared.ask.Ask.{Ask}
use Rattle.code_machine.specs.declared.ask.Ask.TheVariants as Q
use Rattle.code_machine.specs.declared.ask.Reply.{Reply}
use Rattle.code_machine.specs.declared.ask.Reply.TheVariants as R
use Rattle.code_machine.specs.Machine as M
use Rattle.code_machine.specs.Machine.{CodeProcess, Moved, CodeStep, alone, asks, did, same_labels, reply_in, labels_by, rows_by}
use Rattle.code_machine.specs.Safety.{IsSafe}
use Rattle.code_machine.proofs.Offered.{equal_from_same, same_self}
use Rattle.tick_merge.specs.Local.{act_of, TellsLabels}
use Rattle.tick_merge.specs.Ran.{act_by}

-- an exchange is of labels for what a stamp of the process makes of them
abbrev pub IsOwn : ℕ → ℕ → Ask → Type 0
IsOwn n p (Q.Exchange old new) = AreLabels n old × (new ≡ stamped p old)
IsOwn n p _ = Unit {0}

abbrev OwnStep : ℕ → ℕ → CodeStep → Type 0
OwnStep n p (alone m) = Unit {0}
OwnStep n p (asks ask answered) = IsOwn n p ask

gets_own : (n p : ℕ) (b : Bool) (r i : ℕ) (answered : Reply → Moved) (m : Moved) → OwnStep n p (if b then asks (Q.Get r i) answered else alone m)
gets_own n p true r i answered m = tt
gets_own n p false r i answered m = tt

module _ (sizes : CodeSizes) (code : List Instr) (p : ℕ) (q : CodeProcess) (safe : IsSafe sizes code p q) where
  own_at : (o : Option Instr) → slice_get code q.place ≡ o → OwnStep sizes.processes p (M.does_at q sizes.processes p o)
  own_at None at = tt
  own_at (Some (I.Exchange l)) at = (safe.scratch.are, safe.next l at)
  own_at (Some (I.Get r x)) at = gets_own sizes.processes p (nat_lt (slice_index q.stack 0) sizes.processes) r (slice_index q.stack 0) _ _
  own_at (Some _) at = tt

  -- what a safe process asks for
  pub asks_own : (ask : Ask) (answered : Reply → Moved) → did sizes.processes p code q ≡ asks ask answered → IsOwn sizes.processes p ask
  asks_own ask answered is = subst (OwnStep sizes.processes p) is (own_at (slice_get code q.place) refl)

-- what is shared replies to an ask with the act that becomes of it
pub act_fits : (m : Memory) (ask : Ask) → act_of (word m.labels) ask (reply_in m.labels m.rows ask) ≡ Some (act_by m ask)
act_fits m Q.LoadWord = refl
act_fits m Q.Scan = refl
act_fits m (Q.Exchange old new) =
    elim (same_labels m.labels old) as (λ b. act_of (word m.labels) (Q.Exchange old new) (if b then R.Won else R.Lost m.labels)
    ≡ Some (if b then Won (word old) (word new) else Lost (word old) (word m.labels))) [ true ↦ refl | false ↦ refl ]
act_fits m (Q.Get r i) = refl
act_fits m (Q.Put r v) = refl
act_fits m Q.Clear = refl

pub tells_in : (n : ℕ) (m : Memory) (ask : Ask) → AreLabels n m.labels → TellsLabels n (reply_in m.labels m.rows ask)
tells_in n m Q.LoadWord are = are
tells_in n m Q.Scan are = are
tells_in n m (Q.Exchange old new) are =
    elim (same_labels m.labels old) as (λ b. TellsLabels n (if b then R.Won else R.Lost m.labels)) [ true ↦ tt | false ↦ are ]
tells_in n m (Q.Get r i) are = tt
tells_in n m (Q.Put r v) are = tt
tells_in n m Q.Clear are = tt

-- what an ask leaves is what its act leaves
pub leaves : (n p : ℕ) (m : Memory) (ask : Ask) → IsOwn n p ask
    → record { labels = labels_by p ask m.labels; rows = rows_by p ask m.rows } ≡ acted p (act_by m ask) m
leaves n p m Q.LoadWord own = refl
leaves n p m Q.Scan own = refl
leaves n p m (Q.Exchange old new) own =
    elim (same_labels m.labels old) as (λ b. same_labels m.labels old ≡ b
    → record { labels = if b then new else m.labels; rows = m.rows } ≡ acted p (if b then Won (word old) (word new) else Lost (word old) (word m.labels)) m) [
      | true ↦ λ found. λ i. record { labels = (own.1 ∙ ap (stamped p) (sym (equal_from_same m.labels old found))) i; rows = m.rows }
      | false ↦ λ found. refl
    ] refl
leaves n p m (Q.Get r i) own = refl
leaves n p m (Q.Put r v) own = refl
leaves n p m Q.Clear own = refl

-- an exchange that a history tells won found the labels that it looked for, and one that it tells lost
-- found others
found_same : (n : ℕ) → n ≤ 6 → (labels old : Labels) → AreLabels n labels → AreLabels n old → word old ≡ word labels → same_labels labels old ≡ true
found_same n few labels old are are_old same = ap (same_labels labels) (distinct_law n few old labels are_old are same) ∙ same_self labels

found_other : (labels old : Labels) → (word labels ≡ word old → ⊥) → (b : Bool) → same_labels labels old ≡ b → b ≡ false
found_other labels old apart true found = absurd (apart (ap word (equal_from_same labels old found)))
found_other labels old apart false found = refl

-- What an ask and its reply tell is known of an act, where it is known of what they tell.
told_of : (n rows p : ℕ) (m : Memory) (ask : Ask) (told act : SharedAct) → Some told ≡ Some act → (Answers n rows m p told → told ≡ act_by m ask)
    → Answers n rows m p act → act ≡ act_by m ask
told_of n rows p m ask told act fits known answers =
    subst (λ a. Answers n rows m p a → a ≡ act_by m ask) (same_Some told act fits) known answers

-- Where an act that comes next in a history fits an ask, it is the act that becomes of the ask.
pub served : (n rows p : ℕ) (m : Memory) (ask : Ask) (reply : Reply) (act : SharedAct) (seen : ℕ) → n ≤ 6 → AreLabels n m.labels → IsOwn n p ask
    → act_of seen ask reply ≡ Some act → Answers n rows m p act → act ≡ act_by m ask
served n rows p m Q.LoadWord (R.Word labels) act seen few are own fits = told_of n rows p m Q.LoadWord (Load (word labels)) act fits (λ found. ap Load found)
served n rows p m Q.LoadWord _ act seen few are own fits = absurd (cc)
served n rows p m Q.Scan (R.Word labels) act seen few are own fits = told_of n rows p m Q.Scan (Load (word labels)) act fits (λ found. ap Load found)
served n rows p m Q.Scan _ act seen few are own fits = absurd (cc)
served n rows p m (Q.Exchange old new) R.Won act seen few are own fits =
    told_of n rows p m (Q.Exchange old new) (Won (word old) (word new)) act fits (λ found.
    ap (λ b. if b then Won (word old) (word new) else Lost (word old) (word m.labels)) (sym (found_same n few m.labels old are own.0 found.0)))
served n rows p m (Q.Exchange old new) (R.Lost found) act seen few are own fits =
    told_of n rows p m (Q.Exchange old new) (Lost (word old) (word found)) act fits (λ lost.
    ap (Lost (word old)) lost.0
    ∙ ap (λ b. if b then Won (word old) (word new) else Lost (word old) (word m.labels))
    (sym (found_other m.labels old (λ same. lost.1 (lost.0 ∙ same)) (same_labels m.labels old) refl)))
served n rows p m (Q.Exchange old new) _ act seen few are own fits = absurd (cc)
served n rows p m (Q.Get r i) (R.Value v) act seen few are own fits = told_of n rows p m (Q.Get r i) (Read r i v) act fits (λ read. ap (Read r i) read.2)
served n rows p m (Q.Get r i) _ act seen few are own fits = absurd (cc)
served n rows p m (Q.Put r v) R.Written act seen few are own fits = told_of n rows p m (Q.Put r v) (Write r v) act fits (λ written. refl)
served n rows p m (Q.Put r v) _ act seen few are own fits = absurd (cc)
served n rows p m Q.Clear R.Cleared act seen few are own fits = told_of n rows p m Q.Clear (Clear seen) act fits (λ cleared. ap Clear cleared)
served n rows p m Q.Clear _ act seen few are own fits = absurd (cc)
