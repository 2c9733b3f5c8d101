-- What an advance tells of the instruction that was made.
--
-- The first part is for instructions that a process makes alone, one after the other. `GoesAlone` is the
-- invariant. `goes_more` keeps it; `goes_stop` and `goes_end` show that it made as many as `alone_for` says.
-- The second part is for an ask. It is the act that comes next (`ask_next`), and where an advance is no ask,
-- no act comes next (`no_ask_next`). `answered_made` shows where the reply leads the process.
-- The difficulty is that the code sees only what an advance tells. So the lemmas go by cases of the status
-- and the step, and refute the cases that tell something else. And `alone_for` is a recursion on the turns
-- left, but the code counts up; so the invariant has both numbers. Read `went_alone` and `rests` first.
use Rattle.std.proofs.Common.{◌≡◌, ℕ, zero, suc, ◌+◌, ◌<◌, Bool, true, false, cond, List, refl, ap, sym, subst, ◌∙◌, arith}
use Rattle.std.specs.Prelude.{Option, Some, None}
use Rattle.std.proofs.lemmas.Option.{none-some}
use Rattle.base.specs.declared.status.Status.{Status}
use Rattle.base.specs.declared.status.Status.TheVariants.{Running, Ended, Trapped}
use Rattle.base.specs.declared.event.Act.{Act}
use Rattle.word_core.specs.History.{Memory}
use Rattle.word_core.specs.Stamps.{Labels}
use Rattle.word_core.specs.declared.history.SharedAct.{SharedAct}
use Rattle.code_core.specs.declared.instr.Instr.{Instr}
use Rattle.code_machine.specs.declared.ask.Ask.{Ask}
use Rattle.code_machine.specs.declared.ask.Advance.{Advance}
use Rattle.code_machine.specs.declared.ask.Advance.TheVariants as V
use Rattle.code_machine.specs.declared.ask.Ask.TheVariants as Q
use Rattle.code_machine.specs.declared.ask.Reply.TheVariants as R
use Rattle.code_machine.specs.Machine.{CodeProcess, Moved, CodeStep, alone, asks, did, labels_by, labels_left, made, reply_in, rows_by, rows_left, same_labels}
use Rattle.code_machine.specs.Process.{event_of, shown, advance_as, after_advance_as, answered_as}
use Rattle.code_machine.specs.Safety.{AreOrdered, HasWord}
use Rattle.tick_merge.specs.Ran.{act_by}
use Rattle.tick_merge.specs.Merged.{one_further, alone_for}
use Rattle.tick_merge.specs.prover.Held.{further, after_alone, act_next, GoesAlone}

-- whether an instruction was made
abbrev pub went : Advance → Bool
went V.Silent = true
went (V.Did event) = true
went _ = false

went_shown : (p : ℕ) (act : Option Act) → went (shown (event_of p act)) ≡ true
went_shown p None = refl
went_shown p (Some act) = refl

-- it was made alone
pub record WentAlone (s : Status) (d : CodeStep) (after : CodeProcess) : Type 0 where
  pub running : s ≡ Running
  pub moved : Moved
  pub is : d ≡ alone moved
  pub process : after ≡ moved.process

pub went_alone : (s : Status) (p : ℕ) (d : CodeStep) (q : CodeProcess) → went (advance_as s p d) ≡ true → WentAlone s d (after_advance_as s q d)
went_alone Running p (alone m) q is = record { running = refl; moved = m; is = refl; process = refl }
went_alone Running p (asks ask answered) q is = absurd (cc)
went_alone Ended p d q is = absurd (cc)
went_alone (Trapped t) p d q is = absurd (cc)

-- nothing was made
pub record Rests (s : Status) (d : CodeStep) (q after : CodeProcess) : Type 0 where
  pub no_further : (later : CodeProcess → ℕ) → one_further s d later ≡ 0
  pub stays : (later : CodeProcess → CodeProcess) → further s d later q ≡ q
  pub process : after ≡ q

pub rests : (s : Status) (p : ℕ) (d : CodeStep) (q : CodeProcess) → went (advance_as s p d) ≡ false → Rests s d q (after_advance_as s q d)
rests Running p (alone m) q is = let made = went_shown p m.act in absurd (cc)
rests Running p (asks ask answered) q is = record { no_further = λ later. refl; stays = λ later. refl; process = refl }
rests Ended p d q is = record { no_further = λ later. refl; stays = λ later. refl; process = refl }
rests (Trapped t) p d q is = record { no_further = λ later. refl; stays = λ later. refl; process = refl }

module _ (n : ℕ) (code : List Instr) (p most : ℕ) (first : CodeProcess) where
  pub goes_start : GoesAlone n code p most first 0 first
  goes_start = record { rest = most; counts = omega arith; alone = sym (omega arith); after = refl }

  more_as : (rest : ℕ) (count : ℕ) (q : CodeProcess) (m : Moved) → count + rest ≡ most → alone_for n code p most first ≡ count + alone_for n code p rest q
      → after_alone n code p most first ≡ after_alone n code p rest q → count < most → q.status ≡ Running → did n p code q ≡ alone m
      → GoesAlone n code p most first (count + 1) m.process
  more_as zero count q m counts alone_so after_so less running is = absurd (omega (arith, counts, less))
  more_as (suc rest) count q m counts alone_so after_so less running is =
      let one : one_further q.status (did n p code q) (alone_for n code p rest) ≡ suc (alone_for n code p rest m.process) =
      λ i. one_further (running i) (is i) (alone_for n code p rest) in
      record {
        rest = rest;
        counts = omega (arith, counts);
        alone = alone_so ∙ ap (λ k. count + k) one ∙ omega arith;
        after = after_so ∙ (λ i. further (running i) (is i) (after_alone n code p rest) q);
      }

  pub goes_more : (count : ℕ) (q after : CodeProcess) → GoesAlone n code p most first count q → count < most → went (advance_as q.status p (did n p code q)) ≡ true
      → after ≡ after_advance_as q.status q (did n p code q) → GoesAlone n code p most first (count + 1) after
  goes_more count q after goes less is after_is =
      let made = went_alone q.status p (did n p code q) q is in
      subst (GoesAlone n code p most first (count + 1)) (sym (after_is ∙ made.process))
      (more_as goes.rest count q made.moved goes.counts goes.alone goes.after less made.running made.is)

  stop_as : (rest : ℕ) (count : ℕ) (q after : CodeProcess) → alone_for n code p most first ≡ count + alone_for n code p rest q
      → after_alone n code p most first ≡ after_alone n code p rest q → Rests q.status (did n p code q) q after
      → (count ≡ alone_for n code p most first) × (after ≡ after_alone n code p most first)
  stop_as zero count q after alone_so after_so rest_so = (omega (arith, alone_so), rest_so.process ∙ sym after_so)
  stop_as (suc rest) count q after alone_so after_so rest_so =
      let none = rest_so.no_further (alone_for n code p rest) in
      (omega (arith, alone_so, none), rest_so.process ∙ sym (rest_so.stays (after_alone n code p rest)) ∙ sym after_so)

  -- it made nothing more
  pub goes_stop : (count : ℕ) (q after : CodeProcess) → GoesAlone n code p most first count q → went (advance_as q.status p (did n p code q)) ≡ false
      → after ≡ after_advance_as q.status q (did n p code q)
      → (count ≡ alone_for n code p most first) × (after ≡ after_alone n code p most first)
  goes_stop count q after goes is after_is =
      stop_as goes.rest count q after goes.alone goes.after
      (subst (Rests q.status (did n p code q) q) (sym after_is) (rests q.status p (did n p code q) q is))

  -- or it made as many as it may
  pub goes_end : (count : ℕ) (q : CodeProcess) → GoesAlone n code p most first count q → most ≡ count
      → (most ≡ alone_for n code p most first) × (q ≡ after_alone n code p most first)
  goes_end count q goes ends =
      let none : goes.rest ≡ 0 = omega (arith, goes.counts, ends) in (
        ends ∙ sym (goes.alone ∙ ap (λ k. count + alone_for n code p k q) none ∙ omega arith),
        sym (goes.after ∙ ap (λ k. after_alone n code p k q) none),
      )

abbrev asked : Ask → Advance → Ask
asked other (V.Ask a) = a
asked other _ = other

same_ask : (a b : Ask) → V.Ask a ≡ V.Ask b → a ≡ b
same_ask a b same = ap (asked a) same

-- an ask is the act that comes next
pub ask_next : (s : Status) (p : ℕ) (m : Memory) (d : CodeStep) (ask : Ask) (q : CodeProcess) → V.Ask ask ≡ advance_as s p d
    → (act_next s m d ≡ Some (act_by m ask)) × (after_advance_as s q d ≡ q) × (s ≡ Running)
ask_next Running p m (alone moved) ask q is = let made = went_shown p moved.act in absurd (cc)
ask_next Running p m (asks wanted answered) ask q is = (ap (λ a. Some (act_by m a)) (sym (same_ask ask wanted is)), refl, refl)
ask_next Ended p m d ask q is = absurd (cc)
ask_next (Trapped t) p m d ask q is = absurd (cc)

-- and leaves the labels and the rows that it leaves
pub ask_leaves : (s : Status) (p j : ℕ) (d : CodeStep) (ask : Ask) (labels : Labels) (rows : List (List ℕ)) → V.Ask ask ≡ advance_as s p d
    → (labels_left j d labels ≡ labels_by j ask labels) × (rows_left j d rows ≡ rows_by j ask rows)
ask_leaves Running p j (alone moved) ask labels rows is = let made = went_shown p moved.act in absurd (cc)
ask_leaves Running p j (asks wanted answered) ask labels rows is =
    let same = sym (same_ask ask wanted is) in (ap (λ a. labels_by j a labels) same, ap (λ a. rows_by j a rows) same)
ask_leaves Ended p j d ask labels rows is = absurd (cc)
ask_leaves (Trapped t) p j d ask labels rows is = absurd (cc)

-- no other advance is
pub no_ask_next : (s : Status) (p : ℕ) (m : Memory) (d : CodeStep) (act : SharedAct) (told : Advance) → told ≡ advance_as s p d
    → ((ask : Ask) → told ≡ V.Ask ask → ⊥) → act_next s m d ≡ Some act → ⊥
no_ask_next Running p m (alone moved) act told is other next = none-some act next
no_ask_next Running p m (asks ask answered) act told is other next = other ask is
no_ask_next Ended p m d act told is other next = none-some act next
no_ask_next (Trapped t) p m d act told is other next = none-some act next

-- the labels in a reply are those that are shared
pub reply_ordered : (n : ℕ) (labels : Labels) (rows : List (List ℕ)) (ask : Ask) → AreOrdered n labels → HasWord n (reply_in labels rows ask)
reply_ordered n labels rows Q.LoadWord ordered = ordered
reply_ordered n labels rows Q.Scan ordered = ordered
reply_ordered n labels rows (Q.Exchange old new) ordered =
    elim (same_labels labels old) as (λ b. HasWord n (cond b R.Won (R.Lost labels))) [
      | true ↦ tt
      | false ↦ tt
    ]
reply_ordered n labels rows (Q.Get r i) ordered = tt
reply_ordered n labels rows (Q.Put r v) ordered = tt
reply_ordered n labels rows Q.Clear ordered = tt

-- and the process goes on by its reply
pub answered_made : (s : Status) (p : ℕ) (q : CodeProcess) (d : CodeStep) (ask : Ask) (labels : Labels) (rows : List (List ℕ)) → V.Ask ask ≡ advance_as s p d
    → (answered_as s q d (reply_in labels rows ask)).process ≡ (made labels rows d).process
answered_made Running p q (alone moved) ask labels rows is = let told = went_shown p moved.act in absurd (cc)
answered_made Running p q (asks wanted answered) ask labels rows is = ap (λ a. (answered (reply_in labels rows a)).process) (same_ask ask wanted is)
answered_made Ended p q d ask labels rows is = absurd (cc)
answered_made (Trapped t) p q d ask labels rows is = absurd (cc)
