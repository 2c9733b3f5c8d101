-- A step of the history is made (`taken`), or its process can't make it (`not_made`, `no_turns`). After the
-- history a process makes the rest of its instructions alone, or it can't (`spent_or_not`).
--
-- Before this the process made alone what it could (`IsLed`). So it has no instruction left, or it has
-- stopped, or it asks. If it asks for the act of the step, the run goes on by `stands_asks`. If not, `no_way`
-- and `no_rest` of `Refusing.antt` show that the process can't make what the history tells.
-- The difficulty is to show `Reached` again: the code holds a memory and processes, and they have to be those
-- of the run under the schedule. `same_memory` shows it of the memory before the step, and `words_new` after
-- it. `changed` gathers what the step changed, for `reached_as`.
-- Read `taken` first, then `not_made`.
use Rattle.std.proofs.Common.{◌≡◌, ℕ, zero, suc, ◌+◌, ◌-◌, ◌<◌, ◌==◌, Bool, true, false, List, [], ◌∷◌, ◌++◌, length, replicate, refl, ap, sym, subst, ◌∙◌, append_assoc, arith}
use Rattle.std.specs.Prelude.{slice_get, slice_set, slice_index, Some, vec_items}
use Rattle.std.proofs.lemmas.Bool.{eqb-true, eqb-false}
use Rattle.std.proofs.lemmas.Option.{same_Some, none-some}
use Rattle.base.specs.declared.status.Status.{Status}
use Rattle.base.specs.declared.status.Status.TheVariants.{Running, Ended, Trapped}
use Rattle.word_core.specs.History.{Memory, memory_of, MayFollow}
use Rattle.word_core.specs.declared.history.Shared.{Shared}
use Rattle.word_core.specs.declared.history.SharedAct.{SharedAct}
use Rattle.word_core.proofs.OfferedHistory.{next_step}
use Rattle.code_core.specs.Instructions.{StepCode}
use Rattle.code_machine.specs.declared.ask.Ask.{Ask}
use Rattle.code_machine.specs.declared.ask.Reply.{Reply}
use Rattle.code_machine.specs.Machine.{CodeProcess, CodeState, Moved, CodeStep, alone, asks, did, made, labels_left, rows_left, state_after}
use Rattle.code_machine.specs.Process.{OneProcess, IsOf, next_of}
use Rattle.stamp_table.specs.Passes.{by}
use Rattle.tick_merge.specs.Ran.{run_under, memory_in, act_by, occurs}
use Rattle.tick_merge.specs.Merged.{led}
use Rattle.tick_merge.specs.Refusals.{MakesWithin}
use Rattle.tick_merge.specs.declared.merging.Merging.{Merging}
use Rattle.tick_merge.specs.prover.Standing.{Stands}
use Rattle.tick_merge.specs.prover.Held.{memory_held, act_next}
use Rattle.tick_merge.specs.prover.Reached.{IsHeld, Reached, IsLed, ProcessSpent}
use Rattle.tick_merge.proofs.Lists.{get_set_same, occurs-own, occurs-other}
use Rattle.tick_merge.proofs.Runs.{run_next}
use Rattle.tick_merge.proofs.Standing.{stands_asks}
use Rattle.tick_merge.proofs.Going.{inside_of}
use Rattle.tick_merge.proofs.Whole.{is_there}
use Rattle.tick_merge.proofs.Leading.{others_next}
use Rattle.tick_merge.proofs.Reaching.{Changed, reached_as}
use Rattle.tick_merge.proofs.Refusing.{no_way, no_rest}

-- an act that comes next is asked for
record Asked (s : Status) (m : Memory) (d : CodeStep) (act : SharedAct) : Type 0 where
  pub running : s ≡ Running
  pub ask : Ask
  pub answered : Reply → Moved
  pub is : d ≡ asks ask answered
  pub act_is : act_by m ask ≡ act

asked : (s : Status) (m : Memory) (d : CodeStep) (act : SharedAct) → act_next s m d ≡ Some act → Asked s m d act
asked Running m (alone moved) act next = absurd (none-some act next)
asked Running m (asks ask answered) act next =
    record { running = refl; ask = ask; answered = answered; is = refl; act_is = same_Some (act_by m ask) act next }
asked Ended m d act next = absurd (none-some act next)
asked (Trapped t) m d act next = absurd (none-some act next)

-- what a step leaves of a memory
abbrev left_of : ℕ → Memory → CodeStep → Memory
left_of p m d = record { labels = labels_left p d m.labels; rows = rows_left p d m.rows }

module _ (c : StepCode) (turns : List ℕ) (history : List Shared) (step : Shared) (old mid : Merging) (left : ℕ) (one : OneProcess)
    (to : IsLed c turns history step.process old mid left) (at : slice_get (vec_items mid.processes) step.process ≡ Some one)
    (below : step.process < c.sizes.processes)
    (follows : MayFollow c.sizes.processes c.sizes.rows (memory_held old.words) step) where
  abbrev p : ℕ
  p = step.process

  abbrev q : CodeProcess
  q = one.process

  abbrev d : CodeStep
  d = did c.sizes.processes step.process c.instructions one.process

  held : IsHeld c (vec_items mid.schedule) step.process one
  held = to.reached.each step.process one at

  memory_is : memory_held mid.words ≡ memory_of c.sizes.processes c.sizes.rows history
  memory_is = to.reached.words

  may_follow : MayFollow c.sizes.processes c.sizes.rows (memory_of c.sizes.processes c.sizes.rows history) step
  may_follow = subst (λ m. MayFollow c.sizes.processes c.sizes.rows m step) (sym to.words ∙ memory_is) follows

  counts : occurs step.process (vec_items mid.schedule) + left ≡ slice_index turns step.process
  counts = ap (λ k. occurs step.process (vec_items mid.schedule) + k) to.left_is ∙ to.reached.left step.process below

  next_is : next_of c one ≡ d
  next_is = ap (λ k. did c.sizes.processes k c.instructions one.process) held.me

  -- it is not made
  pub not_made : (0 < left → act_next one.process.status (memory_held mid.words) (next_of c one) ≡ Some step.act → ⊥)
      → ¬ MakesWithin c step.process (slice_index turns step.process) (history ++ step ∷ [])
  not_made other =
      no_way c to.reached.few step.process history step refl to.reached.verified (vec_items mid.schedule) to.reached.stands one.process held.there may_follow
      (slice_index turns step.process) left counts (to.quiet one at)
      (λ more next. other more ((λ i. act_next one.process.status (memory_is i) (next_is i)) ∙ next))

  -- it is made
  module _ (new : Merging) (later : OneProcess) (more : 0 < left) (next : act_next one.process.status (memory_held mid.words) (next_of c one) ≡ Some step.act)
      (of : IsOf c later) (me : later.me ≡ step.process)
      (after_is : later.process ≡ (made mid.words.labels mid.words.registers (next_of c one)).process)
      (words : memory_held new.words ≡ left_of step.process (memory_held mid.words) (next_of c one))
      (processes : vec_items new.processes ≡ slice_set (vec_items mid.processes) step.process later)
      (lefts : vec_items new.left ≡ slice_set (vec_items mid.left) step.process (left - 1))
      (scheduled : vec_items new.schedule ≡ vec_items mid.schedule ++ step.process ∷ []) where
    abbrev here : CodeState
    here = run_under c (vec_items mid.schedule)

    same_memory : memory_held mid.words ≡ memory_in here
    same_memory = memory_is ∙ sym to.reached.stands.memory

    its : Asked one.process.status (memory_in here) d step.act
    its = asked one.process.status (memory_in here) d step.act ((λ i. act_next one.process.status (sym same_memory i) (sym next_is i)) ∙ next)

    after_step : run_under c (vec_items mid.schedule ++ step.process ∷ []) ≡ state_after step.process here d
    after_step = run_next c (vec_items mid.schedule) step.process one.process held.there its.running

    stands_new : Stands c (vec_items mid.schedule ++ step.process ∷ []) (history ++ step ∷ [])
    stands_new =
        subst (λ a. Stands c (vec_items mid.schedule ++ step.process ∷ []) (history ++ by step.process a ∷ [])) its.act_is
        (stands_asks c (vec_items mid.schedule) history to.reached.stands step.process one.process held.there its.running to.reached.verified its.ask its.answered its.is)

    there_new : slice_get (run_under c (vec_items mid.schedule ++ step.process ∷ [])).processes step.process ≡ Some later.process
    there_new =
        ap (λ (s : CodeState). slice_get s.processes step.process) after_step
        ∙ get_set_same here.processes step.process (made here.labels here.rows d).process
        (inside_of c to.reached.verified to.reached.few step.process 0 (vec_items mid.schedule) below)
        ∙ ap Some (sym (after_is ∙ (λ i. (made (same_memory i).labels (same_memory i).rows (next_is i)).process)))

    words_new : memory_held new.words ≡ memory_of c.sizes.processes c.sizes.rows (history ++ step ∷ [])
    words_new =
        words ∙ (λ i. left_of step.process (same_memory i) (next_is i)) ∙ sym (ap memory_in after_step) ∙ stands_new.memory

    changed : Changed c turns step.process (left - 1) mid new later
    changed = record {
      processes = processes;
      lefts = lefts;
      held = record {
        of = of;
        me = me;
        there = ap (λ t. slice_get (run_under c t).processes step.process) scheduled ∙ there_new;
      };
      others = λ j x apart found.
          ap (λ t. slice_get (run_under c t).processes j) scheduled
          ∙ others_next c (vec_items mid.schedule) step.process one.process held.there its.running j x apart found;
      counts = omega (arith, ap (occurs step.process) scheduled, occurs-own step.process (vec_items mid.schedule), counts, more);
      same = λ j apart. ap (occurs j) scheduled ∙ occurs-other step.process j (vec_items mid.schedule) apart;
    }

    pub taken : Reached c turns (history ++ step ∷ []) new × (vec_items new.schedule ≡ led c turns (vec_items old.schedule) step.process)
    taken = (
      reached_as c turns history step.process below mid to.reached new (left - 1) later changed (history ++ step ∷ [])
          ((next_step c.sizes.processes c.sizes.rows history step).1 (to.reached.legal, may_follow))
          (subst (λ t. Stands c t (history ++ step ∷ [])) (sym scheduled) stands_new) words_new,
      scheduled ∙ ap (λ xs. xs ++ step.process ∷ []) to.schedule
          ∙ append_assoc (vec_items old.schedule) (replicate to.count step.process) (step.process ∷ [])
          ∙ ap (λ k. vec_items old.schedule ++ (replicate k step.process ++ step.process ∷ [])) to.is,
    )

-- a process without an instruction left doesn't make it
pub no_turns : (c : StepCode) (turns : List ℕ) (history : List Shared) (step : Shared) (old mid : Merging) (left : ℕ)
    → IsLed c turns history step.process old mid left → step.process < c.sizes.processes
    → MayFollow c.sizes.processes c.sizes.rows (memory_held old.words) step → left ≡ 0
    → ¬ MakesWithin c step.process (slice_index turns step.process) (history ++ step ∷ [])
no_turns c turns history step old mid left to below follows none =
    let there = is_there c to.reached.verified (vec_items mid.schedule) step.process below in
    no_way c to.reached.few step.process history step refl to.reached.verified (vec_items mid.schedule) to.reached.stands there.0 there.1
    (subst (λ m. MayFollow c.sizes.processes c.sizes.rows m step) (sym to.words ∙ to.reached.words) follows)
    (slice_index turns step.process) left (ap (λ k. occurs step.process (vec_items mid.schedule) + k) to.left_is ∙ to.reached.left step.process below)
    (λ more. absurd (omega (arith, more, none))) (λ more next. omega (arith, more, none))

-- process `p` makes the rest of its instructions alone
module _ (c : StepCode) (turns : List ℕ) (history : List Shared) (p : ℕ) (old mid : Merging) (left : ℕ) (to : IsLed c turns history p old mid left)
    (below : p < c.sizes.processes) where
  left_counts : occurs p (vec_items mid.schedule) + left ≡ slice_index turns p
  left_counts = ap (λ k. occurs p (vec_items mid.schedule) + k) to.left_is ∙ to.reached.left p below

  process_spent : (b : Bool) → (left == 0) ≡ b → ProcessSpent c turns history p old mid b
  process_spent true none = (
    to.reached,
    to.schedule ∙ ap (λ k. vec_items old.schedule ++ replicate k p) (omega (arith, eqb-true left 0 none, to.all)),
    omega (arith, left_counts, eqb-true left 0 none),
  )
  process_spent false some =
      let more : 0 < left = omega (arith, eqb-false left 0 some) in
      let one = slice_get_read_of mid.processes.items p (omega (arith, to.reached.many, below)) in
      no_rest c to.reached.few p (slice_index turns p) left (vec_items mid.schedule) history to.reached.stands one.0.process (to.reached.each p one.0 one.1).there
      left_counts more (to.quiet one.0 one.1 more)
    where
      slice_get_read_of : (xs : List OneProcess) (k : ℕ) → k < length xs → (x : OneProcess) × (slice_get xs k ≡ Some x)
      slice_get_read_of [] k inside = absurd (omega (arith, inside))
      slice_get_read_of (x ∷ xs) zero inside = (x, refl)
      slice_get_read_of (x ∷ xs) (suc k) inside = slice_get_read_of xs k (omega (arith, inside))

  pub spent_or_not : ProcessSpent c turns history p old mid (left == 0)
  spent_or_not = process_spent (left == 0) refl
