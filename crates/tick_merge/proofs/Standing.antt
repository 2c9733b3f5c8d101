-- A run that stands at a history, with one instruction more: `stands_alone` and `stands_asks`.
--
-- `Stands` says that the run made just this history, that its memory is that of the history, and that each
-- process stands where it stands by itself. An instruction that is made alone keeps the history; an ask adds
-- its step. Both are cases of `stands_by`: process `p` makes one instruction more by itself too (`next_at`),
-- and of the others nothing changes (`each_next`).
-- The difficulty is the ask. Its step has to fit the reply of the machine (`act_fits`), and has to leave the
-- memory that the ask leaves (`leaves`). For this an exchange has to write what a stamp of the process makes;
-- in a verified code it does (`asks_own`).
-- Read `stands_by` first.
use Rattle.std.proofs.Common.{◌≡◌, ◌≢◌, ⊎_elim, ℕ, List, [], ◌∷◌, ◌++◌, refl, ap, sym, subst, ◌∙◌}
use Rattle.std.specs.Prelude.{slice_get, Some}
use Rattle.std.proofs.lemmas.List.{append-nil}
use Rattle.base.specs.declared.status.Status.TheVariants.{Running}
use Rattle.base.specs.declared.event.Event.{Event}
use Rattle.base.specs.Observables.{told}
use Rattle.word_core.specs.Packed.{word}
use Rattle.word_core.specs.History.{memory_of, acted}
use Rattle.word_core.specs.declared.history.Shared.{Shared}
use Rattle.word_core.specs.declared.history.SharedAct.{SharedAct}
use Rattle.word_core.proofs.OfferedHistory.{one_step}
use Rattle.code_core.specs.Instructions.{StepCode}
use Rattle.code_core.specs.Verified.{IsVerified}
use Rattle.code_machine.specs.declared.ask.Ask.{Ask}
use Rattle.code_machine.specs.declared.ask.Reply.{Reply}
use Rattle.code_machine.specs.Machine.{CodeProcess, CodeState, Moved, CodeStep, alone, asks, did, made, reply_in, state_after}
use Rattle.code_machine.proofs.Offered.{never_stuck_law, get-set, get-replicate}
use Rattle.stamp_table.specs.Passes.{by, mine}
use Rattle.stamp_table.proofs.Offered.{mine-snoc_own, mine-snoc_other}
use Rattle.tick_merge.specs.Local.{Local, local_start, moved_alone, moved_with, Makes, IsLocalRun}
use Rattle.tick_merge.specs.Ran.{run_under, memory_in, act_by, shared_step, occurs, events_by}
use Rattle.tick_merge.specs.prover.Standing.{StandsAt, Stands}
use Rattle.tick_merge.proofs.Lists.{occurs-own, occurs-other, events-own, events-other}
use Rattle.tick_merge.proofs.Runs.{run_next, shared_next, all_run_next}
use Rattle.tick_merge.proofs.Served.{asks_own, act_fits, tells_in, leaves}

-- before the first instruction
pub stands_start : (c : StepCode) → Stands c [] []
stands_start c = record {
  run = tt;
  shared = refl;
  memory = refl;
  each = λ p q there.
      record {
        local = local_start c;
        is_local = refl;
        process = (get-replicate c.sizes.processes p _ q there).1;
        own = refl;
        gave = refl;
      };
}

told_so : (c : StepCode) (p count more : ℕ) (q : CodeProcess) (steps others : List Shared) (events further : List Event)
    → count ≡ more → steps ≡ others → events ≡ further → StandsAt c p count q steps events → StandsAt c p more q others further
told_so c p count more q steps others events further counts same_steps same_events at = record {
  local = at.local;
  is_local = subst (λ k. IsLocalRun c p k at.local) counts at.is_local;
  process = at.process;
  own = at.own ∙ same_steps;
  gave = at.gave ∙ same_events;
}

-- Process `p` goes on.
module _ (c : StepCode) (schedule : List ℕ) (history : List Shared) (stands : Stands c schedule history) (p : ℕ) (q : CodeProcess)
    (there : slice_get (run_under c schedule).processes p ≡ Some q) (running : q.status ≡ Running) where
  abbrev here : CodeState
  here = run_under c schedule

  abbrev itself : StandsAt c p (occurs p schedule) q (mine p history) (events_by p (run_under c schedule).events)
  itself = stands.each p q there

  -- it does `d`
  module _ (d : CodeStep) (is : did c.sizes.processes p c.instructions q ≡ d) where
    abbrev moved : Moved
    moved = made here.labels here.rows d

    after_is : run_under c (schedule ++ p ∷ []) ≡ state_after p here d
    after_is = run_next c schedule p q there running ∙ ap (state_after p here) is

    -- and by itself it comes to this
    next_at : (next : Local) → Makes c.sizes.processes p itself.local d next → (steps : List Shared) → next.process ≡ moved.process
        → next.steps ≡ steps → next.events ≡ told p moved.act itself.local.events
        → StandsAt c p (occurs p (schedule ++ p ∷ [])) moved.process steps (events_by p (run_under c (schedule ++ p ∷ [])).events)
    next_at next makes steps same_process same_steps same_events = record {
      local = next;
      is_local = subst (λ k. IsLocalRun c p k next) (sym (occurs-own p schedule)) (
        itself.local,
        itself.is_local,
        record {
          running = ap (λ (x : CodeProcess). x.status) itself.process ∙ running;
          makes = subst (λ e. Makes c.sizes.processes p itself.local e next) (sym (ap (did c.sizes.processes p c.instructions) itself.process ∙ is)) makes;
        },
      );
      process = same_process;
      own = same_steps;
      gave =
          same_events ∙ ap (told p moved.act) itself.gave ∙ sym (events-own p moved.act here.events)
          ∙ ap (λ (x : CodeState). events_by p x.events) (sym after_is);
    }

    each_next : (more : List Shared) → ((j : ℕ) → j ≢ p → mine j (history ++ more) ≡ mine j history)
        → StandsAt c p (occurs p (schedule ++ p ∷ [])) moved.process (mine p (history ++ more)) (events_by p (run_under c (schedule ++ p ∷ [])).events)
        → (j : ℕ) (x : CodeProcess) → slice_get (run_under c (schedule ++ p ∷ [])).processes j ≡ Some x
        → StandsAt c j (occurs j (schedule ++ p ∷ [])) x (mine j (history ++ more)) (events_by j (run_under c (schedule ++ p ∷ [])).events)
    each_next more others own j x at =
        ⊎_elim
        (λ (same, is_x).
        subst (λ k. StandsAt c k (occurs k (schedule ++ p ∷ [])) x (mine k (history ++ more)) (events_by k (run_under c (schedule ++ p ∷ [])).events)) (sym same)
        (subst (λ y. StandsAt c p (occurs p (schedule ++ p ∷ [])) y (mine p (history ++ more)) (events_by p (run_under c (schedule ++ p ∷ [])).events)) is_x own))
        (λ (apart, before).
        told_so c j (occurs j schedule) (occurs j (schedule ++ p ∷ [])) x (mine j history) (mine j (history ++ more)) (events_by j here.events)
        (events_by j (run_under c (schedule ++ p ∷ [])).events)
        (sym (occurs-other p j schedule apart)) (sym (others j apart))
        (sym (events-other p j moved.act here.events apart) ∙ ap (λ (s : CodeState). events_by j s.events) (sym after_is))
        (stands.each j x before))
        (get-set here.processes p j moved.process x (ap (λ (s : CodeState). slice_get s.processes j) (sym after_is) ∙ at))

    pub stands_by : (more : List Shared) → shared_step p (memory_in here) d ≡ more
        → memory_in (state_after p here d) ≡ memory_of c.sizes.processes c.sizes.rows (history ++ more)
        → ((j : ℕ) → j ≢ p → mine j (history ++ more) ≡ mine j history)
        → StandsAt c p (occurs p (schedule ++ p ∷ [])) moved.process (mine p (history ++ more)) (events_by p (run_under c (schedule ++ p ∷ [])).events)
        → Stands c (schedule ++ p ∷ []) (history ++ more)
    stands_by more makes memory others own = record {
      run = all_run_next c schedule p q there running stands.run;
      shared =
          shared_next c schedule p q there running
          ∙ (λ i. stands.shared i ++ (ap (shared_step p (memory_in here)) is ∙ makes) i);
      memory = ap memory_in after_is ∙ memory;
      each = each_next more others own;
    }

  -- an instruction that it makes alone changes nothing that is shared
  pub stands_alone : (m : Moved) → did c.sizes.processes p c.instructions q ≡ alone m → Stands c (schedule ++ p ∷ []) history
  stands_alone m is =
      subst (Stands c (schedule ++ p ∷ [])) (append-nil history)
      (stands_by (alone m) is [] refl (stands.memory ∙ ap (memory_of c.sizes.processes c.sizes.rows) (sym (append-nil history)))
      (λ j apart. ap (mine j) (append-nil history))
      (next_at (alone m) is (moved_alone p itself.local m) refl (mine p (history ++ [])) refl
      (itself.own ∙ ap (mine p) (sym (append-nil history))) refl))

  -- one with which it asks is a step of the history
  pub stands_asks : IsVerified c.sizes c.instructions → (ask : Ask) (answered : Reply → Moved) → did c.sizes.processes p c.instructions q ≡ asks ask answered
      → Stands c (schedule ++ p ∷ []) (history ++ by p (act_by (memory_in here) ask) ∷ [])
  stands_asks verified ask answered is =
      let n : ℕ = c.sizes.processes in
      let act : SharedAct = act_by (memory_in here) ask in
      let safe = (never_stuck_law c.sizes c.instructions verified schedule).safe in
      let own = asks_own c.sizes c.instructions p q (safe.each p q there) ask answered is in
      stands_by (asks ask answered) is (by p act ∷ []) refl
      (leaves n p (memory_in here) ask own ∙ ap (acted p act) stands.memory ∙ sym (one_step n c.sizes.rows history (by p act)).0)
      (λ j apart. mine-snoc_other j history (by p act) (λ same. apart (sym same)))
      (next_at (asks ask answered) is (moved_with p itself.local act (answered (reply_in here.labels here.rows ask)))
      (record {
        reply = reply_in here.labels here.rows ask;
        act = act;
        found = word here.labels;
        labels = tells_in n (memory_in here) ask safe.labels.are;
        fits = act_fits (memory_in here) ask;
        makes = refl;
      })
      (mine p (history ++ by p act ∷ [])) refl
      (ap (λ xs. xs ++ by p act ∷ []) itself.own ∙ sym (mine-snoc_own p history (by p act) refl)) refl)
