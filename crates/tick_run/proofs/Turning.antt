-- An instruction that a worker makes is one of its process by itself. There are three lemmas, by what the
-- advance tells: `silent`, `made` and `asked`.
--
-- `IsAt` says where a process by itself stands after some instructions, and what it has given out. `at_alone`
-- and `at_asked` add one instruction, made alone or with a step on what is shared. The three lemmas find out
-- which of the two it was, and refute the other.
-- The difficulty is in the values that are given out: only the instruction Out may give one out. `out_at_out`
-- shows it of what is made alone. `quiet_reply` shows that an ask gives nothing out, whatever the reply. Both
-- are case splits on the instruction.
-- Read `at_alone` and `at_asked` first.
use Rattle.std.proofs.Common.{◌≡◌, ℕ, ◌+◌, Bool, true, false, if◌then◌else◌, List, [], ◌∷◌, ◌++◌, refl, sym, ap, subst, ◌∙◌, Result, Ok, Err}
use Rattle.std.specs.Prelude.{Option, Some, None, nat_lt, ◌&&◌, slice_get, slice_index}
use Rattle.std.proofs.lemmas.List.{append-nil}
use Rattle.base.specs.declared.status.Trap.{Trap}
use Rattle.base.specs.declared.status.Status.TheVariants.{Running}
use Rattle.base.specs.declared.event.Act.{Act}
use Rattle.base.specs.declared.event.Act.TheVariants as A
use Rattle.base.specs.declared.event.Event.{Event}
use Rattle.base.specs.Observables.{told}
use Rattle.word_core.specs.declared.history.Shared.{Shared}
use Rattle.word_core.specs.declared.history.SharedAct.{SharedAct}
use Rattle.code_core.specs.declared.instr.Instr.{Instr}
use Rattle.code_core.specs.declared.instr.Instr.TheVariants as I
use Rattle.code_core.specs.Instructions.{StepCode}
use Rattle.code_machine.specs.declared.ask.Ask.{Ask}
use Rattle.code_machine.specs.declared.ask.Reply.{Reply}
use Rattle.code_machine.specs.declared.ask.Reply.TheVariants as R
use Rattle.code_machine.specs.declared.ask.Advance.{Advance}
use Rattle.code_machine.specs.declared.ask.Advance.TheVariants as V
use Rattle.code_machine.specs.Machine as M
use Rattle.code_machine.specs.Machine.{CodeProcess, Moved, CodeStep, alone, asks, did}
use Rattle.code_machine.specs.Process.{event_of, shown, advance_of, after_advance, answered_by, is_out, gives_out}
use Rattle.stamp_table.specs.Passes.{by}
use Rattle.tick_merge.specs.Local.{Local, act_of, TellsLabels, moved_alone, moved_with, Makes, LocalStep, output_of, outputs_of}
use Rattle.tick_merge.proofs.Offered.{local_run_next, outputs_of-told}
use Rattle.tick_run.specs.declared.worker.Turn.TheVariants as T
use Rattle.tick_run.specs.prover.Turns.{IsAt, IsTurn, turn_by}

-- what an instruction gives out
abbrev values_of : Option Act → List ℕ
values_of None = []
values_of (Some act) = output_of act []

outputs_told : (p : ℕ) (act : Option Act) (events : List Event) → outputs_of (told p act events) ≡ outputs_of events ++ values_of act
outputs_told p None events = sym (append-nil (outputs_of events))
outputs_told p (Some act) events = outputs_of-told p act events

-- what is done alone gives out a value only at Out
abbrev act_alone : CodeStep → Option Act
act_alone (alone m) = m.act
act_alone (asks ask answered) = None

results_out : (q : CodeProcess) (below : List ℕ) (r : Result ℕ Trap) (v : ℕ) → (M.results q below r).act ≡ Some (A.Out v) → ⊥
results_out q below (Ok w) v e = cc
results_out q below (Err t) v e = cc

gets_out : (q : CodeProcess) (b : Bool) (d : CodeStep) (t : Trap) (v : ℕ) → act_alone d ≡ None → act_alone (if b then d else alone (M.traps q t)) ≡ Some (A.Out v) → ⊥
gets_out q true d t v none e = cc
gets_out q false d t v none e = cc

compares_out : (q : CodeProcess) (b : Bool) (m : Moved) (i j w v : ℕ) (t : Trap) → m.act ≡ Some (A.Older i j w) → (if b then m else M.traps q t).act ≡ Some (A.Out v) → ⊥
compares_out q true m i j w v t older e = cc
compares_out q false m i j w v t older e = cc

held_out : (q : CodeProcess) (b : Bool) (m : Moved) (i w v : ℕ) (t : Trap) → m.act ≡ Some (A.Held i w) → (if b then m else M.traps q t).act ≡ Some (A.Out v) → ⊥
held_out q true m i w v t held e = cc
held_out q false m i w v t held e = cc

out_at_out : (q : CodeProcess) (n p : ℕ) (o : Option Instr) (v : ℕ) → act_alone (M.does_at q n p o) ≡ Some (A.Out v) → is_out o ≡ true
out_at_out q n p (Some I.Out) v e = refl
out_at_out q n p None v e = absurd (cc)
out_at_out q n p (Some (I.Bin op)) v e = absurd (results_out q _ _ v e)
out_at_out q n p (Some (I.Get r x)) v e = absurd (gets_out q (nat_lt (slice_index q.stack 0) n) _ _ v refl e)
out_at_out q n p (Some (I.Older s x)) v e = absurd (compares_out q (nat_lt (slice_index q.stack 1) n && nat_lt (slice_index q.stack 0) n) _ _ _ _ v _ refl e)
out_at_out q n p (Some (I.Held s x)) v e = absurd (held_out q (nat_lt (slice_index q.stack 0) n) _ _ _ v _ refl e)
out_at_out q n p (Some _) v e = absurd (cc)

-- an instruction that asks gives nothing out, whatever the reply
abbrev act_replied : CodeStep → Reply → Option Act
act_replied (alone m) reply = None
act_replied (asks ask answered) reply = (answered reply).act

loads_quiet : (q : CodeProcess) (reply : Reply) → values_of (M.loads q reply).act ≡ []
loads_quiet q (R.Word labels) = refl
loads_quiet q _ = refl

scans_quiet : (q : CodeProcess) (n s : ℕ) (reply : Reply) → values_of (M.scans q n s reply).act ≡ []
scans_quiet q n s (R.Word labels) = refl
scans_quiet q n s _ = refl

exchanges_quiet : (q : CodeProcess) (back : ℕ) (reply : Reply) → values_of (M.exchanges q back reply).act ≡ []
exchanges_quiet q back R.Won = refl
exchanges_quiet q back (R.Lost found) = refl
exchanges_quiet q back _ = refl

writes_quiet : (q : CodeProcess) (r v : ℕ) (reply : Reply) → values_of (M.writes q r v reply).act ≡ []
writes_quiet q r v R.Written = refl
writes_quiet q r v _ = refl

clears_quiet : (q : CodeProcess) (reply : Reply) → values_of (M.clears q reply).act ≡ []
clears_quiet q R.Cleared = refl
clears_quiet q _ = refl

receives_quiet : (q : CodeProcess) (r i x : ℕ) (reply : Reply) → values_of (M.receives q r i x reply).act ≡ []
receives_quiet q r i x (R.Value v) = refl
receives_quiet q r i x _ = refl

gets_quiet : (b : Bool) (ask : Ask) (answered : Reply → Moved) (m : Moved) (reply : Reply) → values_of (answered reply).act ≡ []
    → values_of (act_replied (if b then asks ask answered else alone m) reply) ≡ []
gets_quiet true ask answered m reply quiet = quiet
gets_quiet false ask answered m reply quiet = refl

quiet_reply : (q : CodeProcess) (n p : ℕ) (o : Option Instr) (reply : Reply) → values_of (act_replied (M.does_at q n p o) reply) ≡ []
quiet_reply q n p None reply = refl
quiet_reply q n p (Some I.LoadWord) reply = loads_quiet q reply
quiet_reply q n p (Some (I.Scan s)) reply = scans_quiet q n s reply
quiet_reply q n p (Some (I.Exchange l)) reply = exchanges_quiet q l reply
quiet_reply q n p (Some (I.Put r)) reply = writes_quiet q r _ reply
quiet_reply q n p (Some (I.Get r x)) reply = gets_quiet (nat_lt (slice_index q.stack 0) n) _ _ _ reply (receives_quiet q r (slice_index q.stack 0) x reply)
quiet_reply q n p (Some I.Clear) reply = clears_quiet q reply
quiet_reply q n p (Some _) reply = refl

-- Process `p` runs.
module _ (c : StepCode) (p : ℕ) (q : CodeProcess) (running : q.status ≡ Running) where
  -- it makes an instruction alone
  at_alone : (count : ℕ) (m : Moved) (steps : List Shared) (given : List ℕ) → did c.sizes.processes p c.instructions q ≡ alone m
      → IsAt c p count q steps given → IsAt c p (count + 1) m.process steps (given ++ values_of m.act)
  at_alone count m steps given is at =
      let next : Local = moved_alone p at.local m in
      let step : LocalStep c p at.local next =
      record {
        running = ap (λ (x : CodeProcess). x.status) at.process ∙ running;
        makes = subst (λ d. Makes c.sizes.processes p at.local d next) (sym (ap (did c.sizes.processes p c.instructions) at.process ∙ is)) refl;
      }
      in
      record {
        local = next;
        is_local = local_run_next c p count at.local next at.is_local step;
        process = refl;
        own = at.own;
        gave = ap (λ xs. xs ++ values_of m.act) at.gave ∙ sym (outputs_told p m.act at.local.events);
      }

  -- it makes one with a step on what is shared
  at_asked : (count : ℕ) (ask : Ask) (answered : Reply → Moved) (reply : Reply) (act : SharedAct) (found : ℕ) (steps : List Shared) (given : List ℕ)
      → did c.sizes.processes p c.instructions q ≡ asks ask answered → TellsLabels c.sizes.processes reply → act_of found ask reply ≡ Some act
      → IsAt c p count q steps given → IsAt c p (count + 1) (answered reply).process (steps ++ by p act ∷ []) given
  at_asked count ask answered reply act found steps given is labels fits at =
      let next : Local = moved_with p at.local act (answered reply) in
      let step : LocalStep c p at.local next =
      record {
        running = ap (λ (x : CodeProcess). x.status) at.process ∙ running;
        makes =
            subst (λ d. Makes c.sizes.processes p at.local d next) (sym (ap (did c.sizes.processes p c.instructions) at.process ∙ is))
            (record { reply = reply; act = act; found = found; labels = labels; fits = fits; makes = refl });
      }
      in
      let quiet : values_of (answered reply).act ≡ [] =
      ap (λ d. values_of (act_replied d reply)) (sym is) ∙ quiet_reply q c.sizes.processes p (slice_get c.instructions q.place) reply in
      record {
        local = next;
        is_local = local_run_next c p count at.local next at.is_local step;
        process = refl;
        own = ap (λ xs. xs ++ by p act ∷ []) at.own;
        gave =
            at.gave ∙ sym (append-nil (outputs_of at.local.events)) ∙ ap (λ xs. outputs_of at.local.events ++ xs) (sym quiet)
            ∙ sym (outputs_told p (answered reply).act at.local.events);
      }

-- what an advance tells
abbrev act_told : Act → Advance → Act
act_told other (V.Did event) = event.act
act_told other _ = other

abbrev ask_told : Ask → Advance → Ask
ask_told other (V.Ask ask) = ask
ask_told other _ = other

alone_asks : (p : ℕ) (m : Moved) (act : Option Act) (ask : Ask) → V.Ask ask ≡ shown (event_of p act) → ⊥
alone_asks p m None ask same = cc
alone_asks p m (Some act) ask same = cc

-- no instruction that is made tells that its process had stopped
stopped_shown : (p : ℕ) (act : Option Act) → V.Stopped ≡ shown (event_of p act) → ⊥
stopped_shown p None same = cc
stopped_shown p (Some act) same = cc

pub never_stopped : (p : ℕ) (d : CodeStep) → V.Stopped ≡ advance_of p d → ⊥
never_stopped p (alone m) same = stopped_shown p m.act same
never_stopped p (asks ask answered) same = cc

-- What a turn was, where the instruction does `d`.
module _ (c : StepCode) (p : ℕ) (q : CodeProcess) (running : q.status ≡ Running) (steps : List Shared) where
  silent_alone : (m : Moved) (act : Option Act) → m.act ≡ act → did c.sizes.processes p c.instructions q ≡ alone m
      → V.Silent ≡ shown (event_of p act) → IsTurn T.Went c p q steps m.process steps
  silent_alone m None none is same = λ count given at.
      subst (IsAt c p (count + 1) m.process steps) (ap (λ act. given ++ values_of act) none ∙ append-nil given) (at_alone c p q running count m steps given is at)
  silent_alone m (Some act) some is same = absurd (cc)

  pub silent : (d : CodeStep) (next : CodeProcess) → did c.sizes.processes p c.instructions q ≡ d
      → V.Silent ≡ advance_of p d → next ≡ after_advance q d → IsTurn T.Went c p q steps next steps
  silent (alone m) next is same goes = subst (λ x. IsTurn T.Went c p q steps x steps) (sym goes) (silent_alone m m.act refl is same)
  silent (asks ask answered) next is same goes = absurd (cc)

  turn_alone : (m : Moved) (act : Act) → m.act ≡ Some act → did c.sizes.processes p c.instructions q ≡ alone m → IsTurn (turn_by act) c p q steps m.process steps
  turn_alone m (A.Out v) some is = (
    (
        ap (λ s. gives_out s (slice_get c.instructions q.place)) running
        ∙ out_at_out q c.sizes.processes p (slice_get c.instructions q.place) v (ap act_alone is ∙ some)
        ),
    λ count given at.
        subst (IsAt c p (count + 1) m.process steps) (ap (λ act. given ++ values_of act) some) (at_alone c p q running count m steps given is at),
  )
  turn_alone m act some is = λ count given at.
      subst (IsAt c p (count + 1) m.process steps) (ap (λ act. given ++ values_of act) some ∙ append-nil given) (at_alone c p q running count m steps given is at)

  made_alone : (m : Moved) (act : Option Act) (event : Event) → m.act ≡ act → did c.sizes.processes p c.instructions q ≡ alone m
      → V.Did event ≡ shown (event_of p act) → IsTurn (turn_by event.act) c p q steps m.process steps
  made_alone m None event none is same = absurd (cc)
  made_alone m (Some act) event some is same =
      let here : act ≡ event.act = ap (act_told act) (sym same) in
      subst (λ a. IsTurn (turn_by a) c p q steps m.process steps) here (turn_alone m act some is)

  pub made : (d : CodeStep) (next : CodeProcess) (event : Event) → did c.sizes.processes p c.instructions q ≡ d
      → V.Did event ≡ advance_of p d → next ≡ after_advance q d → IsTurn (turn_by event.act) c p q steps next steps
  made (alone m) next event is same goes =
      subst (λ x. IsTurn (turn_by event.act) c p q steps x steps) (sym goes) (made_alone m m.act event refl is same)
  made (asks ask answered) next event is same goes = absurd (cc)

  pub asked : (d : CodeStep) (mid next : CodeProcess) (ask : Ask) (reply : Reply) (act : SharedAct) (found : ℕ)
      → did c.sizes.processes p c.instructions q ≡ d → V.Ask ask ≡ advance_of p d → mid ≡ after_advance q d
      → TellsLabels c.sizes.processes reply → act_of found ask reply ≡ Some act
      → next ≡ (answered_by mid (did c.sizes.processes p c.instructions mid) reply).process
      → IsTurn T.Went c p q steps next (steps ++ by p act ∷ [])
  asked (asks wanted answered) mid next ask reply act found is same stays labels fits goes = λ count given at.
      let it : wanted ≡ ask = ap (ask_told wanted) (sym same) in
      let becomes : next ≡ (answered reply).process =
      goes ∙ ap (λ (x : CodeProcess). (answered_by x (did c.sizes.processes p c.instructions x) reply).process) stays
      ∙ ap (λ d. (answered_by q d reply).process) is in
      subst (λ x. IsAt c p (count + 1) x (steps ++ by p act ∷ []) given) (sym becomes)
      (at_asked c p q running count wanted answered reply act found steps given is labels (ap (λ a. act_of found a reply) it ∙ fits) at)
  asked (alone m) mid next ask reply act found is same stays labels fits goes = absurd (alone_asks p m m.act ask same)
