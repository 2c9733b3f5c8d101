-- A step of a safe process of a fine code leaves a safe process.
--
-- The idea. Whether a code is fine was found out once, place by place, before it ran; what has to hold while it runs
-- is `IsSafe`: the process stands at a place of the code, its stack has the height of that place, its slots are all
-- there, each list of labels that it keeps could stand in a word, and at an exchange it has a successor to exchange.
-- Then every instruction finds its operands and its slots, and the machine needn't look. `Places` (`Fine.antt`) has
-- what a fine code says of single places, and it is all that this page uses of it.
--
-- A step does one of a few things to its process, and each has a lemma: it goes on to the next place with another
-- stack (`goes_on_safe`), with a variable or a scan written (`sets_safe`, `keeps_safe`), it jumps (`jumps_safe`), or
-- it stops (`stops_safe`). The first three lemmas stand on `on_safe`, which needs two facts of the instruction and no
-- more: that it goes on at all (`goes_on`), and that it leaves as many values as its height says (`left`). Both are
-- computed, so most instructions are a line here.
--
-- An instruction that asks for what is shared doesn't know its answer. So the statement speaks of every reply, those
-- too that no machine gives to this question: under these nothing is done, and the process is safe as it was. Of a
-- word that comes back it is known that its labels could stand in one (`HasWord`), and of what is asked that it is
-- lawful (`IsLawful`): that is how this page and the machine's page meet.
--
-- One fact isn't local: a process may come to an exchange only from the instruction before it, with the successor
-- that this one made. So no jump leads to an exchange, and no other instruction stands before one (`apart_after`).
use Rattle.std.proofs.Common.{◌≡◌, ℕ, suc, ◌+◌, ◌<◌, ◌≤◌, Bool, true, false, if◌then◌else◌, List, ◌∷◌, length, drop, refl, ap, ◌∙◌, sym, subst, arith, Result, Ok, Err, Option, Some, None}
use Rattle.std.specs.Prelude.{◌==◌, ◌&&◌, nat_lt, slice_get, slice_index, All}
use Rattle.std.proofs.lemmas.Bool.{both_ways, ltb-true}
use Rattle.std.proofs.lemmas.List.{length-drop, length-set}
use Rattle.std.proofs.lemmas.List.Elements.{All-set, All-get_or}
use Rattle.std.proofs.lemmas.Option.{slice_get_within}
use Rattle.base.specs.declared.status.Trap.{Trap}
use Rattle.base.specs.declared.status.Trap.TheVariants as T
use Rattle.base.specs.declared.status.Status.{Status}
use Rattle.base.specs.declared.event.Act.{Act}
use Rattle.base.specs.declared.event.Act.TheVariants as A
use Rattle.base.specs.Operators.{operation}
use Rattle.code_core.specs.declared.instr.Instr.{Instr}
use Rattle.code_core.specs.declared.instr.Instr.TheVariants as I
use Rattle.code_core.specs.Instructions.{CodeSizes, pops, left, target, goes_on}
use Rattle.code_core.specs.Heights.{height_at}
use Rattle.code_core.specs.Verified.{is_next, is_exchange}
use Rattle.word_core.specs.Stamps.{Labels, start_labels}
use Rattle.code_machine.specs.declared.ask.Ask.TheVariants as Q
use Rattle.code_machine.specs.declared.ask.Reply.{Reply}
use Rattle.code_machine.specs.declared.ask.Reply.TheVariants as R
use Rattle.code_machine.specs.Machine as M
use Rattle.code_machine.specs.Machine.{CodeProcess, Moved, CodeStep, alone, asks}
use Rattle.code_machine.specs.Safety.{AreOrdered, IsSafe, HasWord, IsLawful}
use Rattle.code_machine.proofs.Fine.{Places, both_true}
use Rattle.code_machine.proofs.Words.{stamped_in_order}

-- what was done leaves a safe process, whatever is answered
abbrev pub DidSafe : CodeSizes → List Instr → ℕ → CodeStep → Type 0
DidSafe sizes code p (alone m) = IsSafe sizes code p m.process
DidSafe sizes code p (asks ask answered) =
    IsLawful sizes p ask × ((r : Reply) → HasWord sizes.processes r → IsSafe sizes code p (answered r).process)

-- Process `p` stands at place `q.place`.
module _ (sizes : CodeSizes) (code : List Instr) (fine : Places sizes code) (p : ℕ) (in_p : p < sizes.processes)
    (q : CodeProcess) (safe : IsSafe sizes code p q) where
  module _ (i : Instr) (here : slice_get code q.place ≡ Some i) where
    -- it arrives at a place that is no exchange
    arrives : (q' : CodeProcess) → q'.place < length code → length q'.stack ≡ height_at code q'.place
        → length q'.variables ≡ length q.variables → length q'.scans ≡ length q.scans
        → All (AreOrdered sizes.processes) q'.scans
        → AreOrdered sizes.processes q'.scratch → AreOrdered sizes.processes q'.beside
        → is_exchange (slice_get code q'.place) ≡ false → IsSafe sizes code p q'
    arrives q' inside height variables scans filled scratch beside apart = record {
      inside = inside;
      height = height;
      variables = variables ∙ safe.variables;
      scans = scans ∙ safe.scans;
      filled = filled;
      scratch = scratch;
      beside = beside;
      next = λ l at. absurd (both_ways (is_exchange (slice_get code q'.place)) apart (ap is_exchange at));
    }

    -- the place after an instruction other than Next is no exchange
    apart_after : is_next (Some i) ≡ false → is_exchange (slice_get code (q.place + 1)) ≡ false
    apart_after other =
        let case : (o : Option Instr) → slice_get code (q.place + 1) ≡ o → is_exchange o ≡ false =
        λ o at. elim o as (λ o. slice_get code (q.place + 1) ≡ o → is_exchange o ≡ false) [
          | None ↦ λ at. refl
          | Some j ↦ λ at. elim j as (λ j. slice_get code (q.place + 1) ≡ Some j → is_exchange (Some j) ≡ false) [
            | I.Exchange l ↦ λ at. absurd (both_ways (is_next (Some i)) other
                (ap is_next (sym here ∙ fine.next q.place l at)))
            | _ ↦ λ at. refl
          ] at
        ] at in
        case (slice_get code (q.place + 1)) refl

    -- it goes on with this stack
    on_safe : (q' : CodeProcess) → goes_on i ≡ true → is_next (Some i) ≡ false → q'.place ≡ q.place + 1
        → length q'.stack ≡ left i (length q.stack)
        → length q'.variables ≡ length q.variables → length q'.scans ≡ length q.scans
        → All (AreOrdered sizes.processes) q'.scans
        → AreOrdered sizes.processes q'.scratch → AreOrdered sizes.processes q'.beside → IsSafe sizes code p q'
    on_safe q' on other place stack variables scans filled scratch beside =
        arrives q' (subst (λ k. k < length code) (sym place) (fine.more q.place i here on))
        (stack ∙ ap (left i) safe.height ∙ sym (fine.on q.place i here on) ∙ ap (height_at code) (sym place))
        variables scans filled scratch beside
        (ap (λ k. is_exchange (slice_get code k)) place ∙ apart_after other)

    -- with a stack alone
    goes_on_safe : (stack : List ℕ) → goes_on i ≡ true → is_next (Some i) ≡ false
        → length stack ≡ left i (length q.stack)
        → IsSafe sizes code p (M.goes_on q stack None).process
    goes_on_safe stack on other long =
        on_safe (M.goes_on q stack None).process on other refl long refl refl safe.filled safe.scratch safe.beside

    sets_safe : (x v : ℕ) (stack : List ℕ) → goes_on i ≡ true → is_next (Some i) ≡ false
        → length stack ≡ left i (length q.stack)
        → IsSafe sizes code p (M.sets q x v stack None).process
    sets_safe x v stack on other long =
        on_safe (M.sets q x v stack None).process on other refl long (length-set q.variables x v) refl safe.filled
        safe.scratch safe.beside

    keeps_safe : (s : ℕ) (labels : Labels) → goes_on i ≡ true → is_next (Some i) ≡ false
        → left i (length q.stack) ≡ length q.stack
        → AreOrdered sizes.processes labels → IsSafe sizes code p (M.keeps q s labels None).process
    keeps_safe s labels on other long are =
        on_safe (M.keeps q s labels None).process on other refl (sym long) refl (length-set q.scans s labels)
        (All-set (AreOrdered sizes.processes) q.scans s labels are safe.filled) safe.scratch safe.beside

    stops_safe : (status : Status) → IsSafe sizes code p (M.stops q status A.End).process
    stops_safe status = record {
      inside = safe.inside;
      height = safe.height;
      variables = safe.variables;
      scans = safe.scans;
      filled = safe.filled;
      scratch = safe.scratch;
      beside = safe.beside;
      next = safe.next;
    }

    results_safe : (below : List ℕ) (v : Result ℕ Trap) → goes_on i ≡ true → is_next (Some i) ≡ false
        → suc (length below) ≡ left i (length q.stack)
        → IsSafe sizes code p (M.results q below v).process
    results_safe below (Ok v) on other long = goes_on_safe (v ∷ below) on other long
    results_safe below (Err t) on other long = stops_safe _

    jumps_safe : (l : ℕ) (stack : List ℕ) → target i ≡ Some l → length stack ≡ left i (length q.stack)
        → IsSafe sizes code p (M.goes q l stack None).process
    jumps_safe l stack to long =
        arrives (M.goes q l stack None).process (fine.within q.place i l here to)
        (long ∙ ap (left i) safe.height ∙ sym (fine.to q.place i l here to))
        refl refl safe.filled safe.scratch safe.beside (fine.apart q.place i l here to)

    operands : pops i ≤ length q.stack
    operands = subst (λ h. pops i ≤ h) (sym safe.height) (fine.short q.place i here)

  abbrev Here : Instr → Type 0
  Here i = slice_get code q.place ≡ Some i

  abbrev Safe : Moved → Type 0
  Safe m = IsSafe sizes code p m.process

  in_scans : (i : Instr) → Here i → (s : ℕ) → nat_lt s sizes.scans ≡ true
      → AreOrdered sizes.processes (M.scan_at q sizes.processes s)
  in_scans i here s slot =
      All-get_or (AreOrdered sizes.processes) q.scans s (start_labels sizes.processes)
      (omega (arith, safe.scans, ltb-true s sizes.scans slot)) safe.filled

  loads_safe : Here I.LoadWord → (r : Reply) → HasWord sizes.processes r → Safe (M.loads q r)
  loads_safe here (R.Word labels) are =
      on_safe I.LoadWord here (M.loads q (R.Word labels)).process refl refl refl
      (omega arith) refl refl safe.filled are safe.beside
  loads_safe here R.Won are = safe
  loads_safe here (R.Lost found) are = safe
  loads_safe here (R.Value v) are = safe
  loads_safe here R.Written are = safe
  loads_safe here R.Cleared are = safe

  scans_safe : (s : ℕ) → Here (I.Scan s) → (r : Reply) → HasWord sizes.processes r
      → Safe (M.scans q sizes.processes s r)
  scans_safe s here (R.Word labels) are = keeps_safe (I.Scan s) here s labels refl refl (omega arith) are
  scans_safe s here R.Won are = safe
  scans_safe s here (R.Lost found) are = safe
  scans_safe s here (R.Value v) are = safe
  scans_safe s here R.Written are = safe
  scans_safe s here R.Cleared are = safe

  lost_safe : (l : ℕ) → Here (I.Exchange l) → Safe (M.goes q l q.stack None)
  lost_safe l here =
      let load : slice_get code l ≡ Some I.LoadWord = fine.back q.place l here in
      arrives (I.Exchange l) here (M.goes q l q.stack None).process (slice_get_within code l I.LoadWord load)
      (safe.height ∙ sym (fine.back_height q.place l here))
      refl refl safe.filled safe.scratch safe.beside (ap is_exchange load)

  exchanges_safe : (l : ℕ) → Here (I.Exchange l) → (r : Reply) → Safe (M.exchanges q l r)
  exchanges_safe l here R.Won = goes_on_safe (I.Exchange l) here q.stack refl refl (omega arith)
  exchanges_safe l here (R.Lost found) = lost_safe l here
  exchanges_safe l here (R.Word labels) = safe
  exchanges_safe l here (R.Value v) = safe
  exchanges_safe l here R.Written = safe
  exchanges_safe l here R.Cleared = safe

  receives_safe : (r x i : ℕ) → Here (I.Get r x) → (reply : Reply) → Safe (M.receives q r i x reply)
  receives_safe r x i here (R.Value v) = sets_safe (I.Get r x) here x v _ refl refl
      (omega (arith, length-drop 1 q.stack))
  receives_safe r x i here (R.Word labels) = safe
  receives_safe r x i here R.Won = safe
  receives_safe r x i here (R.Lost found) = safe
  receives_safe r x i here R.Written = safe
  receives_safe r x i here R.Cleared = safe

  gets_safe : (r x i : ℕ) → Here (I.Get r x) → (b : Bool) → nat_lt i sizes.processes ≡ b
      → DidSafe sizes code p (if b then asks (Q.Get r i) (M.receives q r i x) else alone (M.traps q T.Index))
  gets_safe r x i here true inside =
      let slots = both_true (nat_lt r sizes.rows) (nat_lt x sizes.variables) (fine.slots q.place (I.Get r x) here) in
      ((ltb-true r sizes.rows slots.0, ltb-true i sizes.processes inside), λ reply has. receives_safe r x i here reply)
  gets_safe r x i here false past = stops_safe (I.Get r x) here _

  writes_safe : (r v : ℕ) → Here (I.Put r) → (reply : Reply) → Safe (M.writes q r v reply)
  writes_safe r v here R.Written = goes_on_safe (I.Put r) here _ refl refl (omega (arith, length-drop 1 q.stack))
  writes_safe r v here (R.Value w) = safe
  writes_safe r v here (R.Word labels) = safe
  writes_safe r v here R.Won = safe
  writes_safe r v here (R.Lost found) = safe
  writes_safe r v here R.Cleared = safe

  compares_safe : (s x i j : ℕ) → Here (I.Older s x) → (b : Bool) (v : ℕ) (act : Option Act)
      → Safe (if b then M.sets q x v (drop 2 q.stack) act else M.traps q T.Index)
  compares_safe s x i j here true v act = sets_safe (I.Older s x) here x v _ refl refl
      (omega (arith, length-drop 2 q.stack))
  compares_safe s x i j here false v act = stops_safe (I.Older s x) here _

  clears_safe : Here I.Clear → (r : Reply) → Safe (M.clears q r)
  clears_safe here R.Cleared = goes_on_safe I.Clear here q.stack refl refl (omega arith)
  clears_safe here (R.Word labels) = safe
  clears_safe here R.Won = safe
  clears_safe here (R.Lost found) = safe
  clears_safe here (R.Value v) = safe
  clears_safe here R.Written = safe

  held_safe : (s x i : ℕ) → Here (I.Held s x) → (b : Bool) (v : ℕ) (act : Option Act)
      → Safe (if b then M.sets q x v (drop 1 q.stack) act else M.traps q T.Index)
  held_safe s x i here true v act = sets_safe (I.Held s x) here x v _ refl refl (omega (arith, length-drop 1 q.stack))
  held_safe s x i here false v act = stops_safe (I.Held s x) here _

  jump_zero_safe : (l : ℕ) → Here (I.JumpZero l) → (b : Bool)
      → Safe (M.goes q (if b then l else q.place + 1) (drop 1 q.stack) None)
  jump_zero_safe l here true = jumps_safe (I.JumpZero l) here l _ refl (omega (arith, length-drop 1 q.stack))
  jump_zero_safe l here false = goes_on_safe (I.JumpZero l) here _ refl refl (omega (arith, length-drop 1 q.stack))

  next_safe : Here I.Next → Safe (M.stamps q p)
  next_safe here = record {
    inside = fine.more q.place I.Next here refl;
    height = omega (arith, safe.height, fine.on q.place I.Next here refl);
    variables = safe.variables;
    scans = safe.scans;
    filled = safe.filled;
    scratch = safe.scratch;
    beside = stamped_in_order sizes.processes p q.scratch safe.scratch in_p;
    next = λ l at. refl;
  }

  pub does_safe : (i : Instr) → Here i → DidSafe sizes code p (M.does q sizes.processes p i)
  does_safe (I.Push v) here = goes_on_safe (I.Push v) here _ refl refl (omega arith)
  does_safe (I.Load x) here = goes_on_safe (I.Load x) here _ refl refl (omega arith)
  does_safe I.Me here = goes_on_safe I.Me here _ refl refl (omega arith)
  does_safe I.Count here = goes_on_safe I.Count here _ refl refl (omega arith)
  does_safe (I.Bin op) here =
      results_safe (I.Bin op) here (drop 2 q.stack) (operation op (slice_index q.stack 1) (slice_index q.stack 0)) refl
      refl (omega (arith, length-drop 2 q.stack))
  does_safe (I.Store x) here = sets_safe (I.Store x) here x _ _ refl refl (omega (arith, length-drop 1 q.stack))
  does_safe (I.Get r x) here = gets_safe r x (slice_index q.stack 0) here
      (nat_lt (slice_index q.stack 0) sizes.processes) refl
  does_safe (I.Put r) here = (
    ltb-true r sizes.rows (fine.slots q.place (I.Put r) here),
    λ reply has. writes_safe r (slice_index q.stack 0) here reply,
  )
  does_safe I.LoadWord here = (tt, loads_safe here)
  does_safe I.Next here = next_safe here
  does_safe (I.Exchange l) here = ((safe.scratch, safe.next l here), λ reply has. exchanges_safe l here reply)
  does_safe (I.Scan s) here = (tt, scans_safe s here)
  does_safe (I.Copy s t) here =
      let slots = both_true (nat_lt s sizes.scans) (nat_lt t sizes.scans) (fine.slots q.place (I.Copy s t) here) in
      keeps_safe (I.Copy s t) here t (M.scan_at q sizes.processes s) refl refl (omega arith)
      (in_scans (I.Copy s t) here s slots.0)
  does_safe (I.Older s x) here =
      compares_safe s x (slice_index q.stack 1) (slice_index q.stack 0) here
      (nat_lt (slice_index q.stack 1) sizes.processes && nat_lt (slice_index q.stack 0) sizes.processes) _ _
  does_safe I.Out here = goes_on_safe I.Out here _ refl refl (omega (arith, length-drop 1 q.stack))
  does_safe (I.JumpZero l) here = jump_zero_safe l here (slice_index q.stack 0 == 0)
  does_safe (I.Jump l) here = jumps_safe (I.Jump l) here l _ refl (omega arith)
  does_safe I.Halt here = stops_safe I.Halt here _
  does_safe I.Clear here = (tt, λ reply has. clears_safe here reply)
  does_safe (I.Held s x) here = held_safe s x (slice_index q.stack 0) here
      (nat_lt (slice_index q.stack 0) sizes.processes) _ _

  -- one step
  pub did_safe : DidSafe sizes code p (M.did sizes.processes p code q)
  did_safe =
      let case : (o : Option Instr) → slice_get code q.place ≡ o
      → DidSafe sizes code p (M.does_at q sizes.processes p o) =
      λ o at. elim o as (λ o. slice_get code q.place ≡ o → DidSafe sizes code p (M.does_at q sizes.processes p o)) [
        | None ↦ λ at. safe
        | Some i ↦ λ at. does_safe i at
      ] at in
      case (slice_get code q.place) refl
