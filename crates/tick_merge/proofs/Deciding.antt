-- The answers that a process is given decide what it does.
use Rattle.std.proofs.Common.{◌≡◌, ◌≤◌, ℕ, zero, suc, List, [], ◌∷◌, ◌++◌, ◌∙◌, sym, ap, subst, append_assoc}
use Rattle.std.specs.Prelude.{Some}
use Rattle.std.proofs.lemmas.List.{append_cancel_left, append-nil}
use Rattle.word_core.specs.declared.history.Shared.{Shared}
use Rattle.word_core.specs.declared.history.SharedAct.{SharedAct}
use Rattle.word_core.proofs.Offered.{distinct_law}
use Rattle.code_machine.specs.declared.ask.Ask.{Ask}
use Rattle.code_machine.specs.declared.ask.Ask.TheVariants as Q
use Rattle.code_machine.specs.declared.ask.Reply.{Reply}
use Rattle.code_machine.specs.declared.ask.Reply.TheVariants as R
use Rattle.code_machine.specs.Machine.{Moved, CodeStep, alone, asks, did}
use Rattle.tick_merge.specs.Local.{Local, act_of, TellsLabels, moved_with, GoesOnBy, Makes}
use Rattle.tick_merge.specs.LocalLaws.{OncePerAnswersLaw}

-- what was asked for and the act tell what was replied
same_reply : (n : ℕ) → n ≤ 6 → (ask : Ask) (a b : Reply) (act : SharedAct) (found other : ℕ) → TellsLabels n a → TellsLabels n b
    → act_of found ask a ≡ Some act → act_of other ask b ≡ Some act → a ≡ b
same_reply n few Q.LoadWord (R.Word x) (R.Word y) act found other tx ty ex ey = ap R.Word (distinct_law n few x y tx ty (cc))
same_reply n few Q.LoadWord (R.Word x) _ act found other tx ty ex ey = absurd (cc)
same_reply n few Q.LoadWord _ b act found other tx ty ex ey = absurd (cc)
same_reply n few Q.Scan (R.Word x) (R.Word y) act found other tx ty ex ey = ap R.Word (distinct_law n few x y tx ty (cc))
same_reply n few Q.Scan (R.Word x) _ act found other tx ty ex ey = absurd (cc)
same_reply n few Q.Scan _ b act found other tx ty ex ey = absurd (cc)
same_reply n few (Q.Exchange old new) R.Won R.Won act found other tx ty ex ey = λ i. R.Won
same_reply n few (Q.Exchange old new) (R.Lost x) (R.Lost y) act found other tx ty ex ey = ap R.Lost (distinct_law n few x y tx ty (cc))
same_reply n few (Q.Exchange old new) R.Won _ act found other tx ty ex ey = absurd (cc)
same_reply n few (Q.Exchange old new) (R.Lost x) _ act found other tx ty ex ey = absurd (cc)
same_reply n few (Q.Exchange old new) _ b act found other tx ty ex ey = absurd (cc)
same_reply n few (Q.Get r i) (R.Value v) (R.Value w) act found other tx ty ex ey = cc
same_reply n few (Q.Get r i) (R.Value v) _ act found other tx ty ex ey = absurd (cc)
same_reply n few (Q.Get r i) _ b act found other tx ty ex ey = absurd (cc)
same_reply n few (Q.Put r v) R.Written R.Written act found other tx ty ex ey = λ i. R.Written
same_reply n few (Q.Put r v) R.Written _ act found other tx ty ex ey = absurd (cc)
same_reply n few (Q.Put r v) _ b act found other tx ty ex ey = absurd (cc)
same_reply n few Q.Clear R.Cleared R.Cleared act found other tx ty ex ey = λ i. R.Cleared
same_reply n few Q.Clear R.Cleared _ act found other tx ty ex ey = absurd (cc)
same_reply n few Q.Clear _ b act found other tx ty ex ey = absurd (cc)

-- an instruction adds to the steps
pub makes_more : (n p : ℕ) (l : Local) (d : CodeStep) (next : Local) → Makes n p l d next → (more : List Shared) × (next.steps ≡ l.steps ++ more)
makes_more n p l (alone m) next made = ([], ap (λ (x : Local). x.steps) made ∙ sym (append-nil l.steps))
makes_more n p l (asks ask answered) next made = (record { process = p; act = made.act } ∷ [], ap (λ (x : Local). x.steps) made.makes)

-- the act of the first step, if there is one
abbrev first_act : SharedAct → List Shared → SharedAct
first_act other [] = other
first_act other (s ∷ steps) = s.act

went_same : (n p : ℕ) → n ≤ 6 → (l : Local) (ask : Ask) (answered : Reply → Moved) (a b : Local) (left_over others : List Shared)
    → GoesOnBy n p l ask answered a → GoesOnBy n p l ask answered b → a.steps ++ left_over ≡ b.steps ++ others → a ≡ b
went_same n p few l ask answered a b left_over others by_a by_b same =
    let first : a.steps ++ left_over ≡ l.steps ++ (record { process = p; act = by_a.act } ∷ left_over) =
    ap (λ (x : Local). x.steps ++ left_over) by_a.makes ∙ append_assoc l.steps (record { process = p; act = by_a.act } ∷ []) left_over in
    let second : b.steps ++ others ≡ l.steps ++ (record { process = p; act = by_b.act } ∷ others) =
    ap (λ (x : Local). x.steps ++ others) by_b.makes ∙ append_assoc l.steps (record { process = p; act = by_b.act } ∷ []) others in
    let heads : record { process = p; act = by_a.act } ∷ left_over ≡ record { process = p; act = by_b.act } ∷ others =
    append_cancel_left l.steps _ _ (sym first ∙ same ∙ second) in
    let acts : by_a.act ≡ by_b.act = ap (first_act by_a.act) heads in
    let replies : by_a.reply ≡ by_b.reply =
    same_reply n few ask by_a.reply by_b.reply by_b.act by_a.found by_b.found by_a.labels by_b.labels (by_a.fits ∙ ap Some acts) by_b.fits in
    by_a.makes ∙ (λ i. moved_with p l (acts i) (answered (replies i))) ∙ sym by_b.makes

makes_same : (n p : ℕ) → n ≤ 6 → (l : Local) (d : CodeStep) (a b : Local) (left_over others : List Shared) → Makes n p l d a → Makes n p l d b
    → a.steps ++ left_over ≡ b.steps ++ others → a ≡ b
makes_same n p few l (alone m) a b left_over others made_a made_b same = made_a ∙ sym made_b
makes_same n p few l (asks ask answered) a b left_over others made_a made_b same =
    went_same n p few l ask answered a b left_over others made_a made_b same

pub once_per_answers : OncePerAnswersLaw
once_per_answers c few p zero a b left_over others run_a run_b same = run_a ∙ sym run_b
once_per_answers c few p (suc count) a b left_over others (before, run_a, step_a) (was, run_b, step_b) same =
    let more = makes_more c.sizes.processes p before (did c.sizes.processes p c.instructions before.process) a step_a.makes in
    let further = makes_more c.sizes.processes p was (did c.sizes.processes p c.instructions was.process) b step_b.makes in
    let first : a.steps ++ left_over ≡ before.steps ++ (more.0 ++ left_over) =
    ap (λ xs. xs ++ left_over) more.1 ∙ append_assoc before.steps more.0 left_over in
    let second : b.steps ++ others ≡ was.steps ++ (further.0 ++ others) =
    ap (λ xs. xs ++ others) further.1 ∙ append_assoc was.steps further.0 others in
    let here : before ≡ was =
    once_per_answers c few p count before was (more.0 ++ left_over) (further.0 ++ others) run_a run_b (sym first ∙ same ∙ second) in
    makes_same c.sizes.processes p few was (did c.sizes.processes p c.instructions was.process) a b left_over others
    (subst (λ (l : Local). Makes c.sizes.processes p l (did c.sizes.processes p c.instructions l.process) a) here step_a.makes) step_b.makes same
