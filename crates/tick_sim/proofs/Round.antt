-- There and back: the steps that stand for an item end just one step, so a schedule of the program
-- comes back from the code.
use Rattle.std.proofs.Common.{◌≡◌, ℕ, zero, suc, ◌*◌, ◌≤◌, Bool, true, false, if◌then◌else◌, List, [], ◌∷◌, ◌++◌, length, replicate, refl, ap, sym, ◌∙◌, subst, arith, Option, Some, None}
use Rattle.std.proofs.lemmas.List.{length-append, length-replicate}
use Rattle.std.proofs.lemmas.Option.{same_Some, none-some}
use Rattle.code_core.specs.declared.instr.Instr.{Instr}
use Rattle.tick_source.specs.Source as S
use Rattle.tick_source.specs.Source.{SourceState}
use Rattle.code_machine.specs.Machine as C
use Rattle.code_machine.specs.Machine.{CodeState}
use Rattle.tick_lower.specs.Lowered.{lowered, lowered_sizes}
use Rattle.tick_sim.specs.Maps.{is_commit, one_more, steps_to_commit, repeated, steps_of, dropped_from, lifted_from}
use Rattle.tick_sim.specs.Laws.{running_from, RoundLaw}
use Rattle.tick_sim.proofs.States.{AllBetween}
use Rattle.tick_sim.proofs.Lifted.{steps_by, moves, stays, turn}
use Rattle.tick_sim.proofs.Start.{start_between}

module _ (n : ℕ) (code : List Instr) where
  -- the steps to a commit are at most so many, and the last of them alone is kept
  abbrev LastIsKept : ℕ → ℕ → ℕ → CodeState → Type 0
  LastIsKept p most k d =
      (k ≤ most) × ((u : List ℕ) → dropped_from n code (replicate k p ++ u) d ≡ p ∷ dropped_from n code u
      (C.code_run n code (replicate k p) d))

  dropped_now : (p : ℕ) (u : List ℕ) (d : CodeState) → is_commit n code p d ≡ true
      → dropped_from n code (p ∷ u) d ≡ p ∷ dropped_from n code u (C.code_step n code p d)
  dropped_now p u d ends =
      ap (λ b. if b then p ∷ dropped_from n code u (C.code_step n code p d) else dropped_from n code u
      (C.code_step n code p d)) ends

  dropped_later : (p : ℕ) (u : List ℕ) (d : CodeState) → is_commit n code p d ≡ false
      → dropped_from n code (p ∷ u) d ≡ dropped_from n code u (C.code_step n code p d)
  dropped_later p u d ends =
      ap (λ b. if b then p ∷ dropped_from n code u (C.code_step n code p d) else dropped_from n code u
      (C.code_step n code p d)) ends

  kept_later : (p most k : ℕ) (d : CodeState) (o : Option ℕ) → is_commit n code p d ≡ false
      → ((j : ℕ) → o ≡ Some j → LastIsKept p most j (C.code_step n code p d))
      → one_more o ≡ Some k → LastIsKept p (suc most) k d
  kept_later p most k d None quiet ended one = absurd (none-some k one)
  kept_later p most k d (Some j) quiet ended one =
      let more = ended j refl in
      subst (λ k. LastIsKept p (suc most) k d) (same_Some (suc j) k one)
      (omega (arith, more.0), λ u. dropped_later p (replicate j p ++ u) d quiet ∙ more.1 u)

  kept_by : (p most k : ℕ) (d : CodeState) (b : Bool) → is_commit n code p d ≡ b
      → ((j : ℕ) → steps_to_commit n code p most (C.code_step n code p d) ≡ Some j
      → LastIsKept p most j (C.code_step n code p d))
      → steps_to_commit n code p (suc most) d ≡ Some k → LastIsKept p (suc most) k d
  kept_by p most k d true ends ended is =
      subst (λ k. LastIsKept p (suc most) k d) (same_Some 1 k (sym (steps_by n code p most d true ends) ∙ is))
      (omega arith, λ u. dropped_now p u d ends)
  kept_by p most k d false quiet ended is =
      kept_later p most k d (steps_to_commit n code p most (C.code_step n code p d)) quiet ended
      (sym (steps_by n code p most d false quiet) ∙ is)

  one_kept : (p most k : ℕ) (d : CodeState) → steps_to_commit n code p most d ≡ Some k → LastIsKept p most k d
  one_kept p zero k d is = absurd (none-some k is)
  one_kept p (suc most) k d is =
      kept_by p most k d (is_commit n code p d) refl (λ j. one_kept p most j (C.code_step n code p d)) is

  pub round_runs : (schedule : List ℕ) (s : SourceState) (d : CodeState) → AllBetween n code s d
      → (dropped_from n code (lifted_from n code schedule d) d ≡ running_from n schedule s)
      × (length (lifted_from n code schedule d) ≤ length schedule * length code)
  round_runs [] s d all = (refl, omega arith)
  round_runs (p ∷ schedule) s d all =
      elim (turn n code p s d all) as (λ w.
      (dropped_from n code (lifted_from n code (p ∷ schedule) d) d ≡ running_from n (p ∷ schedule) s)
      × (length (lifted_from n code (p ∷ schedule) d) ≤ length (p ∷ schedule) * length code)) [
        | moves (k, steps, after) kept ↦
            let next : CodeState = C.code_run n code (replicate k p) d in
            let is : steps_of n code p d ≡ replicate k p = ap (repeated p) steps in
            let one = one_kept p (length code) k d steps in
            let later = round_runs schedule (S.source_step n p s) next after in
            let whole : lifted_from n code (p ∷ schedule) d ≡ replicate k p ++ lifted_from n code schedule next =
            ap (λ t. t ++ lifted_from n code schedule (C.code_run n code t d)) is in (
              ap (λ t. dropped_from n code t d) whole ∙ one.1 (lifted_from n code schedule next) ∙ ap (λ l. p ∷ l) later.0
                  ∙ sym (kept (running_from n schedule (S.source_step n p s))),
              omega (
                arith,
                ap length whole,
                length-append (replicate k p) (lifted_from n code schedule next),
                length-replicate k p,
                one.0,
                later.1,
              ),
            )
        | stays steps kept same ↦
            let is : steps_of n code p d ≡ [] = ap (repeated p) (steps (length code)) in
            let later = round_runs schedule s d all in
            let whole : lifted_from n code (p ∷ schedule) d ≡ lifted_from n code schedule d =
            ap (λ t. t ++ lifted_from n code schedule (C.code_run n code t d)) is in (
              ap (λ t. dropped_from n code t d) whole ∙ later.0 ∙ ap (running_from n schedule) (sym same)
                  ∙ sym (kept (running_from n schedule (S.source_step n p s))),
              omega (arith, ap length whole, later.1),
            )
      ]

pub round_law : RoundLaw
round_law a schedule =
    let both =
    round_runs a.processes (lowered a) schedule (S.source_start a) (C.code_start (lowered_sizes a)) (start_between a) in
    record { back = both.0; few = both.1 }
