-- What a process makes alone leads the run on.
-- The idea. It makes as many instructions as it can alone, and at most `most` (`leads_alone`, by induction over `most`). It
-- stays where it has stopped, or asks for what is shared (`stays`); else it makes one more (`one_more`). The other
-- processes stand where they stood (`others_next`). `LedTo` has all that is known then.
-- Read `LedTo` first, then `leads_alone`.
use Rattle.std.proofs.Common.{◌≡◌, ◌≢◌, ℕ, zero, suc, ◌<◌, ◌≤◌, List, [], ◌∷◌, ◌++◌, replicate, refl, ap, sym, subst, ◌∙◌, arith}
use Rattle.std.specs.Prelude.{slice_get, slice_set, Some}
use Rattle.std.proofs.lemmas.List.{append-nil}
use Rattle.base.specs.declared.status.Status.{Status}
use Rattle.base.specs.declared.status.Status.TheVariants.{Running, Ended, Trapped}
use Rattle.word_core.specs.declared.history.Shared.{Shared}
use Rattle.code_core.specs.Instructions.{StepCode}
use Rattle.code_core.specs.Verified.{IsVerified}
use Rattle.code_machine.specs.Machine.{CodeProcess, CodeState, Moved, CodeStep, alone, asks, did, made}
use Rattle.tick_merge.specs.Ran.{run_under}
use Rattle.tick_merge.specs.Merged.{one_further, alone_for}
use Rattle.tick_merge.specs.prover.Standing.{Stands}
use Rattle.tick_merge.specs.prover.Held.{further, after_alone}
use Rattle.tick_merge.specs.prover.Reached.{IsQuiet}
use Rattle.tick_merge.proofs.Lists.{one_then}
use Rattle.tick_merge.proofs.Runs.{run_next}
use Rattle.tick_merge.proofs.Standing.{stands_alone}
use Rattle.tick_merge.proofs.Going.{stands_there, inside_of}

-- the other processes stand where they stood
abbrev pub OthersStay : StepCode → ℕ → List ℕ → List ℕ → Type 0
OthersStay c p schedule later = (j : ℕ) (x : CodeProcess) → j ≢ p → slice_get (run_under c schedule).processes j ≡ Some x
    → slice_get (run_under c later).processes j ≡ Some x

get_set_other : {X : Type 0} (xs : List X) (p j : ℕ) (y : X) → j ≢ p → slice_get (slice_set xs p y) j ≡ slice_get xs j
get_set_other [] p j y apart = refl
get_set_other (x ∷ xs) zero zero y apart = absurd (apart refl)
get_set_other (x ∷ xs) zero (suc j) y apart = refl
get_set_other (x ∷ xs) (suc p) zero y apart = refl
get_set_other (x ∷ xs) (suc p) (suc j) y apart = get_set_other xs p j y (λ same. apart (ap suc same))

pub others_next : (c : StepCode) (schedule : List ℕ) (p : ℕ) (q : CodeProcess) → slice_get (run_under c schedule).processes p ≡ Some q → q.status ≡ Running
    → OthersStay c p schedule (schedule ++ p ∷ [])
others_next c schedule p q there running j x apart at =
    let s : CodeState = run_under c schedule in
    let d : CodeStep = did c.sizes.processes p c.instructions q in
    ap (λ (t : CodeState). slice_get t.processes j) (run_next c schedule p q there running)
    ∙ get_set_other s.processes p j (made s.labels s.rows d).process apart ∙ at

-- process `p` was led on, by `count` of at most `most` instructions
pub record LedTo (c : StepCode) (p most : ℕ) (schedule later : List ℕ) (history : List Shared) (q : CodeProcess) (count : ℕ) : Type 0 where
  pub stands : Stands c later history
  pub there : slice_get (run_under c later).processes p ≡ Some q
  pub others : OthersStay c p schedule later
  pub few : count ≤ most
  pub quiet : count < most → IsQuiet c p q

module _ (c : StepCode) (verified : IsVerified c.sizes c.instructions) (few : c.sizes.processes ≤ 6) (p : ℕ) (below : p < c.sizes.processes) where
  stays : (most : ℕ) (schedule : List ℕ) (history : List Shared) (q : CodeProcess) → Stands c schedule history
      → slice_get (run_under c schedule).processes p ≡ Some q → (0 < most → IsQuiet c p q)
      → LedTo c p most schedule (schedule ++ []) history q 0
  stays most schedule history q stands there quiet =
      subst (λ t. LedTo c p most schedule t history q 0) (sym (append-nil schedule))
      (record { stands = stands; there = there; others = λ j x apart at. at; few = omega arith; quiet = quiet })

  one_more : (most : ℕ) (schedule : List ℕ) (history : List Shared) (q last : CodeProcess) (m : Moved) (count : ℕ)
      → slice_get (run_under c schedule).processes p ≡ Some q → q.status ≡ Running
      → LedTo c p most (schedule ++ p ∷ []) ((schedule ++ p ∷ []) ++ replicate count p) history last count
      → LedTo c p (suc most) schedule (schedule ++ replicate (suc count) p) history last (suc count)
  one_more most schedule history q last m count there running led =
      subst (λ t. LedTo c p (suc most) schedule t history last (suc count)) (one_then schedule p (replicate count p))
      (record {
        stands = led.stands;
        there = led.there;
        others = λ j x apart at. led.others j x apart (others_next c schedule p q there running j x apart at);
        few = omega (arith, led.few);
        quiet = λ less. led.quiet (omega (arith, less));
      })

  pub leads_alone : (most : ℕ) (schedule : List ℕ) (history : List Shared) (q : CodeProcess) → Stands c schedule history
      → slice_get (run_under c schedule).processes p ≡ Some q
      → LedTo c p most schedule (schedule ++ replicate (alone_for c.sizes.processes c.instructions p most q) p) history
      (after_alone c.sizes.processes c.instructions p most q) (alone_for c.sizes.processes c.instructions p most q)
  leads_alone zero schedule history q stands there = stays zero schedule history q stands there (λ less. absurd (omega (arith, less)))
  leads_alone (suc most) schedule history q stands there =
      let n : ℕ = c.sizes.processes in
      let code = c.instructions in
      let Goal : Status → CodeStep → Type 0 =
      λ (s : Status) (d : CodeStep). LedTo c p (suc most) schedule (schedule ++ replicate (one_further s d (alone_for n code p most)) p) history
      (further s d (after_alone n code p most) q) (one_further s d (alone_for n code p most))
      in
      let by_step : q.status ≡ Running → (d : CodeStep) → did n p code q ≡ d → Goal Running d =
      λ running d is. elim d as (λ d. did n p code q ≡ d → Goal Running d) [
        | alone m ↦ λ is.
            one_more most schedule history q (after_alone n code p most m.process) m (alone_for n code p most m.process) there running
            (leads_alone most (schedule ++ p ∷ []) history m.process (stands_alone c schedule history stands p q there running m is)
            (stands_there c verified few p 0 schedule q m there running is (inside_of c verified few p 0 schedule below)))
        | asks ask answered ↦ λ is. stays (suc most) schedule history q stands there (λ less m goes alone_is. asks_not_alone ask answered m (sym is ∙ alone_is))
      ] is
      in
      let by_status : (s : Status) → q.status ≡ s → Goal s (did n p code q) =
      λ s is. elim s as (λ s. q.status ≡ s → Goal s (did n p code q)) [
        | Running ↦ λ is. by_step is (did n p code q) refl
        | Ended ↦ λ is. stays (suc most) schedule history q stands there (λ less m goes alone_is. ended_not Ended (sym is ∙ goes))
        | Trapped t ↦ λ is. stays (suc most) schedule history q stands there (λ less m goes alone_is. trapped_not t (sym is ∙ goes))
      ] is
      in
      by_status q.status refl
    where
      asks_not_alone : (ask : _) (answered : _) (m : Moved) → asks ask answered ≡ alone m → ⊥
      asks_not_alone ask answered m same = cc

      ended_not : (s : Status) → Ended ≡ Running → ⊥
      ended_not s same = cc

      trapped_not : (t : _) → Trapped t ≡ Running → ⊥
      trapped_not t same = cc
