-- What each process did by itself, in one history of all, is one run of the code.
use Rattle.std.proofs.Common.{◌≡◌, ℕ, zero, suc, ◌<◌, ◌≤◌, List, [], ◌∷◌, length, get_or, ap, sym, subst, ◌∙◌, arith}
use Rattle.std.specs.Prelude.{slice_get, slice_index, Some}
use Rattle.std.proofs.lemmas.Option.{same_Some, slice_get_within, slice_get-get_or}
use Rattle.base.specs.declared.run_outcome.RunEnd.{RunEnd}
use Rattle.base.specs.declared.run_outcome.RunEnd.TheVariants.{Ended}
use Rattle.base.specs.Observables.{RunObservables}
use Rattle.word_core.specs.History.{Memory}
use Rattle.code_core.specs.Instructions.{StepCode}
use Rattle.code_core.specs.Verified.{IsVerified}
use Rattle.stamp_table.specs.Passes.{mine}
use Rattle.tick_merge.specs.Local.{IsLocalRun, outputs_of}
use Rattle.tick_merge.specs.Ran.{occurs}
use Rattle.tick_merge.specs.Merged.{merged, IsMerged}
use Rattle.tick_merge.specs.Laws.{MakesIts}
use Rattle.tick_merge.proofs.Offered.{merge_law}
use Rattle.tick_merge.specs.Runs.{EndsAs, EndedSo, IsWholeRun}
use Rattle.tick_run.specs.prover.Alone.{RanSo, IsThreadedRun}

-- a number for each of the first `n`, in a list
listed : (n : ℕ) (P : ℕ → ℕ → Type 0) → ((p : ℕ) → p < n → (k : ℕ) × P p k) → (ks : List ℕ) × ((p : ℕ) → p < n → P p (slice_index ks p))
listed zero P each = ([], λ p below. absurd (omega (arith, below)))
listed (suc n) P each =
    let rest = listed n (λ p. P (suc p)) (λ p below. each (suc p) (omega (arith, below))) in
    let first = each 0 (omega arith) in (
      first.0 ∷ rest.0,
      λ p. elim p as (λ p. p < suc n → P p (slice_index (first.0 ∷ rest.0) p)) [
        | zero ↦ λ below. first.1
        | suc p ↦ λ below. rest.1 p (omega (arith, below))
      ],
    )

module _ (c : StepCode) (turns outs : ℕ) (o : RunObservables) (threaded : IsThreadedRun c turns outs o) where
  -- what process `p` did, in `count` instructions
  record Did (p count : ℕ) : Type 0 where
    pub given : List ℕ
    pub end : RunEnd
    pub at_given : slice_get o.outputs p ≡ Some given
    pub at_end : slice_get o.ends p ≡ Some end
    pub ran : RanSo c p turns outs (mine p threaded.history) given end
    pub counted : ran.count ≡ count

  each_did : (p : ℕ) → p < c.sizes.processes → (k : ℕ) × Did p k
  each_did p below =
      let given : List ℕ = get_or o.outputs p [] in
      let end : RunEnd = get_or o.ends p Ended in
      let at_given : slice_get o.outputs p ≡ Some given = slice_get-get_or o.outputs p [] (omega (arith, below, threaded.all_outputs)) in
      let at_end : slice_get o.ends p ≡ Some end = slice_get-get_or o.ends p Ended (omega (arith, below, threaded.all_ends)) in
      let ran = threaded.each p given end at_given at_end in
      (ran.count, record { given = given; end = end; at_given = at_given; at_end = at_end; ran = ran; counted = λ i. ran.count })

  module _ (counts : List ℕ) (did : (p : ℕ) → p < c.sizes.processes → Did p (slice_index counts p)) where
    is_local : (p : ℕ) (below : p < c.sizes.processes) → IsLocalRun c p (slice_index counts p) (did p below).ran.local
    is_local p below = subst (λ k. IsLocalRun c p k (did p below).ran.local) (did p below).counted (did p below).ran.is_local

    makes : (p : ℕ) → p < c.sizes.processes → MakesIts c p (slice_index counts p) threaded.history
    makes p below = record { local = (did p below).ran.local; is_local = is_local p below; own = (did p below).ran.own }

    module _ (schedule : List ℕ) (one : IsMerged c counts threaded.history schedule) where
      ended : (p : ℕ) (below : p < c.sizes.processes) → EndedSo c schedule p turns outs (did p below).given (did p below).end
      ended p below =
          let d = did p below in
          let stands = one.each p d.ran.local below (is_local p below) d.ran.own in
          let many : d.ran.count ≡ occurs p schedule = d.counted ∙ sym (one.turns_made p below) in
          record {
            process = d.ran.local.process;
            there = stands.process;
            turns_kept = subst (λ k. k ≤ turns) many d.ran.turns_kept;
            gave = d.ran.gave ∙ ap outputs_of (sym stands.events);
            outputs_kept = d.ran.outputs_kept;
            ends_as = subst (λ k. EndsAs d.end c d.ran.local.process k turns (length d.given) outs) many d.ran.ends_as;
          }

      ended_so : (p : ℕ) (given : List ℕ) (end : RunEnd) → slice_get o.outputs p ≡ Some given → slice_get o.ends p ≡ Some end
          → EndedSo c schedule p turns outs given end
      ended_so p given end at_given at_end =
          let below : p < c.sizes.processes = omega (arith, slice_get_within o.outputs p given at_given, threaded.all_outputs) in
          let d = did p below in
          subst (λ v. EndedSo c schedule p turns outs v end) (same_Some d.given given (sym d.at_given ∙ at_given))
          (subst (λ e. EndedSo c schedule p turns outs d.given e) (same_Some d.end end (sym d.at_end ∙ at_end)) (ended p below))

      whole : IsWholeRun c turns outs o
      whole = record {
        schedule = schedule;
        run = one.run;
        all_outputs = threaded.all_outputs;
        all_ends = threaded.all_ends;
        each = ended_so;
        registers = threaded.registers ∙ ap (λ (m : Memory). m.rows) (sym one.memory);
      }

-- Processes that did by themselves what one legal history tells of them did it in one run of the code.
pub whole_run : (c : StepCode) (turns outs : ℕ) (o : RunObservables) → IsVerified c.sizes c.instructions → c.sizes.processes ≤ 6
    → IsThreadedRun c turns outs o → IsWholeRun c turns outs o
whole_run c turns outs o verified few threaded =
    let counts = listed c.sizes.processes (Did c turns outs o threaded) (each_did c turns outs o threaded) in
    whole c turns outs o threaded counts.0 counts.1 (merged c counts.0 threaded.history)
    (merge_law c counts.0 threaded.history verified few threaded.legal (makes c turns outs o threaded counts.0 counts.1))
