-- What a small program shows under a schedule, worked by hand, and what it doesn't.
use Rattle.std.proofs.Common.{◌≡◌, ℕ, zero, suc, List, [], ◌∷◌, get_or, Some, refl, sym, ap, subst, arith}
use Rattle.std.specs.Prelude.{slice_get}
use Rattle.base.specs.declared.run_outcome.RunEnd.{RunEnd}
use Rattle.base.specs.declared.run_outcome.RunEnd.TheVariants.{Ended}
use Rattle.base.specs.Observables.{RunObservables}
use Rattle.base.specs.Plain.{number, out, nil, cons, WholeProgram}
use Rattle.tick_lower.proofs.Offered.{program}
use Rattle.tick_merge.specs.Local.{outputs_of}
use Rattle.tick_merge.specs.Ran.{events_by}
use Rattle.tick_sim.specs.Laws.{seen}
use Rattle.threads_source.specs.Shown.{status_of, ShowsOutcome}

-- one process that gives out 7, and ends
abbrev pub gives_seven : WholeProgram ℕ
gives_seven = program 1 [] [] [] (cons (out (number 7)) nil)

abbrev pub gave : ℕ → RunObservables
gave value = record { outputs = (value ∷ []) ∷ []; ends = Ended ∷ []; rows = [] }

abbrev pub two_steps : List ℕ
two_steps = 0 ∷ 0 ∷ []

its_outputs : (p : ℕ) (given : List ℕ) → slice_get (gave 7).outputs p ≡ Some given
    → given ≡ outputs_of (events_by p (seen gives_seven two_steps).events)
its_outputs zero given at = by (cc)
  where
    by : (7 ∷ []) ≡ given → given ≡ 7 ∷ []
    by same = sym same
its_outputs (suc p) given at = absurd (cc)

its_ends : (p : ℕ) (end : RunEnd) → slice_get (gave 7).ends p ≡ Some end → slice_get (seen gives_seven two_steps).statuses p ≡ Some (status_of end)
its_ends zero end at = by (cc)
  where
    by : Ended ≡ end → slice_get (seen gives_seven two_steps).statuses zero ≡ Some (status_of end)
    by same = subst (λ e. slice_get (seen gives_seven two_steps).statuses zero ≡ Some (status_of e)) same refl
its_ends (suc p) end at = absurd (cc)

pub shows_seven : ShowsOutcome gives_seven two_steps (gave 7)
shows_seven = record { all_outputs = refl; all_ends = refl; outputs = its_outputs; ends = its_ends; registers = refl }

-- it gives out no other value
shows_no_eight : ShowsOutcome gives_seven two_steps (gave 8) → ⊥
shows_no_eight shows = absurd (omega (arith, ap (λ values. get_or values 0 0) (shows.outputs 0 (8 ∷ []) refl)))

-- and it hasn't ended before its second step
shows_no_end : ShowsOutcome gives_seven (0 ∷ []) (gave 7) → ⊥
shows_no_end shows = absurd (cc (shows.ends 0 Ended refl))
