-- Runs made one after the other, and one more.
use Rattle.std.proofs.Common.{List, [], ◌∷◌, ◌++◌}
use Rattle.base.specs.Observables.{RunObservables}
use Rattle.searches_hunt.specs.Tallies.{AreRuns, no_run, one_run}

pub one_more_run : {M : Type 0} (Ran : M → RunObservables → M → Type 0) (before between after : M) (seen : List RunObservables) (outcome : RunObservables)
    → AreRuns Ran before seen between → Ran between outcome after → AreRuns Ran before (seen ++ outcome ∷ []) after
one_more_run Ran _ _ after _ outcome (no_run runner) ran = one_run runner after after outcome [] ran (no_run after)
one_more_run Ran _ between after _ outcome (one_run before next _ first more made others) ran =
    one_run before next after first (more ++ outcome ∷ []) made (one_more_run Ran next between after more outcome others ran)
