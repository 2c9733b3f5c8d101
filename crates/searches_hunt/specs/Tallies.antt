-- How often each outcome of some runs came, and in what order these counts are told.
use Rattle.std.specs.Prelude.{◌≡◌, ◌≢◌, ◌≤◌, List, [], ◌∷◌, String, map, string_bytes, string_cmp, string_eq}
use Rattle.std.specs.Global.{Global}
use Rattle.std.specs.List.{All, AllPairs, count_by}
use Rattle.std.specs.declared.cmp.Ordering.TheVariants.{Less}
use Rattle.base.specs.Observables.{RunObservables}
use Rattle.tick_play.specs.Outcome.{outcome_lines}
use Rattle.searches_hunt.specs.declared.tallying.counting.Counted.{Counted}
use Rattle.searches_hunt.specs.Times.{times_of}

-- These are the outcomes of runs made one after the other, of a runner that is `before` the first and `after` the
-- last; `Ran` says of one run what the runner is before and after it.
pub data AreRuns {M : Type 0} (Ran : M → RunObservables → M → Type 0) : M → List RunObservables → M → Type 0 where
  no_run : (runner : M) → AreRuns Ran runner [] runner
  one_run : (before next after : M) (outcome : RunObservables) (more : List RunObservables) → Ran before outcome next
      → AreRuns Ran next more after → AreRuns Ran before (outcome ∷ more) after

-- no two have the same text
abbrev pub AreDistinct : List Counted → Type 0
AreDistinct = AllPairs (λ c d. string_bytes c.outcome ≢ string_bytes d.outcome)

-- none came less often than one after it
abbrev pub AreCommonestFirst : List Counted → Type 0
AreCommonestFirst = AllPairs (λ c d. d.times ≤ c.times)

-- of those that came equally often each one's text is below that of those after it
abbrev pub AreTiesInOrder : List Counted → Type 0
AreTiesInOrder = AllPairs (λ c d. c.times ≡ d.times → string_cmp c.outcome d.outcome ≡ Less)

-- Of each text it is told how many of the outcomes have it: once where some have, and in this order.
pub record AreCounted (outcomes : List RunObservables) (counts : List Counted) : Type 0 where
  pub texts : List (String Global)
  pub told : map string_bytes texts ≡ map outcome_lines outcomes
  pub times : (text : String Global) → times_of text counts ≡ count_by (string_eq text) texts
  pub positive : All (λ c. 1 ≤ c.times) counts
  pub distinct : AreDistinct counts
  pub commonest_first : AreCommonestFirst counts
  pub ties : AreTiesInOrder counts
