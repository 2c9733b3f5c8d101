-- The search of a file that was begun, and what files come to.
use Rattle.std.specs.Prelude.{◌≡◌, ◌⊎◌, ◌++◌, IfOk, List, [], ◌∷◌}
use Rattle.std.specs.List.{AllZip}
use Rattle.searches_states.specs.declared.limits.Limits.{Limits}
use Rattle.ticklab_check.specs.Checking.{SourceComesTo}
use Rattle.ticklab_check.specs.Listening.{Hears}
use Rattle.ticklab_check.specs.declared.checked.Timed.{Timed}
use Rattle.ticklab_check.specs.declared.source.Source.{Source}
use Rattle.ticklab.specs.declared.search.FileSearch.{FileSearch}
use Rattle.ticklab.specs.declared.search.Work.{Work}
use Rattle.ticklab.specs.declared.search.Work.TheVariants.{Begun, Done}

-- It promises what this file comes to within these limits, or has come to it.
abbrev pub IsWorkOf : Limits → Source → Work → Type 0
IsWorkOf limits source (Begun handle) = (handle.promise.source.now ≡ source) × (handle.promise.limits ≡ limits)
IsWorkOf limits source (Done searched) = IfOk searched (λ timed. SourceComesTo limits source timed.checked)

abbrev pub IsSearchOf : Limits → Source → FileSearch → Type 0
IsSearchOf limits source search = (search.source.now ≡ source) × IsWorkOf limits source search.work

-- Each file comes to this, and the listener heard of each, in their order.
module _ (limits : Limits) {L : Type 0} (hears : L → Source → Timed → L → Type 0) (before after : L) (sources : List Source) (files : List Timed) where
  pub record AreSearched : Type 0 where
    pub come : AllZip (λ source timed. SourceComesTo limits source timed.checked) sources files
    pub heard : Hears hears before sources files after

-- The search of the first of these files was begun, if there is one, and the others are left.
abbrev pub OneMoreBegun : Limits → List Source → List FileSearch → List FileSearch → List Source → Type 0
OneMoreBegun limits [] before after others = (others ≡ []) × (after ≡ before)
OneMoreBegun limits (source ∷ sources) before after others =
    (others ≡ sources) × ((search : FileSearch) × IsSearchOf limits source search × (after ≡ before ++ search ∷ []))

-- A search came to what its file comes to, within whatever limits it had, and the listener heard of it.
module _ {L : Type 0} (hears : L → Source → Timed → L → Type 0) (search : FileSearch) (timed : Timed) (before after : L) where
  pub record IsHeardOf : Type 0 where
    pub comes : (limits : Limits) (source : Source) → IsSearchOf limits source search → SourceComesTo limits source timed.checked
    pub heard : hears before search.source.now timed after
