-- What an exploration comes to, by single steps or by merged ones.
use Rattle.std.specs.Prelude.{◌≡◌, ℕ, ◌<◌, ◌≤◌, ⊤, ◌∷◌, Bool, List, length, map}
use Rattle.std.specs.List.{All}
use Rattle.base.specs.Plain.{WholeProgram}
use Rattle.language_properties.specs.declared.property.Property.{Property}
use Rattle.searches_states.specs.Watching.{Told}
use Rattle.searches_states.specs.declared.limits.Limits.{Limits}
use Rattle.searches_states.specs.declared.verdict.Verdict.{Verdict}
use Rattle.searches_fairness.specs.declared.liveness.Liveness.{Liveness}
use Rattle.searches_fairness.specs.declared.liveness.Liveness.TheVariants as L
use Rattle.searches_wait_free.specs.declared.answer.OwnSteps.{OwnSteps}
use Rattle.searches_wait_free.specs.declared.answer.OwnSteps.TheVariants as O
use Rattle.searches_explore.specs.BySteps.{KnowsAlone, KnowsFairAs, KnowsWaitFree}
use Rattle.searches_explore.specs.declared.conditions.Conditions.{Conditions}
use Rattle.searches_explore.specs.declared.conditions.Known.{Known}
use Rattle.searches_explore.specs.Lines.{lines_of}
use Rattle.searches_explore.specs.Never.{AreToldFor, IfBroken, IfFault, IfFaultIn, IfKnown, IfLimit, IfSafe, IfTrapped}
use Rattle.searches_explore.specs.declared.fault.Fault.{Fault}
use Rattle.ticklab_verdicts.specs.BySteps.{BrokenBy, FoundBy, LimitBy, SafeBy, SeesBy, StuckBy, TrapBy}
use Rattle.ticklab_verdicts.specs.Sought.{IsLawful}
use Rattle.ticklab_verdicts.specs.declared.search.Search.{Search}
use Rattle.ticklab_verdicts.specs.Hearing.{Heard, HearsOf, IsHeard, begun, seen}

-- Of a verdict, and what it knows beside.
module _ {E : Type 0} (m : Bool) (a : WholeProgram ℕ) (lines : List Property) (limits : Limits) where
  -- what a watch hears of the search that comes to this
  pub record AreHeardFor (e : Verdict Fault E) (heard : List Heard) : Type 0 where
    pub told : List Told
    pub are : AreToldFor a (SeesBy m a (lines_of lines)) limits e told
    pub whole : heard ≡ begun m ∷ map seen told

  -- what holds of the verdict
  pub record IsKnownBy (e : Verdict Fault E) : Type 0 where
    pub trapped : IfTrapped e (TrapBy m a (lines_of lines))
    pub broken : IfBroken e (BrokenBy m a (lines_of lines))
    pub seen : IfFaultIn e (FoundBy m a (lines_of lines))
    pub few : IfFaultIn e (λ states _. states ≤ limits.states)
    pub safe : IfSafe e (SafeBy m a (lines_of lines) limits)
    pub at_limit : IfLimit e (LimitBy m a (lines_of lines) limits)
    pub lawful : IfFault e (All (λ p. p < a.processes))
    pub within : IfBroken e (λ schedule line v. line < length lines)

  pub record IsSearchedBy {W : Type 0} (hears : HearsOf W) (before after : W) (e : Verdict Fault E) : Type 0 where
    pub known : IsKnownBy e
    pub watched : IsHeard hears before after (AreHeardFor e)

-- What holds of what is known, where these processes have to end.
pub record AreEndsKnownBy (m : Bool) (a : WholeProgram ℕ) (asked : Conditions) (known : Known) : Type 0 where
  pub fair : KnowsFairAs a asked.fair (StuckBy m a asked.fair) known.fair
  pub wait_free : KnowsWaitFree a asked.wait_free known.wait_free
  pub alone : KnowsAlone a asked.alone known.alone

pub record AreEndsSearchedBy (m : Bool) (a : WholeProgram ℕ) (lines : List Property) (asked : Conditions) (limits : Limits) {W : Type 0} (hears : HearsOf W)
    (before after : W) (e : Verdict Fault Known) : Type 0 where
  pub searched : IsSearchedBy m a lines limits hears before after e
  pub known : IfKnown e (AreEndsKnownBy m a asked)

-- its schedules are of the program
abbrev pub IsFairShowable : Search → Liveness → Type 0
IsFairShowable s (L.Stuck schedule lead_in cycle) = IsLawful s schedule.items × IsLawful s lead_in.items × IsLawful s cycle.items
IsFairShowable s (L.Endless prefix cycle) = IsLawful s prefix.items × IsLawful s cycle.items
IsFairShowable s l = ⊤

abbrev pub IsOwnShowable : Search → OwnSteps → Type 0
IsOwnShowable s (O.ForEver p prefix cycle) = IsLawful s prefix.items × IsLawful s cycle.items
IsOwnShowable s O.Stop = ⊤

pub record IsShowable (s : Search) (known : Known) : Type 0 where
  pub fair : IsFairShowable s known.fair
  pub wait_free : IsOwnShowable s known.wait_free
  pub alone : IsOwnShowable s known.alone
