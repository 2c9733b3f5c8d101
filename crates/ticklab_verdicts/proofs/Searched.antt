-- What an answer of `explore` says, from what was explored and what the answer shows of it: by steps of one kind
-- (`found_as`), and by merged steps, where these find no fault (`safe_first`, `limit_first`). `Shortened.antt` goes on where
-- they do.
-- The idea. What is known of a search, what the answer shows and what a watch hears all go by cases of what was
-- explored: a trap, a broken line, no fault, or a limit. `told_by` puts the three together in each case.
-- Read `told_by` first, then `none_missed`.
use Rattle.std.proofs.Common.{◌≡◌, ◌∙◌, ◌+◌, ◌++◌, ◌<◌, ◌≤◌, ◌*◌, ℕ, Bool, true, false, List, All, ap, length, refl, subst, sym}
use Rattle.std.proofs.lemmas.Bool.{false≢true, or_right}
use Rattle.std.proofs.Math.Bool.{true-or}
use Rattle.std.specs.Prelude.{◌||◌, Vec}
use Rattle.std.specs.Global.{Global}
use Rattle.base.specs.Plain.{WholeProgram}
use Rattle.language_properties.specs.Values.{Valued}
use Rattle.language_properties.specs.declared.property.Property.{Property}
use Rattle.tick_source.specs.Source.{SourceState, source}
use Rattle.searches_explore.specs.Explored.{has_trapped}
use Rattle.searches_explore.specs.Lines.{IsFirstBroken, breaks, is_fault, lines_of}
use Rattle.searches_states.specs.Watching.{AreTold, AreToldToEnd, IsWatched}
use Rattle.searches_states.specs.declared.limits.Limits.{Limits}
use Rattle.searches_states.specs.declared.verdict.Verdict.{Verdict}
use Rattle.searches_states.specs.declared.verdict.Verdict.TheVariants.{Found, Nowhere, Limit}
use Rattle.searches_explore.specs.Never.{AreToldFor, IfBreaks, IfBroken, IfFault, IfFaultIn, IfLimit, IfSafe, IfTrapped, IfTraps, schedule_of}
use Rattle.searches_explore.specs.Searching.{AreBytesFor, IsFullFor}
use Rattle.searches_explore.specs.declared.fault.Fault.{Fault}
use Rattle.searches_explore.specs.declared.fault.Fault.TheVariants.{Trapped, Broken}
use Rattle.searches_hunt.specs.Never.{IsMinimalBroken, IsMinimalTrapped}
use Rattle.searches_explore.specs.BySteps.{TellsBy}
use Rattle.searches_explore.specs.declared.exploring.StepKind.{StepKind}
use Rattle.searches_explore.proofs.Offered.{first_breaks}
use Rattle.ticklab_line.specs.declared.commands.Steps.{Steps}
use Rattle.ticklab_verdicts.specs.BySteps.{BrokenBy, FoundBy, LimitBy, SafeBy, SeesBy, TrapBy, begins_merged, break_line_by, kind_of, line_by}
use Rattle.ticklab_verdicts.specs.Found.{IsFoundBy, IsFoundFirst, IsFoundWithin, IsQuiet, MeetsLimit, TellsFault, TellsLimit, TellsSafe, broken, fault, first_safe, first_unknown, safe, trapped, unknown}
use Rattle.ticklab_verdicts.specs.Hearing.{Heard, HearsOf, IsHeard, IsSearchHeard, IsSearchHeardToEnd, hearing}
use Rattle.ticklab_verdicts.specs.Shown.{SaysFault, Shows, ShowsLimit, ShowsSafe}
use Rattle.ticklab_verdicts.specs.Sought.{sought_by}
use Rattle.ticklab_verdicts.specs.declared.search.Search.{Search}
use Rattle.ticklab_files.specs.declared.response.Response.{Response}
use Rattle.ticklab_verdicts.specs.prover.Searches.{AreHeardFor, IsKnownBy, IsSearchedBy}
use Rattle.ticklab_verdicts.proofs.Heard.{began, heard_as}
use Rattle.ticklab_verdicts.proofs.Placed.{held_of, program_of}
use Rattle.ticklab_verdicts.proofs.Within.{lawful_by, within_by}
use Rattle.ticklab_verdicts.proofs.Within.{line_within}

-- what is known of it
pub known_as : {E : Type 0} (m : Bool) (a : WholeProgram ℕ) (lines : List Property) (limits : Limits) (e : Verdict Fault E) → IfTrapped e (TrapBy m a (lines_of lines))
    → IfBroken e (BrokenBy m a (lines_of lines)) → IfFaultIn e (FoundBy m a (lines_of lines)) → IfFaultIn e (λ states _. states ≤ limits.states)
    → IfSafe e (SafeBy m a (lines_of lines) limits) → IfLimit e (LimitBy m a (lines_of lines) limits) → IsKnownBy m a lines limits e
known_as m a lines limits e traps breaks seen few never full = record {
  trapped = traps;
  broken = breaks;
  seen = seen;
  few = few;
  safe = never;
  at_limit = full;
  lawful = lawful_by a lines m e traps breaks;
  within = within_by a lines m e breaks;
}

-- a search that began, by steps of this kind, of lines that are these
pub searched_as : {W E : Type 0} (begins finds : W → Bool → W → Type 0) (sees : W → ℕ → ℕ → ℕ → W → Type 0) (before between after : W) (m n : Bool) → n ≡ m
    → (a : WholeProgram ℕ) (given lines : List Property) → given ≡ lines → (limits : Limits) (e : Verdict Fault E) → begins before n between
    → IfTrapped e (TrapBy m a (lines_of given)) → IfBroken e (BrokenBy m a (lines_of given))
    → IfFaultIn e (FoundBy m a (lines_of given)) → IfFaultIn e (λ states _. states ≤ limits.states)
    → IfSafe e (SafeBy m a (lines_of given) limits) → IfLimit e (LimitBy m a (lines_of given) limits)
    → IsWatched sees between after (AreToldFor a (SeesBy m a (lines_of given)) limits e) → IsSearchedBy n a lines limits (hearing begins finds sees) before after e
searched_as begins finds sees before between after m n same a given lines held limits e first traps breaks seen few never full watched =
    subst (λ (k : Bool). IsSearchedBy k a lines limits (hearing begins finds sees) before after e) (sym same)
    (subst (λ (asked : List Property). IsSearchedBy m a asked limits (hearing begins finds sees) before after e) held (record {
      known = known_as m a given limits e traps breaks seen few never full;
      watched = began begins finds sees before between after m n same a given limits e first watched;
    }))

-- what an exploration by steps of this kind tells
module _ {W E : Type 0} (begins finds : W → Bool → W → Type 0) (sees : W → ℕ → ℕ → ℕ → W → Type 0) (before between after : W)
    (a : WholeProgram ℕ) (given lines : List Property) (held : given ≡ lines) (limits : Limits) (e : Verdict Fault E) where
  pub told_so : (m : Bool) → begins before m between → TellsBy a (lines_of given) limits sees between after (kind_of m) e
      → IsSearchedBy m a lines limits (hearing begins finds sees) before after e
  told_so false first told =
      searched_as begins finds sees before between after false false refl a given lines held limits e first told.trapped told.broken told.seen told.few told.safe told.at_limit told.watched
  told_so true first told =
      searched_as begins finds sees before between after true true refl a given lines held limits e first told.trapped told.broken told.seen told.few told.safe told.at_limit told.watched

  -- the first search of an `explore` by these steps
  pub told_by_steps : (steps : Steps) (m : Bool) (kind : StepKind) → m ≡ begins_merged steps → kind ≡ kind_of m → begins before m between
      → TellsBy a (lines_of given) limits sees between after kind e
      → IsSearchedBy (begins_merged steps) a lines limits (hearing begins finds sees) before after e
  told_by_steps steps m kind is same first told =
      subst (λ (k : Bool). IsSearchedBy k a lines limits (hearing begins finds sees) before after e) is
      (told_so m first (subst (λ (k : StepKind). TellsBy a (lines_of given) limits sees between after k e) same told))

-- a line that is broken, or a process that traps, is a fault
module _ (a : WholeProgram ℕ) (lines : List Property) where
  trap_is_fault : (s : SourceState) → has_trapped s ≡ true → is_fault (lines_of lines) s ≡ true
  trap_is_fault s is = or_right (breaks (lines_of lines) s) (has_trapped s) is

  break_is_fault : (s : SourceState) (line : ℕ) (v : Valued) → IsFirstBroken (lines_of lines) s line v → is_fault (lines_of lines) s ≡ true
  break_is_fault s line v is = ap (λ (b : Bool). b || has_trapped s) (first_breaks (lines_of lines) s line v is) ∙ true-or (has_trapped s)

  -- what is found by steps of either kind
  pub fault_by : {E : Type 0} (m : Bool) (limits : Limits) (e : Verdict Fault E) → IsKnownBy m a lines limits e
      → IfFault e (λ schedule. is_fault (lines_of lines) (source a schedule) ≡ true)
  fault_by false limits (Found seen (Trapped s)) known = trap_is_fault (source a s.items) known.trapped.traps
  fault_by true limits (Found seen (Trapped s)) known = trap_is_fault (source a s.items) known.trapped.traps
  fault_by false limits (Found seen (Broken s line v)) known = break_is_fault (source a s.items) line v known.broken.broken.first
  fault_by true limits (Found seen (Broken s line v)) known = break_is_fault (source a s.items) line v known.broken.first
  fault_by m limits (Nowhere states k) known = tt
  fault_by m limits (Limit states) known = tt

  -- of what needs all its steps
  pub minimal_lawful : (k : Fault) → IfTraps k (IsMinimalTrapped a (lines_of lines)) → IfBreaks k (IsMinimalBroken a (lines_of lines))
      → All (λ p. p < a.processes) (schedule_of k).items
  minimal_lawful (Trapped s) traps breaks = traps.lawful
  minimal_lawful (Broken s line v) traps breaks = breaks.broken.lawful

  pub minimal_within : (k : Fault) → IfBreaks k (IsMinimalBroken a (lines_of lines)) → IfBreaks k (λ schedule line v. line < length lines)
  minimal_within (Trapped s) breaks = tt
  minimal_within (Broken s line v) breaks = line_within a lines _ line v breaks.broken.first

-- what holds of the schedule of a fault
pub of_fault : {E : Type 0} (P : List ℕ → Type 0) (e : Verdict Fault E) (states : ℕ) (f : Fault) → e ≡ Found states f → IfFault e P → P (schedule_of f).items
of_fault P e states f is held = subst (λ d. IfFault d P) is held

-- and of its line
pub of_line : {E : Type 0} (P : List ℕ → ℕ → Valued → Type 0) (e : Verdict Fault E) (states : ℕ) (f : Fault) → e ≡ Found states f → IfBroken e P → IfBreaks f P
of_line P e states f is held = subst (λ d. IfBroken d P) is held

module _ (q : Search) (limits : Limits) where
  -- so far a search is heard, of which this is known
  pub on_the_way : {E : Type 0} {m : Bool} {e : Verdict Fault E} {heard : List Heard} (gone : ℕ) (on : AreHeardFor m (program_of q) (held_of q) limits e heard)
      → AreTold (SeesBy m (program_of q) (lines_of (held_of q))) (AreBytesFor (program_of q)) gone on.told → IsSearchHeard m (program_of q) (lines_of (held_of q)) gone heard
  on_the_way gone on are = record { told = on.told; are = are; whole = on.whole }

  -- and so to its end
  to_the_end : {E : Type 0} {m : Bool} {e : Verdict Fault E} {heard : List Heard} (held : ℕ → Type 0) (below states gone : ℕ) (on : AreHeardFor m (program_of q) (held_of q) limits e heard)
      → AreToldToEnd (SeesBy m (program_of q) (lines_of (held_of q))) (AreBytesFor (program_of q)) held below states gone on.told
      → IsSearchHeardToEnd m (program_of q) (lines_of (held_of q)) held below states gone heard
  to_the_end held below states gone on are = record { told = on.told; are = are; whole = on.whole }

  -- a fault was found in so many states
  found_within : {E : Type 0} (m : Bool) (states : ℕ) (f : Fault) (heard : List Heard) → IsKnownBy {E = E} m (program_of q) (held_of q) limits (Found states f)
      → AreHeardFor {E = E} m (program_of q) (held_of q) limits (Found states f) heard
      → IsFoundWithin m (program_of q) (lines_of (held_of q)) limits (schedule_of f).items heard
  found_within m states f heard known on = record {
    states = states;
    seen = known.seen;
    few = known.few;
    gone = on.are.0;
    on_the_way = on_the_way on.are.0 on on.are.1;
  }

  pub fault_told : {E : Type 0} (m : Bool) (states : ℕ) (f : Fault) (x : Response) (heard : List Heard) → IsKnownBy {E = E} m (program_of q) (held_of q) limits (Found states f)
      → SaysFault (line_by m) (break_line_by m) (sought_by q) f x → AreHeardFor {E = E} m (program_of q) (held_of q) limits (Found states f) heard
      → TellsFault (sought_by q) limits m x heard
  fault_told m states (Trapped s) x heard known shows on = trapped s.items known.trapped (found_within m states (Trapped s) heard known on) shows
  fault_told m states (Broken s line v) x heard known shows on = broken s.items line v known.broken (found_within m states (Broken s line v) heard known on) shows

  pub quiet_told : {E : Type 0} {k : E} (m : Bool) (states : ℕ) (heard : List Heard) → SafeBy m (program_of q) (lines_of (held_of q)) limits states
      → AreHeardFor m (program_of q) (held_of q) limits (Nowhere states k) heard → IsQuiet m (program_of q) (lines_of (held_of q)) limits states heard
  quiet_told m states heard never on = record { safe = never; on_the_way = to_the_end (AreBytesFor (program_of q) states states) states states states on on.are }

  safe_told : {E : Type 0} {k : E} (m : Bool) (states : ℕ) (x : Response) (heard : List Heard) → SafeBy m (program_of q) (lines_of (held_of q)) limits states
      → ShowsSafe (sought_by q) m states x → AreHeardFor m (program_of q) (held_of q) limits (Nowhere states k) heard
      → TellsSafe (sought_by q) limits m x heard
  safe_told m states x heard never shows on = record {
    states = states;
    quiet = quiet_told m states heard never on;
    shown = shows;
  }

  pub meets_limit : {E : Type 0} (m : Bool) (states : ℕ) (heard : List Heard) → LimitBy m (program_of q) (lines_of (held_of q)) limits states
      → AreHeardFor {E = E} m (program_of q) (held_of q) limits (Limit states) heard → MeetsLimit m (program_of q) (lines_of (held_of q)) limits states heard
  meets_limit m states heard full on = record { more = full; gone = on.are.0; on_the_way = to_the_end (IsFullFor (program_of q) limits states on.are.0) (on.are.0 + 1) states on.are.0 on on.are.1 }

  pub limit_told : {E : Type 0} (m : Bool) (states : ℕ) (x : Response) (heard : List Heard) → LimitBy m (program_of q) (lines_of (held_of q)) limits states
      → ShowsLimit (sought_by q) m limits states x → AreHeardFor {E = E} m (program_of q) (held_of q) limits (Limit states) heard
      → TellsLimit (sought_by q) limits m x heard
  limit_told m states x heard full shows on = record { states = states; meets = meets_limit m states heard full on; shown = shows }

  told_by : (m : Bool) (e : Verdict Fault (Unit {0})) (x : Response) (heard : List Heard) → IsKnownBy m (program_of q) (held_of q) limits e
      → Shows m (sought_by q) limits e x → AreHeardFor m (program_of q) (held_of q) limits e heard → IsFoundBy (sought_by q) limits m x heard
  told_by m (Found states f) x heard known shows on = fault (fault_told m states f x heard known shows on)
  told_by m (Nowhere states k) x heard known shows on = safe (safe_told m states x heard known.safe shows on)
  told_by m (Limit states) x heard known shows on = unknown (limit_told m states x heard known.at_limit shows on)

  -- the search came to this
  module _ {E W : Type 0} (hears : HearsOf W) (m : Bool) (before after : W) (e d : Verdict Fault E) (is : e ≡ d) where
    pub searched_is : IsSearchedBy m (program_of q) (held_of q) limits hears before after e → IsSearchedBy m (program_of q) (held_of q) limits hears before after d
    searched_is searched = subst (λ v. IsSearchedBy m (program_of q) (held_of q) limits hears before after v) is searched

  module _ {W : Type 0} (hears : HearsOf W) (before after : W) where
    pub found_as : (m : Bool) (e : Verdict Fault (Unit {0})) (x : Response) → IsSearchedBy m (program_of q) (held_of q) limits hears before after e
        → Shows m (sought_by q) limits e x → IsHeard hears before after (IsFoundBy (sought_by q) limits m x)
    found_as m e x searched shows = heard_as hears before after (λ heard on. told_by m e x heard searched.known shows on) searched.watched

    module _ {E : Type 0} where
      pub safe_first : (states : ℕ) (k : E) (x : Response) → IsSearchedBy true (program_of q) (held_of q) limits hears before after (Nowhere states k)
          → ShowsSafe (sought_by q) true states x → IsHeard hears before after (IsFoundFirst (sought_by q) limits x)
      safe_first states k x searched shows =
          heard_as hears before after (λ heard on. first_safe (safe_told true states x heard searched.known.safe shows on)) searched.watched

      pub limit_first : (states : ℕ) (x : Response) → IsSearchedBy {E = E} true (program_of q) (held_of q) limits hears before after (Limit states)
          → ShowsLimit (sought_by q) true limits states x → IsHeard hears before after (IsFoundFirst (sought_by q) limits x)
      limit_first states x searched shows =
          heard_as hears before after (λ heard on. first_unknown (limit_told true states x heard searched.known.at_limit shows on)) searched.watched

      -- where there is a fault
      pub none_missed : (states : ℕ) (k : E) → IsSearchedBy false (program_of q) (held_of q) limits hears before after (Nowhere states k)
          → (schedule : List ℕ) → is_fault (lines_of (held_of q)) (source (program_of q) schedule) ≡ true → ⊥
      none_missed states k searched schedule wrong = false≢true (sym (searched.known.safe.never schedule) ∙ wrong)
