-- What an answer of `explore --ends` says, from what was explored and what the answer shows of it: by steps of one kind
-- (`ends_found_as`), and by merged steps first (`unknown_first`, `fault_first`, `quiet_first`).
-- The idea is that of `Searched.antt`: by cases of what was explored. A fault and a limit are told as there. Where
-- nothing is wrong and all states were seen, `told_known` has the answers about ends: under fair schedules first
-- (`told_ends`), then by own steps (`told_own`). Steps of both kinds know the same of them, but that a stuck schedule is a
-- shortest only by single steps (`StuckBy`).
-- Read `told_known` first, then `told_by` and `quiet_first`.
use Rattle.std.proofs.Common.{◌≡◌, ◌<◌, ℕ, Bool, true, false, List, All, Option, length, refl, subst, sym}
use Rattle.std.proofs.lemmas.List.Elements.{All-replicate}
use Rattle.base.specs.Plain.{Name, WholeProgram}
use Rattle.tick_kinds.specs.Resolution.{resolved}
use Rattle.searches_states.specs.declared.limits.Limits.{Limits}
use Rattle.searches_states.specs.declared.must_stop.MustStop.{MustStop}
use Rattle.searches_states.specs.declared.verdict.Verdict.{Verdict}
use Rattle.searches_states.specs.declared.verdict.Verdict.TheVariants.{Found, Nowhere, Limit}
use Rattle.searches_states.proofs.Offered.{known_weaker}
use Rattle.searches_fairness.specs.declared.liveness.Liveness.{Liveness}
use Rattle.searches_fairness.specs.declared.liveness.Liveness.TheVariants.{Stuck, Endless, Ends}
use Rattle.searches_wait_free.specs.declared.answer.OwnSteps.{OwnSteps}
use Rattle.searches_wait_free.specs.declared.answer.OwnSteps.TheVariants.{Stop, ForEver}
use Rattle.searches_explore.specs.BySteps.{KnowsAlone, KnowsEnds, KnowsFair, KnowsFairAs, KnowsWaitFree}
use Rattle.searches_explore.specs.Ending.{CanAlwaysEnd, EndsIfFair}
use Rattle.searches_explore.specs.declared.conditions.Conditions.{Conditions}
use Rattle.searches_explore.specs.declared.conditions.Known.{Known}
use Rattle.searches_explore.specs.Lines.{lines_of}
use Rattle.searches_explore.specs.Never.{IfKnown, searched_of}
use Rattle.searches_explore.specs.declared.fault.Fault.{Fault}
use Rattle.ticklab_line.specs.declared.commands.Steps.{Steps}
use Rattle.ticklab_files.specs.Asking.{IsOf, TextPlace}
use Rattle.ticklab_verdicts.specs.BySteps.{SafeBy, StuckBy, kind_of}
use Rattle.ticklab_verdicts.specs.Ends.{IsEndsFound, IsEndsFoundBy, IsEndsFoundFirst, IsEndsRefused, IsPast, TellsEnds, endless, ends, ends_fault, ends_unknown, first_fault, first_quiet, first_unknown, no_fault, no_process, not_alone, not_wait_free, stuck}
use Rattle.ticklab_verdicts.specs.Found.{IsQuiet, TellsOn}
use Rattle.ticklab_verdicts.specs.Hearing.{Heard, HearsOf, IsHeard}
use Rattle.ticklab_verdicts.specs.Shorter.{is_break}
use Rattle.ticklab_verdicts.specs.Shown.{ShowsEnds, ShowsKnown, ShowsKnownBy, ShowsLimit, ShowsOwn}
use Rattle.ticklab_verdicts.specs.Sought.{Sought, sought_by}
use Rattle.ticklab_verdicts.specs.declared.search.Search.{Search}
use Rattle.ticklab_files.specs.declared.response.Response.{Response}
use Rattle.ticklab_verdicts.specs.prover.Searches.{AreEndsKnownBy, AreEndsSearchedBy, AreHeardFor, IsFairShowable, IsKnownBy, IsOwnShowable, IsShowable}
use Rattle.ticklab_verdicts.proofs.Heard.{heard_as, heard_then}
use Rattle.ticklab_verdicts.proofs.Placed.{held_of, placed, program_of}
use Rattle.ticklab_verdicts.proofs.Searched.{fault_told, limit_told, quiet_told}
use Rattle.ticklab_verdicts.proofs.Shortened.{told_both}

-- What is known of ends is enough to show it.
module _ (q : Search) (asked : Conditions) where
  stuck_by : (k : Bool) (s : List ℕ) → StuckBy k (program_of q) asked.fair s → All (λ p. p < (program_of q).processes) s
  stuck_by false s is = is.lawful
  stuck_by true s is = is.lawful

  fair_showable : (m : Bool) (l : Liveness) → KnowsFairAs (program_of q) asked.fair (StuckBy m (program_of q) asked.fair) l → IsFairShowable q l
  fair_showable m (Stuck s lead_in cycle) known = (stuck_by m s.items known.stuck, known.loops.lead_in_lawful, known.loops.cycle_lawful)
  fair_showable m (Endless prefix cycle) known = (known.endless.prefix_lawful, known.endless.cycle_lawful)
  fair_showable m Ends known = tt

  wait_free_showable : (o : OwnSteps) → KnowsWaitFree (program_of q) asked.wait_free o → IsOwnShowable q o
  wait_free_showable (ForEver p prefix cycle) known = (known.endless.lasso.prefix_lawful, known.endless.lasso.cycle_lawful)
  wait_free_showable Stop known = tt

  alone_showable : (o : OwnSteps) → KnowsAlone (program_of q) asked.alone o → IsOwnShowable q o
  alone_showable (ForEver p prefix cycle) known = (
    known.endless.lawful,
    subst (All (λ r. r < (program_of q).processes)) (sym known.endless.own) (All-replicate (λ r. r < (program_of q).processes) (length cycle.items) p known.endless.process),
  )
  alone_showable Stop known = tt

  pub showable : (m : Bool) (k : Known) → AreEndsKnownBy m (program_of q) asked k → IsShowable q k
  showable m k known = record {
    fair = fair_showable m k.fair known.fair;
    wait_free = wait_free_showable k.wait_free known.wait_free;
    alone = alone_showable k.alone known.alone;
  }

  pub showable_if : (m : Bool) (e : Verdict Fault Known) → IfKnown e (AreEndsKnownBy m (program_of q) asked) → IfKnown e (IsShowable q)
  showable_if m e known = known_weaker (searched_of e) (AreEndsKnownBy m (program_of q) asked) (IsShowable q) (showable m) known

-- what a search has of ends, by steps of this kind
fair_by : (m : Bool) (a : WholeProgram ℕ) (asked : MustStop) (l : Liveness) → KnowsFair a asked (kind_of m) l → KnowsFairAs a asked (StuckBy m a asked) l
fair_by false a asked l is = is
fair_by true a asked l is = is

known_by : (m : Bool) (a : WholeProgram ℕ) (asked : Conditions) (k : Known) → KnowsEnds a asked (kind_of m) k → AreEndsKnownBy m a asked k
known_by m a asked k is = record { fair = fair_by m a asked.fair k.fair is.fair; wait_free = is.wait_free; alone = is.alone }

pub known_if : (m : Bool) (a : WholeProgram ℕ) (asked : Conditions) (e : Verdict Fault Known) → IfKnown e (KnowsEnds a asked (kind_of m)) → IfKnown e (AreEndsKnownBy m a asked)
known_if m a asked e is = known_weaker (searched_of e) (KnowsEnds a asked (kind_of m)) (AreEndsKnownBy m a asked) (known_by m a asked) is

module _ (q : Search) (limits : Limits) (asked : Conditions) where
  -- nothing is wrong, all states were seen, and they end under fair schedules
  told_own : (m : Bool) (states : ℕ) (o r : OwnSteps) (x : Response) (heard : List Heard) → CanAlwaysEnd (program_of q) asked.fair → EndsIfFair (program_of q) asked.fair
      → KnowsWaitFree (program_of q) asked.wait_free o → KnowsAlone (program_of q) asked.alone r → ShowsOwn m asked (sought_by q) states o r x
      → IsQuiet m (program_of q) (lines_of (held_of q)) limits states heard → TellsEnds (sought_by q) limits asked m x heard
  told_own m states (ForEver p prefix cycle) r x heard can fair free alone shows quiet =
      not_wait_free p prefix.items cycle.items states can fair free.endless free.for_ever quiet shows
  told_own m states Stop (ForEver p prefix cycle) x heard can fair free alone shows quiet =
      not_alone p prefix.items cycle.items states can fair free.ends alone.endless alone.for_ever quiet shows
  told_own m states Stop Stop x heard can fair free alone shows quiet = ends states can fair free.ends alone.ends quiet shows

  -- nothing is wrong, and all states were seen
  told_ends : (m : Bool) (states : ℕ) (l : Liveness) (o r : OwnSteps) (x : Response) (heard : List Heard)
      → KnowsFairAs (program_of q) asked.fair (StuckBy m (program_of q) asked.fair) l
      → KnowsWaitFree (program_of q) asked.wait_free o → KnowsAlone (program_of q) asked.alone r → ShowsKnownBy m asked (sought_by q) states l o r x
      → IsQuiet m (program_of q) (lines_of (held_of q)) limits states heard → TellsEnds (sought_by q) limits asked m x heard
  told_ends m states (Stuck s lead_in cycle) o r x heard known free alone shows quiet =
      stuck s.items lead_in.items cycle.items states known.stuck known.loops quiet shows
  told_ends m states (Endless prefix cycle) o r x heard known free alone shows quiet =
      endless prefix.items cycle.items states known.can known.endless known.for_ever quiet shows
  told_ends m states Ends o r x heard known free alone shows quiet = told_own m states o r x heard known.can known.ends free alone shows quiet

  told_known : (m : Bool) (states : ℕ) (k : Known) (x : Response) (heard : List Heard) → SafeBy m (program_of q) (lines_of (held_of q)) limits states
      → AreEndsKnownBy m (program_of q) asked k → ShowsKnown m asked (sought_by q) states k x
      → AreHeardFor m (program_of q) (held_of q) limits (Nowhere states k) heard → TellsEnds (sought_by q) limits asked m x heard
  told_known m states k x heard safe known shows on =
      told_ends m states k.fair k.wait_free k.alone x heard known.fair known.wait_free known.alone shows (quiet_told q limits m states heard safe on)

  told_by : (m : Bool) (e : Verdict Fault Known) (x : Response) (heard : List Heard) → IsKnownBy m (program_of q) (held_of q) limits e
      → IfKnown e (AreEndsKnownBy m (program_of q) asked) → ShowsEnds m asked (sought_by q) limits e x
      → AreHeardFor m (program_of q) (held_of q) limits e heard → IsEndsFoundBy (sought_by q) limits asked m x heard
  told_by m (Found states f) x heard is known shows on = ends_fault (fault_told q limits m states f x heard is shows on)
  told_by m (Nowhere states k) x heard is known shows on = no_fault (told_known m states k x heard is.safe known shows on)
  told_by m (Limit states) x heard is known shows on = ends_unknown (limit_told q limits m states x heard is.at_limit shows on)

  module _ {W : Type 0} (hears : HearsOf W) (before after : W) where
    -- the search came to this
    pub ends_searched_is : (m : Bool) (e d : Verdict Fault Known) → e ≡ d → AreEndsSearchedBy m (program_of q) (held_of q) asked limits hears before after e
        → AreEndsSearchedBy m (program_of q) (held_of q) asked limits hears before after d
    ends_searched_is m e d is searched = subst (λ v. AreEndsSearchedBy m (program_of q) (held_of q) asked limits hears before after v) is searched

    pub ends_found_as : (m : Bool) (e : Verdict Fault Known) (x : Response) → AreEndsSearchedBy m (program_of q) (held_of q) asked limits hears before after e
        → ShowsEnds m asked (sought_by q) limits e x → IsHeard hears before after (IsEndsFoundBy (sought_by q) limits asked m x)
    ends_found_as m e x is shows = heard_as hears before after (λ heard on. told_by m e x heard is.searched.known is.known shows on) is.searched.watched

    pub unknown_first : (states : ℕ) (x : Response) → AreEndsSearchedBy true (program_of q) (held_of q) asked limits hears before after (Limit states)
        → ShowsLimit (sought_by q) true limits states x → IsHeard hears before after (IsEndsFoundFirst (sought_by q) limits asked x)
    unknown_first states x is shows =
        heard_as hears before after (λ heard on. first_unknown (limit_told q limits true states x heard is.searched.known.at_limit shows on)) is.searched.watched

    pub fault_first : (between : W) (states : ℕ) (f : Fault) (x : Response)
        → AreEndsSearchedBy true (program_of q) (held_of q) asked limits hears before between (Found states f)
        → IsHeard hears between after (TellsOn (sought_by q) limits (is_break f) states x) → IsHeard hears before after (IsEndsFoundFirst (sought_by q) limits asked x)
    fault_first between states f x is single =
        heard_then hears before between after (λ first more on then. first_fault (told_both q limits states f x first more is.searched.known on then)) is.searched.watched single

    pub quiet_first : (states : ℕ) (k : Known) (x : Response) → AreEndsSearchedBy true (program_of q) (held_of q) asked limits hears before after (Nowhere states k)
        → ShowsKnown true asked (sought_by q) states k x → IsHeard hears before after (IsEndsFoundFirst (sought_by q) limits asked x)
    quiet_first states k x is shows =
        heard_as hears before after (λ heard on. first_quiet (told_known true states k x heard is.searched.known.safe is.known shows on)) is.searched.watched

-- what is found, where the places and who is asked for are these
pub ends_moved : {W : Type 0} (hears : HearsOf W) (before after : W) (steps : Steps) (s : Sought) (places others : List TextPlace)
    (asked other : Conditions) (limits : Limits) (x : Response) (P : List Heard → Type 0)
    → places ≡ others → asked ≡ other → ((heard : List Heard) → IsEndsFound (placed s others) limits other steps x heard → P heard)
    → IsHeard hears before after (IsEndsFound (placed s places) limits asked steps x) → IsHeard hears before after P
ends_moved hears before after steps s places others asked other limits x P same_places same_asked f found =
    heard_as hears before after (λ heard on. f heard
    (subst (λ (to : Conditions). IsEndsFound (placed s others) limits to steps x heard) same_asked
    (subst (λ (at : List TextPlace). IsEndsFound (placed s at) limits asked steps x heard) same_places on))) found

-- the report of a process that there isn't
pub past_told : {W : Type 0} (before : W) (name : List ℕ) (texts : List (List ℕ)) (process : Option ℕ) (input : List ℕ) (p : WholeProgram Name) → IsOf input p → (n : ℕ) → n ≡ (resolved p).processes
    → (report : List ℕ) → IsPast n process report → IsEndsRefused name texts process input report × (before ≡ before)
past_told before name texts process input p is n same report past =
    (no_process is.0 (subst (λ q. IsPast (resolved q).processes process report) is.1 (subst (λ k. IsPast k process report) same past)), refl)
