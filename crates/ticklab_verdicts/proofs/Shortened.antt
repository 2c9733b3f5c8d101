-- What an answer says where merged steps have found a fault, and single ones look for a shorter schedule (`both_first`).
-- The idea. Single steps can't answer that there is no fault, since one is known (`fault_by`, `none_missed` of
-- `Searched.antt`). If they meet a limit or their bound, the answer tells a schedule that needs all its steps
-- (`minimal_as`). The watch hears the first search, then which fault was found, and then the second search (`told_both`).
-- Read `shortest_as` first, then `minimal_as` and `both_first`.
use Rattle.std.proofs.Common.{◌≡◌, ℕ, Bool, true, false, List, ◌∷◌, ◌++◌, refl}
use Rattle.searches_states.specs.declared.limits.Limits.{Limits}
use Rattle.searches_states.specs.declared.verdict.Verdict.TheVariants.{Found, Limit}
use Rattle.searches_explore.specs.Lines.{lines_of}
use Rattle.searches_explore.specs.Never.{IfBreaks, IfTraps, schedule_of}
use Rattle.searches_explore.specs.declared.fault.Fault.{Fault}
use Rattle.searches_explore.specs.declared.fault.Fault.TheVariants.{Trapped, Broken}
use Rattle.searches_hunt.specs.Never.{IsMinimalBroken, IsMinimalTrapped}
use Rattle.ticklab_verdicts.specs.BySteps.{LimitBy, break_line_by, line_by}
use Rattle.ticklab_verdicts.specs.Found.{IsFaultOf, IsFoundFirst, TellsBoth, TellsOn, TellsShorter, first_fault, minimal_break, minimal_trap, shortest}
use Rattle.ticklab_verdicts.specs.Hearing.{Heard, HearsOf, IsHeard, fault_found}
use Rattle.ticklab_verdicts.specs.Lines.{minimal_break_line_by, minimal_line_by}
use Rattle.ticklab_verdicts.specs.Shorter.{is_bounded, is_break, limits_within}
use Rattle.ticklab_verdicts.specs.Shown.{SaysFault}
use Rattle.ticklab_verdicts.specs.Sought.{sought_by}
use Rattle.ticklab_verdicts.specs.declared.search.Search.{Search}
use Rattle.ticklab_files.specs.declared.response.Response.{Response}
use Rattle.ticklab_verdicts.specs.prover.Searches.{AreHeardFor, IsKnownBy, IsSearchedBy}
use Rattle.ticklab_verdicts.proofs.Heard.{heard_as, heard_then}
use Rattle.ticklab_verdicts.proofs.Placed.{held_of, program_of}
use Rattle.ticklab_verdicts.proofs.Searched.{fault_told, meets_limit, on_the_way}

module _ (q : Search) (limits : Limits) where
  told_minimal : {E : Type 0} (merged states : ℕ) (k : Fault) (x : Response) (heard : List Heard)
      → LimitBy false (program_of q) (lines_of (held_of q)) (limits_within limits merged) states
      → IfTraps k (IsMinimalTrapped (program_of q) (lines_of (held_of q))) → IfBreaks k (IsMinimalBroken (program_of q) (lines_of (held_of q)))
      → SaysFault (minimal_line_by (is_bounded limits merged states)) (minimal_break_line_by (is_bounded limits merged states)) (sought_by q) k x
      → AreHeardFor {E = E} false (program_of q) (held_of q) (limits_within limits merged) (Limit states) heard
      → TellsShorter (sought_by q) limits merged x heard
  told_minimal merged states (Trapped s) x heard full traps breaks shows on =
      minimal_trap states (meets_limit q (limits_within limits merged) false states heard full on) s.items traps shows
  told_minimal merged states (Broken s line v) x heard full traps breaks shows on =
      minimal_break states (meets_limit q (limits_within limits merged) false states heard full on) s.items line v breaks shows

  -- the fault that merged steps have found
  fault_of : {E : Type 0} (states : ℕ) (f : Fault) → IsKnownBy {E = E} true (program_of q) (held_of q) limits (Found states f)
      → IsFaultOf (is_break f) (program_of q) (lines_of (held_of q)) (schedule_of f).items
  fault_of states (Trapped s) known = known.trapped
  fault_of states (Broken s line v) known = (line, (v, known.broken))

  -- by merged steps as far as they find a fault, and then by single ones
  pub told_both : {E : Type 0} (states : ℕ) (f : Fault) (x : Response) (first more : List Heard)
      → IsKnownBy {E = E} true (program_of q) (held_of q) limits (Found states f)
      → AreHeardFor {E = E} true (program_of q) (held_of q) limits (Found states f) first
      → TellsOn (sought_by q) limits (is_break f) states x more → TellsBoth (sought_by q) limits x (first ++ more)
  told_both states f x first more known on single = record {
    is_break = is_break f;
    schedule = (schedule_of f).items;
    fault = fault_of states f known;
    first = first;
    merged = record {
      states = states;
      seen = known.seen;
      few = known.few;
      gone = on.are.0;
      on_the_way = on_the_way q limits on.are.0 on on.are.1;
    };
    more = more;
    single = single;
    whole = refl;
  }

  module _ {W : Type 0} (hears : HearsOf W) (before after : W) where
    module _ {E : Type 0} (merged : ℕ) where
      pub shortest_as : (states : ℕ) (f : Fault) (x : Response)
          → IsSearchedBy {E = E} false (program_of q) (held_of q) (limits_within limits merged) hears before after (Found states f)
          → SaysFault (line_by false) (break_line_by false) (sought_by q) f x → IsHeard hears before after (TellsShorter (sought_by q) limits merged x)
      shortest_as states f x searched shows =
          heard_as hears before after (λ heard on. shortest (fault_told q (limits_within limits merged) false states f x heard searched.known shows on)) searched.watched

      pub minimal_as : (states : ℕ) (k : Fault) (x : Response)
          → IsSearchedBy {E = E} false (program_of q) (held_of q) (limits_within limits merged) hears before after (Limit states)
          → IfTraps k (IsMinimalTrapped (program_of q) (lines_of (held_of q))) → IfBreaks k (IsMinimalBroken (program_of q) (lines_of (held_of q)))
          → SaysFault (minimal_line_by (is_bounded limits merged states)) (minimal_break_line_by (is_bounded limits merged states)) (sought_by q) k x
          → IsHeard hears before after (TellsShorter (sought_by q) limits merged x)
      minimal_as states k x searched traps breaks shows =
          heard_as hears before after (λ heard on. told_minimal merged states k x heard searched.known.at_limit traps breaks shows on) searched.watched

    -- the watch is told before which fault it is
    pub told_on : (merged : ℕ) (between : W) (breaks : Bool) (x : Response) → hears before (fault_found breaks) between
        → IsHeard hears between after (TellsShorter (sought_by q) limits merged x) → IsHeard hears before after (TellsOn (sought_by q) limits breaks merged x)
    told_on merged between breaks x first single = record {
      heard = fault_found breaks ∷ single.heard;
      is = (between, first, single.is);
      lawful = record { more = single.heard; single = single.lawful; whole = refl };
    }

    pub both_first : {E : Type 0} (between : W) (states : ℕ) (f : Fault) (x : Response)
        → IsSearchedBy {E = E} true (program_of q) (held_of q) limits hears before between (Found states f)
        → IsHeard hears between after (TellsOn (sought_by q) limits (is_break f) states x)
        → IsHeard hears before after (IsFoundFirst (sought_by q) limits x)
    both_first between states f x searched single =
        heard_then hears before between after (λ first more on then. first_fault (told_both states f x first more searched.known on then)) searched.watched single
