-- How far single steps look for a shorter schedule than the one that merged steps have found.
use Rattle.std.specs.Prelude.{◌==◌, ◌&&◌, ◌*◌, ℕ, Bool, true, false, max, min, nat_lt}
use Rattle.searches_states.specs.declared.limits.Limits.{Limits}
use Rattle.searches_explore.specs.declared.fault.Fault.{Fault}
use Rattle.searches_explore.specs.declared.fault.Fault.TheVariants.{Trapped, Broken}

-- They see at most twice as many states as merged steps have seen, or 1,000,000 where that is more; and never more than the
-- limit.
abbrev pub most_states : Limits → ℕ → ℕ
most_states limits merged = min limits.states (max 1000000 (2 * merged))

abbrev pub limits_within : Limits → ℕ → Limits
limits_within limits merged = record { states = most_states limits merged; bytes = limits.bytes }

-- whether nothing but this bound has stopped them, where there are more states than these
abbrev pub is_bounded : Limits → ℕ → ℕ → Bool
is_bounded limits merged states = (states == most_states limits merged) && nat_lt states limits.states

-- whether a line breaks
abbrev pub is_break : Fault → Bool
is_break (Trapped schedule) = false
is_break (Broken schedule line v) = true
