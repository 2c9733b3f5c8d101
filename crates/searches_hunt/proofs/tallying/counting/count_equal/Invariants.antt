use Rattle.std.proofs.Common.{◌≡◌, ◌≤◌, length, map, String, string_eq}
use Rattle.std.specs.Global.{Global}
use Rattle.std.specs.List.{All, count_by, dedup, sum_by}
use Rattle.searches_hunt.specs.Times.{times_of}
use Rattle.searches_hunt.proofs.tallying.counting.count_equal.Given as goal

-- the texts so far are counted
abbrev pub invariant-loop-text : goal.invariant-loop-text
invariant-loop-text l =
    (sum_by (λ c. c.times) l.counts.items ≡ length l.yielded)
    × All (λ c. 1 ≤ c.times) l.counts.items
    × (map (λ c. c.outcome) l.counts.items ≡ dedup string_eq l.yielded)
    × ((t : String Global) → times_of t l.counts.items ≡ count_by (string_eq t) l.yielded)
