-- How often a text was counted.
use Rattle.std.specs.Global.{Global}
use Rattle.std.specs.Prelude.{ℕ, List, String, cond, string_eq}
use Rattle.std.specs.List.{sum_by}
use Rattle.searches_hunt.specs.declared.tallying.counting.Counted.{Counted}

abbrev pub times_of : String Global → List Counted → ℕ
times_of text = sum_by (λ c. cond (string_eq text c.outcome) c.times 0)
