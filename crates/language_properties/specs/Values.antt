-- What a property means in a state: a number of 0 to 4294967295, or a trap.
use Rattle.std.specs.Prelude.{ℕ, ◌+◌, ◌==◌, nat_lt, Bool, true, false, if◌then◌else◌, List, [], ◌∷◌, length, map, slice_index, slice_index_or, slice_set, Result, Ok, Err}
use Rattle.std.specs.List.{range_with_len}
use Rattle.ticket_core.specs.Tickets.{holds_ticket, older_ticket}
use Rattle.base.specs.declared.status.Trap.{Trap}
use Rattle.base.specs.declared.status.Trap.TheVariants as T
use Rattle.base.specs.declared.status.Status.{Status}
use Rattle.base.specs.declared.status.Status.TheVariants.{Running, Ended, Trapped}
use Rattle.base.specs.Operators.{truth_value, fitting, operation}
use Rattle.base.specs.Refusing.{◌>>=◌}
use Rattle.base.specs.RegisterRows.{register_at}
use Rattle.language_properties.specs.declared.property.Question.{Question}
use Rattle.language_properties.specs.declared.property.Question.TheVariants as A
use Rattle.language_properties.specs.declared.property.Junction.{Junction}
use Rattle.language_properties.specs.declared.property.Junction.TheVariants as J
use Rattle.language_properties.specs.declared.property.Quantifier.{Quantifier}
use Rattle.language_properties.specs.declared.property.Quantifier.TheVariants as Q
use Rattle.language_properties.specs.Properties.{Formula, number, count, bound, asked, older, binary, joined, negated, over}

-- What all can see of a state: which processes hold a ticket, of which two the first has the older one, the register
-- rows, and for each process its status.
pub record SeenState : Type 0 where
  pub holds : ℕ → Bool
  pub is_older : ℕ → ℕ → Bool
  pub rows : List (List ℕ)
  pub statuses : List Status

-- the same, of tickets
abbrev pub seen_with : List ℕ → List (List ℕ) → List Status → SeenState
seen_with tickets rows statuses = record {
  holds = holds_ticket tickets;
  is_older = older_ticket tickets;
  rows = rows;
  statuses = statuses;
}

abbrev pub is_end : Status → Bool
is_end Ended = true
is_end _ = false

abbrev pub is_trap : Status → Bool
is_trap (Trapped _) = true
is_trap _ = false

-- a value, or the trap that it ends in
abbrev pub Valued : Type 0
Valued = Result ℕ Trap

-- 1 where it isn't 0
abbrev pub truth_of : ℕ → Valued
truth_of v = Ok (if v == 0 then 0 else 1)

-- Of values in order: whether one isn't 0, whether none is 0, and their sum with what there was before. Where one
-- decides, or traps, the values after it don't count.
abbrev pub some_of : List Valued → Valued
some_of [] = Ok 0
some_of (one ∷ more) = one >>= λ v. if v == 0 then some_of more else Ok 1

abbrev pub all_of : List Valued → Valued
all_of [] = Ok 1
all_of (one ∷ more) = one >>= λ v. if v == 0 then Ok 0 else all_of more

abbrev pub sum_from : ℕ → List Valued → Valued
sum_from total [] = Ok total
sum_from total (one ∷ more) = one >>= λ v. fitting (total + v) >>= λ sum. sum_from sum more

abbrev pub quantified : Quantifier → List Valued → Valued
quantified Q.Some values = some_of values
quantified Q.All values = all_of values
quantified Q.Sum values = sum_from 0 values

-- the second value counts only where the first doesn't decide
abbrev pub junction : Junction → ℕ → Valued → Valued
junction J.And first second = if first == 0 then Ok 0 else second >>= truth_of
junction J.Or first second = if first == 0 then second >>= truth_of else Ok 1

module _ (s : SeenState) where
  abbrev pub status_at : ℕ → Status
  status_at p = slice_index_or s.statuses p Running

  -- what is asked of process `p`
  abbrev pub answer : Question → ℕ → ℕ
  answer (A.Row r) p = register_at s.rows r p
  answer A.Held p = truth_value (s.holds p)
  answer A.Ended p = truth_value (is_end (status_at p))
  answer A.Trapped p = truth_value (is_trap (status_at p))

  -- this of a process that there is, or the trap
  abbrev pub of_process : ℕ → Valued → Valued
  of_process p this = if nat_lt p (length s.statuses) then this else Err T.Index

  -- The value, where `processes` are those that quantifiers go through, by their numbers. Of two operands the left one
  -- counts first, and both have a value before either is taken for a process.
  abbrev pub value : List ℕ → Formula → Valued
  value processes (number v) = Ok v
  value processes count = Ok (length s.statuses)
  value processes (bound i) = Ok (slice_index processes i)
  value processes (asked a e) = value processes e >>= λ p. of_process p (Ok (answer a p))
  value processes (older e f) =
      value processes e >>= λ p. value processes f >>= λ q.
      of_process p (of_process q (Ok (truth_value (s.is_older p q))))
  value processes (binary a op b) = value processes a >>= λ x. value processes b >>= λ y. operation op x y
  value processes (joined a by b) = value processes a >>= λ x. junction by x (value processes b)
  value processes (negated e) = value processes e >>= λ x. Ok (if x == 0 then 1 else 0)
  value processes (over q i e) =
      quantified q (map (λ p. value (slice_set processes i p) e) (range_with_len 0 (length s.statuses)))

-- the values for each process that the quantifier of this number goes through
abbrev pub values : SeenState → List ℕ → ℕ → Formula → List Valued
values s processes i e = map (λ p. value s (slice_set processes i p) e) (range_with_len 0 (length s.statuses))
