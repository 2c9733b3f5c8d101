-- Values of properties in states, worked out.
use Rattle.std.proofs.Common.{◌≡◌, [], ◌∷◌, Ok, Err, refl, replicate}
use Rattle.base.specs.declared.operator.Op.TheVariants as O
use Rattle.base.specs.declared.status.Status.TheVariants.{Running, Ended, Trapped}
use Rattle.base.specs.declared.status.Trap.TheVariants as T
use Rattle.language_properties.specs.declared.property.Question.TheVariants as A
use Rattle.language_properties.specs.declared.property.Junction.TheVariants as J
use Rattle.language_properties.specs.declared.property.Quantifier.TheVariants as Q
use Rattle.language_properties.specs.Properties.{Formula, number, count, bound, asked, older, binary, joined, negated, over}
use Rattle.language_properties.specs.Values.{Valued, seen_with, value}

abbrev in_state : Formula → Valued
in_state e =
    value (seen_with (0 ∷ 7 ∷ 3 ∷ []) ((1 ∷ 0 ∷ 1 ∷ []) ∷ (5 ∷ 6 ∷ 4294967295 ∷ []) ∷ []) (Running ∷ Ended ∷ Trapped T.Zero ∷ []))
    (replicate 8 0) e

abbrev first : Formula
first = bound 0

abbrev second : Formula
second = bound 1

-- 1 < (sum p: row 0 [p])
two_inside : in_state (binary (number 1) O.Less (over Q.Sum 0 (asked (A.Row 0) first))) ≡ Ok 1
two_inside = refl

-- some p: some q: (p != q) and (row 0 [p] and row 0 [q])
both_inside :
    in_state (over Q.Some 0 (over Q.Some 1 (joined (binary first O.Differs second) J.And
    (joined (asked (A.Row 0) first) J.And (asked (A.Row 0) second))))) ≡ Ok 1
both_inside = refl

-- process 2 holds a ticket that is older than that of process 1; who holds none is older than both
tickets : in_state (joined (older (number 2) (number 1)) J.And (negated (asked A.Held (number 0)))) ≡ Ok 1
tickets = refl

ends : in_state (over Q.Sum 0 (asked A.Ended first)) ≡ Ok 1
ends = refl

traps : in_state (asked A.Trapped (binary count O.Sub (number 1))) ≡ Ok 1
traps = refl

-- a sum above 4294967295, a process that there is not, and operands that are not looked at
overflow : in_state (over Q.Sum 0 (asked (A.Row 1) first)) ≡ Err T.Overflow
overflow = refl

nobody : in_state (asked A.Held count) ≡ Err T.Index
nobody = refl

decided : in_state (joined (number 0) J.And (asked A.Held count)) ≡ Ok 0
decided = refl

found_first : in_state (over Q.Some 0 (binary (number 1) O.Div (negated first))) ≡ Ok 1
found_first = refl

trapped_first : in_state (over Q.All 0 (binary (number 1) O.Div (negated first))) ≡ Err T.Zero
trapped_first = refl
