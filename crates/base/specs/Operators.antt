-- The operators of expressions: how they are spelled, and what they mean.
use Rattle.std.specs.Prelude.{ℕ, ◌+◌, ◌-◌, ◌*◌, ◌/◌, ◌%◌, ◌==◌, nat_lt, nat_le, Bool, if◌then◌else◌, List, codes, Result, Ok, Err}
use Rattle.base.specs.declared.operator.Op.{Op}
use Rattle.base.specs.declared.operator.Op.TheVariants as O
use Rattle.base.specs.declared.status.Trap.{Trap}
use Rattle.base.specs.declared.status.Trap.TheVariants as T

abbrev pub sign : Op → List ℕ
sign O.Add = codes "+"
sign O.Sub = codes "-"
sign O.Mul = codes "*"
sign O.Div = codes "/"
sign O.Rem = codes "%"
sign O.Less = codes "<"
sign O.AtMost = codes "<="
sign O.Equal = codes "=="
sign O.Differs = codes "!="

-- 1 for yes, 0 for no
abbrev pub truth_value : Bool → ℕ
truth_value b = if b then 1 else 0

-- a number that is a value, else Overflow
abbrev pub fitting : ℕ → Result ℕ Trap
fitting v = if nat_lt v 4294967296 then Ok v else Err T.Overflow

-- the operator between two values, 0 to 4294967295, or a trap
abbrev pub operation : Op → ℕ → ℕ → Result ℕ Trap
operation O.Add a b = fitting (a + b)
operation O.Sub a b = if nat_le b a then Ok (a - b) else Err T.Below
operation O.Mul a b = fitting (a * b)
operation O.Div a b = if b == 0 then Err T.Zero else Ok (a / b)
operation O.Rem a b = if b == 0 then Err T.Zero else Ok (a % b)
operation O.Less a b = Ok (truth_value (nat_lt a b))
operation O.AtMost a b = Ok (truth_value (nat_le a b))
operation O.Equal a b = Ok (truth_value (a == b))
operation O.Differs a b = Ok (if a == b then 0 else 1)
