-- What an expression means: a number of 0 to 4294967295, or a trap.
use Rattle.std.specs.Prelude.{ℕ, List, slice_index, Result, Ok, Err}
use Rattle.base.specs.declared.operator.Op.{Op}
use Rattle.base.specs.Operators.{operation}
use Rattle.base.specs.Plain.{Expression, number, named, me, count, binary}
use Rattle.base.specs.declared.status.Trap.{Trap}

-- of two operands the left one counts first
abbrev pub operated : Op → Result ℕ Trap → Result ℕ Trap → Result ℕ Trap
operated op (Err t) b = Err t
operated op (Ok a) (Err t) = Err t
operated op (Ok a) (Ok b) = operation op a b

-- what an expression means for process `p` of `n` with these variables
abbrev pub value : ℕ → ℕ → List ℕ → Expression ℕ → Result ℕ Trap
value n p variables (number v) = Ok v
value n p variables (named x) = Ok (slice_index variables x)
value n p variables me = Ok p
value n p variables count = Ok n
value n p variables (binary a op b) = operated op (value n p variables a) (value n p variables b)
