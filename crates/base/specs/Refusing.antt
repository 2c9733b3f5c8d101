-- Answers that may be a refusal, for any type of refusals: how one follows another, and what a function
-- answers that may also be refused memory.
use Rattle.std.specs.Prelude.{◌≡◌, Bool, true, false, Result, Ok, Err}

infixl 10 ◌>>=◌
abbrev pub ◌>>=◌ : {E A B : Type 0} → Result A E → (A → Result B E) → Result B E
(Ok x) >>= f = f x
(Err e) >>= f = Err e

abbrev pub Unless : Bool → Type 0 → Type 0
Unless true P = Unit {0}
Unless false P = P

-- the refusal is the defined one, unless it is of memory
abbrev pub FailsBut : {E V : Type 0} → (E → Bool) → E → Result V E → Type 0
FailsBut is_memory e defined = Unless (is_memory e) (defined ≡ Err e)

-- the answer, seen by view, is the defined one, unless memory was refused
abbrev pub GivesBut : {E X V : Type 0} → (E → Bool) → (X → V) → Result X E → Result V E → Type 0
GivesBut is_memory view (Ok x) defined = defined ≡ Ok (view x)
GivesBut is_memory view (Err e) defined = FailsBut is_memory e defined
