-- What is told of a wider kind of inputs, from what is told of a narrower.
use Rattle.std.proofs.Common.{Option, Some, None, Result, Ok, Err, IfOk, MatchOption}

pub weakened : {T E A C : Type 0} {B D : T → Type 0} (r : Result (Option T) E) → (A → C) → ((t : T) → B t → D t)
    → IfOk r (λ told. MatchOption told A B) → IfOk r (λ told. MatchOption told C D)
weakened (Ok None) f g h = f h
weakened (Ok (Some t)) f g h = g t h
weakened (Err e) f g h = tt
