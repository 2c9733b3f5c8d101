-- What reading keeps from call to call.
use Rattle.std.proofs.Common.{◌≡◌, ◌≢◌, zero, suc, ap, refl, ◌∙◌, ◌++◌, ◌+◌, ◌-◌, ◌^◌, ◌≤◌, min, ℕ, List, Vec, Global, length, take, Option, Some, None, append_assoc, sym}
use Rattle.std.proofs.lemmas.List.{take-append-le}
use Rattle.std.specs.Io.KnownBytes.{Consumes, Keeps}
use Rattle.ticketc_io.specs.Calls.{after_read, counted}
use Rattle.ticketc_io.specs.declared.counts.Counts.{Counts}
use Rattle.ticketc_io.specs.declared.transfer.Transfer.TheVariants.{Moved}

-- after `call` calls, of which none failed or told the end, the input holds what was taken since the first, and there
-- is room for more
pub record HasRead (first now : Option (List ℕ)) (start here : Counts) (input : List ℕ) (call : ℕ) : Type 0 where
  pub taken : Consumes first now input
  pub room : length input ≤ 1000000
  pub none_failed : here.failures ≡ start.failures
  pub none_ended : here.ends ≡ start.ends
  pub asked : min (start.calls + call) (2 ^ 64 - 1) ≤ here.calls
  pub few : here.calls ≤ start.calls + call

pub Consumes-trans : (a b c : Option (List ℕ)) (xs ys : List ℕ) → Consumes a b xs → Consumes b c ys → Consumes a c (xs ++ ys)
Consumes-trans None b c xs ys first second = tt
Consumes-trans (Some held) None c xs ys first second = absurd first
Consumes-trans (Some held) (Some bs) None xs ys first second = absurd second
Consumes-trans (Some held) (Some bs) (Some cs) xs ys first second = rw (first, second) (sym (append_assoc xs ys cs))

pub Consumes-keeps : (a b c : Option (List ℕ)) (xs : List ℕ) → Consumes a b xs → Keeps b c → Consumes a c xs
Consumes-keeps None b c xs first second = tt
Consumes-keeps (Some held) None c xs first second = absurd first
Consumes-keeps (Some held) (Some bs) None xs first second = absurd second
Consumes-keeps (Some held) (Some bs) (Some cs) xs first second = rw second first

-- the input with what was taken to the front of the buffer
pub grown_by : (input pushed : Vec ℕ Global) (old buffer rest : List ℕ) (count : ℕ) → input ≡ pushed
    → pushed.items ≡ old ++ take count (buffer ++ rest) → count ≤ length buffer → input.items ≡ old ++ take count buffer
grown_by input pushed old buffer rest count is more within =
    ap (λ (v : Vec ℕ Global). v.items) is ∙ more ∙ ap (λ (bytes : List ℕ). old ++ bytes) (take-append-le _ _ _ within)

pub after_some : (count : ℕ) (old new : Counts) → count ≢ 0 → new ≡ after_read (Moved count) old
    → (new.failures ≡ old.failures) × (new.ends ≡ old.ends) × (new.calls ≡ counted old.calls)
after_some zero old new some is = absurd (some refl)
after_some (suc count) old new some is =
    (ap (λ (c : Counts). c.failures) is, ap (λ (c : Counts). c.ends) is, ap (λ (c : Counts). c.calls) is)
