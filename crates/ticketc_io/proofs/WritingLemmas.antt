-- What writing keeps from call to call.
use Rattle.std.proofs.Common.{◌≡◌, ◌≢◌, zero, suc, ap, refl, ◌++◌, ◌+◌, ◌≤◌, ℕ, List, length, take, Option, Some, None, append_assoc}
use Rattle.std.specs.Io.KnownBytes.{Appends}
use Rattle.ticketc_io.specs.Calls.{after_write}
use Rattle.ticketc_io.specs.declared.counts.Counts.{Counts}
use Rattle.ticketc_io.specs.declared.transfer.Transfer.TheVariants.{Moved}

-- the first `sent` bytes are written, no call failed, and the interruptions in a row are few and counted
pub record HasWritten (first now : Option (List ℕ)) (start here : Counts) (text : List ℕ) (sent interruptions : ℕ) : Type 0 where
  pub within : sent ≤ length text
  pub written : Appends first now (take sent text)
  pub none_failed : here.failures ≡ start.failures
  pub few : interruptions ≤ 1000
  pub told : interruptions ≤ here.interruptions
  pub no_more : here.interruptions ≤ start.interruptions + interruptions

pub Appends-trans : (a b c : Option (List ℕ)) (xs ys : List ℕ) → Appends a b xs → Appends b c ys → Appends a c (xs ++ ys)
Appends-trans None b c xs ys first second = tt
Appends-trans (Some held) None c xs ys first second = absurd first
Appends-trans (Some held) (Some bs) None xs ys first second = absurd second
Appends-trans (Some held) (Some bs) (Some cs) xs ys first second = rw (second, first) (append_assoc held xs ys)

pub after_moved : (count : ℕ) (bytes : List ℕ) (old new : Counts) → count ≢ 0 → new ≡ after_write (Moved count) bytes old
    → (new.failures ≡ old.failures) × (new.interruptions ≡ 0)
after_moved zero bytes old new some is = absurd (some refl)
after_moved (suc count) bytes old new some is = (ap (λ (c : Counts). c.failures) is, ap (λ (c : Counts). c.interruptions) is)
