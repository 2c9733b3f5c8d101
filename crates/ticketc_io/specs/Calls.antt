-- What one call of a reader or a writer does to its bytes, as far as they are known, and how its calls are
-- counted.
use Rattle.std.specs.Prelude.{◌≡◌, ℕ, ◌+◌, ◌-◌, ◌<◌, ◌≤◌, ◌^◌, zero, suc, min, nat_lt, List, length, take, Option, Some, if◌then◌else◌}
use Rattle.std.specs.Io.KnownBytes.{Appends, Consumes, IsAtEnd, Keeps}
use Rattle.ticketc_io.specs.declared.counts.Counts.{Counts}
use Rattle.ticketc_io.specs.declared.transfer.Transfer.{Transfer}
use Rattle.ticketc_io.specs.declared.transfer.Transfer.TheVariants.{Moved, Interrupted, Failed}

-- one more, up to the greatest number that 64 bits hold
abbrev pub counted : ℕ → ℕ
counted n = min (n + 1) (2 ^ 64 - 1)

abbrev pub after_call : Transfer → Counts → Counts
after_call (Moved count) c =
    record c { calls = counted c.calls; interruptions = 0; last = Some (Moved count) }
after_call Interrupted c =
    record c { calls = counted c.calls; interruptions = counted c.interruptions; last = Some Interrupted }
after_call Failed c =
    record c { calls = counted c.calls; failures = counted c.failures; interruptions = 0; last = Some Failed }

-- a read that gave none tells an end
abbrev pub after_read : Transfer → Counts → Counts
after_read (Moved zero) c = after_call (Moved zero) (record c { ends = counted c.ends })
after_read (Moved (suc count)) c = after_call (Moved (suc count)) c
after_read Interrupted c = after_call Interrupted c
after_read Failed c = after_call Failed c

-- a write that took none of some bytes is a failed one
abbrev pub after_write : Transfer → List ℕ → Counts → Counts
after_write (Moved zero) bytes c = after_call (if nat_lt 0 (length bytes) then Failed else Moved zero) c
after_write (Moved (suc count)) bytes c = after_call (Moved (suc count)) c
after_write Interrupted bytes c = after_call Interrupted c
after_write Failed bytes c = after_call Failed c

-- one call failed, which was the last
pub record FailsLast (old new : Counts) : Type 0 where
  pub failed : new.failures ≡ counted old.failures
  pub last : new.last ≡ Some Failed

-- a read gives the bytes that it says it moved, and none only at the end or with no room
abbrev pub ReadGives : Option (List ℕ) → Option (List ℕ) → Transfer → List ℕ → Type 0
ReadGives old new (Moved count) buffer =
    (count ≤ length buffer) × Consumes old new (take count buffer)
    × (count ≡ 0 → 0 < length buffer → IsAtEnd new)
ReadGives old new Interrupted buffer = Keeps old new
ReadGives old new Failed buffer = Keeps old new

-- a write takes the bytes that it says it moved, from the front
abbrev pub WriteTakes : Option (List ℕ) → Option (List ℕ) → Transfer → List ℕ → Type 0
WriteTakes old new (Moved count) bytes = (count ≤ length bytes) × Appends old new (take count bytes)
WriteTakes old new Interrupted bytes = Keeps old new
WriteTakes old new Failed bytes = Keeps old new
