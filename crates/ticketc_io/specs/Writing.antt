-- What `write_text` leaves written, and how its calls are counted.
use Rattle.std.specs.Prelude.{◌≡◌, ℕ, ◌+◌, ◌<◌, ◌≤◌, ◌⊎◌, List, length, take, Option, Some, None}
use Rattle.std.specs.Io.KnownBytes.{Appends}
use Rattle.ticketc_io.specs.Calls.{FailsLast}
use Rattle.ticketc_io.specs.declared.counts.Counts.{Counts}
use Rattle.ticketc_io.specs.declared.fault.EndFault.{EndFault}
use Rattle.ticketc_io.specs.declared.fault.EndFault.TheVariants.{Read, Write, Memory}

-- some of the text was written, from its front
pub record WritesPrefix (old new : Option (List ℕ)) (text : List ℕ) : Type 0 where
  pub count : ℕ
  pub within : count ≤ length text
  pub written : Appends old new (take count text)

-- after 1,000 interruptions in a row the next one is given up at
pub record IsInterrupted (old new : Counts) : Type 0 where
  pub none_failed : new.failures ≡ old.failures
  pub many : 1000 < new.interruptions
  pub no_more : new.interruptions ≤ old.interruptions + 1001

-- The fault is the writing's exactly where a write failed, which was then the last, or where one was
-- interrupted too often.
abbrev pub CountsWrites : Option EndFault → Counts → Counts → Type 0
CountsWrites None old new = new.failures ≡ old.failures
CountsWrites (Some Write) old new = FailsLast old new ⊎ IsInterrupted old new
CountsWrites (Some Read) old new = new.failures ≡ old.failures
CountsWrites (Some Memory) old new = new.failures ≡ old.failures
