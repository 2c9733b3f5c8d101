-- What `read_input` takes of an input, and how its calls are counted.
use Rattle.std.specs.Prelude.{◌≡◌, ℕ, ◌+◌, ◌-◌, ◌^◌, ◌≤◌, ◌⊎◌, min, List, length, Option, Some, None, Result, Ok, Err}
use Rattle.std.specs.Io.KnownBytes.{Consumes, IsAtEnd}
use Rattle.ticketc_io.specs.Calls.{FailsLast, counted}
use Rattle.ticketc_io.specs.declared.counts.Counts.{Counts}
use Rattle.ticketc_io.specs.declared.fault.EndFault.{EndFault}
use Rattle.ticketc_io.specs.declared.fault.EndFault.TheVariants.{Read, Write, Memory}
use Rattle.ticketc_io.specs.declared.transfer.Transfer.TheVariants.{Moved}

-- the input is all that there was, or the 1,000,001 bytes after which no more are asked for
pub record IsRead (old new : Option (List ℕ)) (input : List ℕ) : Type 0 where
  pub taken : Consumes old new input
  pub short : length input ≤ 1000001
  pub whole : length input ≤ 1000000 → IsAtEnd new

-- at most 1,000,001 bytes are taken, whatever comes of it
pub record TakesFew (old new : Option (List ℕ)) : Type 0 where
  pub bytes : List ℕ
  pub taken : Consumes old new bytes
  pub few : length bytes ≤ 1000001

abbrev pub fault_in : {A : Type 0} → Result A EndFault → Option EndFault
fault_in (Ok a) = None
fault_in (Err fault) = Some fault

-- one call told the end, which was the last
pub record EndsLast (old new : Counts) : Type 0 where
  pub ended : new.ends ≡ counted old.ends
  pub last : new.last ≡ Some (Moved 0)

-- 2,000,000 calls were made, of which none failed and none told an end
pub record NeverEnds (old new : Counts) : Type 0 where
  pub many : min (old.calls + 2000000) (2 ^ 64 - 1) ≤ new.calls
  pub none_failed : new.failures ≡ old.failures
  pub none_ended : new.ends ≡ old.ends

-- one call failed, which was the last, and none told an end before it
pub record FailsBeforeEnd (old new : Counts) : Type 0 where
  pub fails : FailsLast old new
  pub none_ended : new.ends ≡ old.ends

-- The fault is the reading's exactly where a read failed, which was then the last, or where calls
-- came to no end; either way no end was told before.
abbrev pub CountsReads : Option EndFault → Counts → Counts → Type 0
CountsReads None old new = new.failures ≡ old.failures
CountsReads (Some Read) old new = FailsBeforeEnd old new ⊎ NeverEnds old new
CountsReads (Some Write) old new = new.failures ≡ old.failures
CountsReads (Some Memory) old new = new.failures ≡ old.failures
