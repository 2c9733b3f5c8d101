-- The transfer that the host's answer to a read or a write stands for.
use Rattle.std.specs.Prelude.{◌≡◌, ◌≢◌, ℕ, List, Option, Result, Ok, Err}
use Rattle.std.specs.Io.KnownBytes.{ReadConsumes, WriteAppends}
use Rattle.std.specs.IoError.{error_kind}
use Rattle.std.specs.declared.io.Error.{Error}
use Rattle.std.specs.declared.io.ErrorKind.TheVariants as kind
use Rattle.ticketc_io.specs.declared.transfer.Transfer.{Transfer}
use Rattle.ticketc_io.specs.declared.transfer.Transfer.TheVariants.{Moved, Interrupted, Failed}

-- an interruption is one by its kind, and any other error is a failure
pub record IsErrorOf (error : Error) (transfer : Transfer) : Type 0 where
  pub interrupted : error_kind error ≡ kind.Interrupted → transfer ≡ Interrupted
  pub failed : error_kind error ≢ kind.Interrupted → transfer ≡ Failed

abbrev pub IsTransferOf : Result ℕ Error → Transfer → Type 0
IsTransferOf (Ok count) transfer = transfer ≡ Moved count
IsTransferOf (Err error) transfer = IsErrorOf error transfer

-- one answer of a reader did this, and the transfer is that answer's
pub record IsReadOnce (old new : Option (List ℕ)) (transfer : Transfer) (buffer : List ℕ) : Type 0 where
  pub answer : Result ℕ Error
  pub answered : ReadConsumes old new answer buffer
  pub transfer_is : IsTransferOf answer transfer

-- one answer of a writer did this, and the transfer is that answer's
pub record IsWrittenOnce (old new : Option (List ℕ)) (transfer : Transfer) (bytes : List ℕ) : Type 0 where
  pub answer : Result ℕ Error
  pub answered : WriteAppends old new answer bytes
  pub transfer_is : IsTransferOf answer transfer
