-- Faults of files of which more is known.
use Rattle.std.proofs.Common.{◌≡◌, ℕ, List, string_bytes, subst, sym, Result, Ok, Err, IfErr, IsErrAnd}
use Rattle.ticklab_files.specs.Faults.{Causes, IsOfFile, IsOfFileThat, IsOfMemory, IsUnreadFor}
use Rattle.ticklab_files.specs.declared.fault.LabFault.{LabFault}
use Rattle.ticklab_files.specs.declared.fault.LabFault.TheVariants.{Words, Unread, Unwritten, Answer}
use Rattle.ticklab_files.specs.declared.fault.ReadFault.{ReadFault}

-- a fault of a file of which more is known
pub of_file_as : (U : Causes) (P Q : List ℕ → Type 0) → ((name : List ℕ) → P name → Q name) → (fault : LabFault) → IsOfFileThat U P fault → IsOfFileThat U Q fault
of_file_as U P Q f (Words cause) is = is
of_file_as U P Q f (Unread name cause) is = (f (string_bytes name) is.0, is.1)
of_file_as U P Q f (Unwritten cause) is = is
of_file_as U P Q f (Answer fault) is = is

-- the reason of a fault, of which more is known
pub caused : (U V : Causes) (name : List ℕ) → ((cause : ReadFault) → U name cause → V name cause) → (fault : LabFault) → IsOfFile U name fault → IsOfFile V name fault
caused U V name f (Words cause) is = is
caused U V name f (Unread named cause) is = (is.0, subst (λ (n : List ℕ). V n cause) (sym is.0) (f cause (subst (λ (n : List ℕ). U n cause) is.0 is.1)))
caused U V name f (Unwritten cause) is = is
caused U V name f (Answer fault) is = is

-- what has this name can't be read for this reason, which is one
pub for_cause : (V : Causes) (name : List ℕ) (cause : ReadFault) → V name cause → (fault : LabFault) → IsUnreadFor name cause fault → IsOfFile V name fault
for_cause V name cause holds = caused (λ _ c. c ≡ cause) V name (λ c is. subst (V name) (sym is) holds)

-- want of memory is one of each kind
pub of_memory : (U : Causes) (P : List ℕ → Type 0) (fault : LabFault) → IsOfMemory fault → IsOfFileThat U P fault
of_memory U P (Words cause) is = is
of_memory U P (Unread name cause) is = absurd is
of_memory U P (Unwritten cause) is = is
of_memory U P (Answer fault) is = is

-- a `?` hands a fault on
pub faulty_by : {T : Type 0} (Q : LabFault → Type 0) (fault : LabFault) (r : Result T LabFault) → IsErrAnd r (λ d. d ≡ fault) → Q fault → IfErr r Q
faulty_by Q fault (Ok x) err held = tt
faulty_by Q fault (Err d) err held = subst Q (sym err) held
