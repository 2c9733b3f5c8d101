-- Some bytes of one of two outputs can't be written.
use Rattle.std.proofs.Common.{◌≡◌, ◌++◌, ℕ, List, [], ◌∷◌, refl}
use Rattle.ticklab_files.specs.Faults.{IsOfOutput}
use Rattle.ticklab_files.specs.declared.fault.LabFault.{LabFault}
use Rattle.ticklab_files.specs.declared.fault.LabFault.TheVariants.{Words, Unread, Unwritten, Answer}

pub of_first : (first second : List ℕ) (fault : LabFault) → IsOfOutput first fault → IsOfOutput (first ++ second) fault
of_first first second (Words cause) is = is
of_first first second (Unread name cause) is = is
of_first [] second (Unwritten cause) is = absurd (is refl)
of_first (byte ∷ first) second (Unwritten cause) is = λ none. cc none
of_first first second (Answer fault) is = is

pub of_second : (first second : List ℕ) (fault : LabFault) → IsOfOutput second fault → IsOfOutput (first ++ second) fault
of_second first second (Words cause) is = is
of_second first second (Unread name cause) is = is
of_second [] second (Unwritten cause) is = is
of_second (byte ∷ first) second (Unwritten cause) is = λ none. cc none
of_second first second (Answer fault) is = is
