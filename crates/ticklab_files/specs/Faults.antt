-- Why there is no answer, and the exit status that tells it.
use Rattle.std.specs.Prelude.{◌≡◌, ◌≤◌, ◌⊎◌, ⊤, ℕ, true, List, [], Option, Some, None, Result, Ok, Err, String, bytes_eq, codes, length, string_bytes}
use Rattle.std.specs.Global.{Global}
use Rattle.std.specs.List.{filter}
use Rattle.std.specs.Str.{IsUtf8}
use Rattle.std.specs.declared.io.Error.{Error}
use Rattle.ticklab_files.specs.Reading.{ListsOf, is_tick}
use Rattle.ticklab_files.specs.Reading.{IsRead, IsReadOnce, ReadsOf, ReadsInputOf, is_input, schedule_file}
use Rattle.ticklab_files.specs.declared.fault.LabFault.{LabFault}
use Rattle.ticklab_files.specs.declared.fault.LabFault.TheVariants.{Words, Unread, Unwritten, Answer}
use Rattle.ticklab_files.specs.declared.fault.ReadFault.{ReadFault}
use Rattle.ticklab_files.specs.declared.fault.ReadFault.TheVariants.{Host, TooLong, NoText, ReadAlready, NoTicks}

abbrev pub status_of : LabFault → ℕ
status_of (Words cause) = 2
status_of (Unread name cause) = 3
status_of (Unwritten cause) = 3
status_of (Answer fault) = 4

-- What files are before a call fails for a file or a folder of a name, or for standard input, whose name is `-`; what
-- the host says of it, and what files are after it.
abbrev pub FailsOf : Type 0 → Type 1
FailsOf F = F → List ℕ → Error → F → Type 0

-- what is known of a name for which there is such a fault
abbrev pub Causes : Type 1
Causes = List ℕ → ReadFault → Type 0

-- none of what is in a folder has a name that ends in `.tick`
abbrev pub HasNoTicks : List (String Global) → Type 0
HasNoTicks entries = filter (λ entry. is_tick (string_bytes entry)) entries ≡ []

-- Why what has this name can't be read. A call of the host failed; or it gave 64 MiB; or what it gave for a schedule is no
-- UTF-8; or it is standard input and was read already; or no file of the folder has such a name.
module _ {F : Type 0} (Reads : ReadsOf F) (ReadsInput : ReadsInputOf F) (Lists : ListsOf F) (Fails : FailsOf F) where
  abbrev pub IsUnread : Causes
  IsUnread name (Host error) = (before after : F) × Fails before name error after
  IsUnread name TooLong =
      (before after : F) × (bytes : List ℕ) × IsReadOnce Reads ReadsInput (bytes_eq name (codes "-")) before name bytes after × (67108864 ≤ length bytes)
  IsUnread name NoText = (before after : F) × (bytes : List ℕ) × IsRead Reads ReadsInput before name bytes after × (IsUtf8 bytes → ⊥)
  IsUnread name ReadAlready = is_input name ≡ true
  IsUnread name NoTicks = (before after : F) × (entries : List (String Global)) × Lists before name (Some entries) after × HasNoTicks entries

-- memory was refused
abbrev pub IsOfMemory : LabFault → Type 0
IsOfMemory (Words cause) = ⊥
IsOfMemory (Unread name cause) = ⊥
IsOfMemory (Unwritten cause) = ⊥
IsOfMemory (Answer fault) = ⊤

-- Memory or a thread was refused, or a file can't be read, of whose name P holds. The causes say why.
abbrev pub IsOfFileThat : Causes → (List ℕ → Type 0) → LabFault → Type 0
IsOfFileThat U P (Words cause) = ⊥
IsOfFileThat U P (Unread name cause) = P (string_bytes name) × U (string_bytes name) cause
IsOfFileThat U P (Unwritten cause) = ⊥
IsOfFileThat U P (Answer fault) = ⊤

abbrev pub IsOfFile : Causes → List ℕ → LabFault → Type 0
IsOfFile U file = IsOfFileThat U (λ name. name ≡ file)

-- memory was refused, or what has this name can't be read for this reason
abbrev pub IsUnreadFor : List ℕ → ReadFault → LabFault → Type 0
IsUnreadFor name fault = IsOfFile (λ _ cause. cause ≡ fault) name

-- the file that a schedule is in
abbrev pub IsOfSchedule : Causes → List ℕ → LabFault → Type 0
IsOfSchedule U schedule = IsOfFileThat U (λ name. schedule_file schedule ≡ Some name)

-- a file, or the one that a schedule is in
abbrev pub IsEither : List ℕ → List ℕ → List ℕ → Type 0
IsEither file schedule name = (name ≡ file) ⊎ (schedule_file schedule ≡ Some name)

abbrev pub IsOneOf : List ℕ → Option (List ℕ) → List ℕ → Type 0
IsOneOf file None name = name ≡ file
IsOneOf file (Some schedule) name = IsEither file schedule name

-- memory was refused, or the host says this of what is written
abbrev pub IsSaid : Error → LabFault → Type 0
IsSaid error (Words cause) = ⊥
IsSaid error (Unread name cause) = ⊥
IsSaid error (Unwritten cause) = cause ≡ error
IsSaid error (Answer fault) = ⊤

-- memory was refused, or the host says why the words can't be had
abbrev pub IsOfWords : {W : Type 0} → Result W Error → LabFault → Type 0
IsOfWords given (Words cause) = given ≡ Err cause
IsOfWords given (Unread name cause) = ⊥
IsOfWords given (Unwritten cause) = ⊥
IsOfWords given (Answer fault) = ⊤

-- memory was refused, or some of these bytes can't be written
abbrev pub IsOfOutput : List ℕ → LabFault → Type 0
IsOfOutput bytes (Words cause) = ⊥
IsOfOutput bytes (Unread name cause) = ⊥
IsOfOutput bytes (Unwritten cause) = bytes ≡ [] → ⊥
IsOfOutput bytes (Answer fault) = ⊤
