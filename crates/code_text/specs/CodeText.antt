-- Codes as texts: how they are written, and what a text is read as.
use Rattle.std.specs.Prelude.{◌≡◌, ◌⊎◌, ℕ, ◌+◌, ◌<◌, ◌^◌, List, [], ◌∷◌, ◌++◌, codes, length, Some, Result, Ok, Err}
use Rattle.std.specs.Fmt.{decimal}
use Rattle.base.specs.Lines.{line_end}
use Rattle.base.specs.Operators.{sign}
use Rattle.code_core.specs.declared.instr.Instr.{Instr}
use Rattle.code_core.specs.declared.instr.Instr.TheVariants as I
use Rattle.code_core.specs.declared.fault.CodeFault.{CodeFault}
use Rattle.code_core.specs.declared.fault.CodeFault.TheVariants as F
use Rattle.code_core.specs.Instructions.{CodeSizes, AreSizes, StepCode}
use Rattle.code_core.specs.Verified.{code_fault, IsVerified}

-- an instruction: its name, and its operands after one space each
abbrev pub instr_text : Instr → List ℕ
instr_text (I.Push v) = codes "Push " ++ decimal v
instr_text (I.Load x) = codes "Load " ++ decimal x
instr_text I.Me = codes "Me"
instr_text I.Count = codes "Count"
instr_text (I.Bin op) = codes "Bin " ++ sign op
instr_text (I.Store x) = codes "Store " ++ decimal x
instr_text (I.Get r x) = codes "Get " ++ decimal r ++ codes " " ++ decimal x
instr_text (I.Put r) = codes "Put " ++ decimal r
instr_text I.LoadWord = codes "LoadWord"
instr_text I.Next = codes "Next"
instr_text (I.Exchange l) = codes "Exchange " ++ decimal l
instr_text (I.Scan s) = codes "Scan " ++ decimal s
instr_text (I.Copy s t) = codes "Copy " ++ decimal s ++ codes " " ++ decimal t
instr_text (I.Older s x) = codes "Older " ++ decimal s ++ codes " " ++ decimal x
instr_text I.Out = codes "Out"
instr_text (I.JumpZero l) = codes "JumpZero " ++ decimal l
instr_text (I.Jump l) = codes "Jump " ++ decimal l
instr_text I.Halt = codes "Halt"
instr_text I.Clear = codes "Clear"
instr_text (I.Held s x) = codes "Held " ++ decimal s ++ codes " " ++ decimal x

abbrev pub instr_line : Instr → List ℕ
instr_line i = instr_text i ++ line_end

abbrev pub code_lines : List Instr → List ℕ
code_lines [] = []
code_lines (i ∷ is) = instr_line i ++ code_lines is

abbrev pub sizes_text : CodeSizes → List ℕ
sizes_text z =
    decimal z.processes ++ codes " " ++ decimal z.variables ++ codes " " ++ decimal z.scans ++ codes " " ++ decimal z.rows

-- the line of the version and the sizes, which a text begins with
abbrev pub header_line : ℕ → CodeSizes → List ℕ
header_line version z = codes "tickcode " ++ decimal version ++ codes " " ++ (sizes_text z ++ line_end)

abbrev pub text_in : ℕ → StepCode → List ℕ
text_in version c = header_line version c.sizes ++ code_lines c.instructions

-- a code is written in the second version
abbrev pub code_text : StepCode → List ℕ
code_text c = text_in 2 c

abbrev pub IsVersion : ℕ → Type 0
IsVersion version = (version ≡ 1) ⊎ (version ≡ 2)

-- values are below 4294967296, places below 65536 and slots below 256
abbrev pub InRange : Instr → Type 0
InRange (I.Push v) = v < 2 ^ 32
InRange (I.Load x) = x < 2 ^ 8
InRange (I.Store x) = x < 2 ^ 8
InRange (I.Get r x) = (r < 2 ^ 8) × (x < 2 ^ 8)
InRange (I.Put r) = r < 2 ^ 8
InRange (I.Exchange l) = l < 2 ^ 16
InRange (I.Scan s) = s < 2 ^ 8
InRange (I.Copy s t) = (s < 2 ^ 8) × (t < 2 ^ 8)
InRange (I.Older s x) = (s < 2 ^ 8) × (x < 2 ^ 8)
InRange (I.JumpZero l) = l < 2 ^ 16
InRange (I.Jump l) = l < 2 ^ 16
InRange (I.Held s x) = (s < 2 ^ 8) × (x < 2 ^ 8)
InRange _ = Unit {0}

-- the second version has two instructions more
abbrev pub IsIn : ℕ → Instr → Type 0
IsIn version I.Clear = version ≡ 2
IsIn version (I.Held s x) = version ≡ 2
IsIn version _ = Unit {0}

-- a text of the version may have the line of the instruction
abbrev pub MayStand : ℕ → Instr → Type 0
MayStand version i = IsIn version i × InRange i

abbrev pub AllMayStand : ℕ → List Instr → Type 0
AllMayStand version [] = Unit {0}
AllMayStand version (i ∷ is) = MayStand version i × AllMayStand version is

-- the text is that of this list of instructions with its sizes, in one of the versions
pub record IsTextOf (c : StepCode) (text : List ℕ) : Type 0 where
  pub version : ℕ
  pub known : IsVersion version
  pub sizes : AreSizes c.sizes
  pub lines : AllMayStand version c.instructions
  pub spelled : text_in version c ≡ text

-- it begins with no line of a version and sizes
abbrev pub HasNoHeader : List ℕ → Type 0
HasNoHeader text = (version : ℕ) (z : CodeSizes) (more : List ℕ) → IsVersion version → AreSizes z
    → header_line version z ++ more ≡ text → ⊥

-- it begins with no line of an instruction of the version
abbrev pub HasNoLine : ℕ → List ℕ → Type 0
HasNoLine version text = (i : Instr) (more : List ℕ) → MayStand version i → instr_line i ++ more ≡ text → ⊥

-- after lines of instructions it goes on, and line `k` from there is none
pub record HasBadLine (version k : ℕ) (text : List ℕ) : Type 0 where
  pub good : List Instr
  pub lines : AllMayStand version good
  pub rest : List ℕ
  pub some : 0 < length rest
  pub spelled : code_lines good ++ rest ≡ text
  pub bad : HasNoLine version rest
  pub line : k ≡ length good

-- after its header the text goes on, and line `k` from there is bad
pub record HasBadRest (k : ℕ) (text : List ℕ) : Type 0 where
  pub version : ℕ
  pub known : IsVersion version
  pub z : CodeSizes
  pub sizes : AreSizes z
  pub rest : List ℕ
  pub spelled : header_line version z ++ rest ≡ text
  pub bad : HasBadLine version k rest

-- the first bad line of the text; the header is line 1
abbrev pub IsBadLine : ℕ → List ℕ → Type 0
IsBadLine k text =
    ((k ≡ 1) × HasNoHeader text) ⊎ ((j : ℕ) × HasBadRest j text × (k ≡ j + 2))

-- the first line that is not of the form is bad, or the text is that of instructions of which this
-- is the first fault
abbrev pub HasFault : List ℕ → CodeFault → Type 0
HasFault text fault =
    ((k : ℕ) × (fault ≡ F.BadLine k) × IsBadLine k text)
    ⊎ ((c : StepCode) × IsTextOf c text × (code_fault c.sizes c.instructions ≡ Some fault))

-- what a text is read as: the verified code whose text it is, else its fault
abbrev pub ReadsAs : List ℕ → Result StepCode CodeFault → Type 0
ReadsAs text (Ok c) = IsTextOf c text × IsVerified c.sizes c.instructions
ReadsAs text (Err fault) = HasFault text fault
