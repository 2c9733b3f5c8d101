-- Which instruction a text begins with, if it begins with the line of one; and the sizes.
use Rattle.std.specs.Prelude.{◌≡◌, ℕ, ◌+◌, ◌-◌, ◌*◌, ◌%◌, ◌==◌, ◌||◌, if◌then◌else◌, List, [], ◌∷◌, ◌++◌, length, slice_index, drop, Option, None, Some}
use Rattle.std.specs.Borrow.{Bor}
use Rattle.std.specs.Char.{is_ascii_digit}
use Rattle.base.specs.declared.operator.Op.{Op}
use Rattle.base.specs.declared.operator.Op.TheVariants as O
use Rattle.code_core.specs.declared.instr.Instr.{Instr}
use Rattle.code_core.specs.declared.instr.Instr.TheVariants as I
use Rattle.code_core.specs.Instructions.{CodeSizes}
use Rattle.code_text.specs.CodeText.{instr_line, header_line, IsIn}

-- what follows the line of an instruction, where a text begins with it and texts of the version have it
abbrev pub Follows : ℕ → Instr → List ℕ → Option (Bor (List ℕ)) → Type 0
Follows version i text None = IsIn version i → (more : List ℕ) → instr_line i ++ more ≡ text → ⊥
Follows version i text (Some rest) = IsIn version i × (instr_line i ++ rest.now ≡ text)

-- what follows the header of this version and these sizes, where a text begins with it
abbrev pub FollowsHeader : ℕ → CodeSizes → List ℕ → Option (Bor (List ℕ)) → Type 0
FollowsHeader version z text None = (more : List ℕ) → header_line version z ++ more ≡ text → ⊥
FollowsHeader version z text (Some rest) = header_line version z ++ rest.now ≡ text

-- the bytes before the first space or line feed, and the others
abbrev pub word : List ℕ → List ℕ × List ℕ
word [] = ([], [])
word (b ∷ bs) = if b == 32 || b == 10 then ([], b ∷ bs) else let more = word bs in (b ∷ more.0, more.1)

-- the number that `v` and the first digits spell, and what follows them
abbrev pub leading : ℕ → List ℕ → ℕ × List ℕ
leading v [] = (v, [])
leading v (b ∷ bs) = if is_ascii_digit b then leading ((10 * v + (b - 48)) % 4294967296) bs else (v, b ∷ bs)

abbrev pub operator_of : ℕ → ℕ → Op
operator_of first count =
    if first == 43 then O.Add
    else if first == 45 then O.Sub
    else if first == 42 then O.Mul
    else if first == 47 then O.Div
    else if first == 37 then O.Rem
    else if first == 60 then (if count == 1 then O.Less else O.AtMost)
    else if first == 61 then O.Equal
    else O.Differs

abbrev pub operator : List ℕ → Op
operator text = operator_of (slice_index text 0) (length text)

-- the instruction whose name has this first and this last letter and so many in all
abbrev pub lettered : ℕ → ℕ → ℕ → ℕ → ℕ → Instr
lettered first last count a b =
    if first == 80 then (if last == 104 then I.Push a else I.Put (a % 256))
    else if first == 76 then (if count == 4 then I.Load (a % 256) else I.LoadWord)
    else if first == 77 then I.Me
    else if first == 83 then (if last == 101 then I.Store (a % 256) else I.Scan (a % 256))
    else if first == 71 then I.Get (a % 256) (b % 256)
    else if first == 78 then I.Next
    else if first == 69 then I.Exchange (a % 65536)
    else if first == 67 then (if last == 116 then I.Count else if last == 121 then I.Copy (a % 256) (b % 256) else I.Clear)
    else if first == 79 then (if last == 114 then I.Older (a % 256) (b % 256) else I.Out)
    else if first == 74 then (if last == 112 then I.Jump (a % 65536) else I.JumpZero (a % 65536))
    else if first == 72 then (if last == 100 then I.Held (a % 256) (b % 256) else I.Halt)
    else I.Halt

abbrev pub named : List ℕ → ℕ → ℕ → Instr
named name a b = lettered (slice_index name 0) (slice_index name (length name - 1)) (length name) a b

abbrev pub second : List ℕ → ℕ × List ℕ
second text = leading 0 (drop 1 (leading 0 text).1)

abbrev pub guessed : List ℕ → List ℕ → Instr
guessed name text =
    if slice_index name 0 == 66 then I.Bin (operator (word text).0)
    else named name (leading 0 text).0 (second text).0

abbrev pub guess : List ℕ → Instr
guess text = guessed (word text).0 (drop 1 (word text).1)

-- the version that a digit tells
abbrev pub version_at : List ℕ → ℕ
version_at [] = 2
version_at (b ∷ bs) = if b == 49 then 1 else 2

abbrev pub guessed_version : List ℕ → ℕ
guessed_version text = version_at (drop 9 text)

abbrev pub guessed_sizes : List ℕ → CodeSizes
guessed_sizes text =
    let p = leading 0 (drop 11 text) in
    let v = leading 0 (drop 1 p.1) in
    let s = leading 0 (drop 1 v.1) in
    let r = leading 0 (drop 1 s.1) in
    record { processes = p.0 % 256; variables = v.0 % 256; scans = s.0 % 256; rows = r.0 % 256 }
