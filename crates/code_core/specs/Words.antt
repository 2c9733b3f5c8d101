-- The words that a code is kept in: a number below 2 ^ 32 for each instruction, and one list of the
-- constants that are pushed, in order of places.
use Rattle.std.specs.Prelude.{ℕ, ◌+◌, ◌*◌, ◌/◌, ◌%◌, List, [], ◌∷◌, ◌++◌, length, map, slice_index, slice_index_or}
use Rattle.base.specs.declared.operator.Op.{Op}
use Rattle.base.specs.declared.operator.Op.TheVariants as O
use Rattle.code_core.specs.declared.instr.Instr.{Instr}
use Rattle.code_core.specs.declared.instr.Instr.TheVariants as I

-- the upper eight bits
abbrev pub kind : Instr → ℕ
kind (I.Push v) = 0
kind (I.Load x) = 1
kind I.Me = 2
kind I.Count = 3
kind (I.Bin op) = 4
kind (I.Store x) = 5
kind (I.Get r x) = 6
kind (I.Put r) = 7
kind I.LoadWord = 8
kind I.Next = 9
kind (I.Exchange l) = 10
kind (I.Scan s) = 11
kind (I.Copy s t) = 12
kind (I.Older s x) = 13
kind I.Out = 14
kind (I.JumpZero l) = 15
kind (I.Jump l) = 16
kind I.Halt = 17
kind I.Clear = 18
kind (I.Held s x) = 19

abbrev pub sign_number : Op → ℕ
sign_number O.Add = 0
sign_number O.Sub = 1
sign_number O.Mul = 2
sign_number O.Div = 3
sign_number O.Rem = 4
sign_number O.Less = 5
sign_number O.AtMost = 6
sign_number O.Equal = 7
sign_number O.Differs = 8

-- The bits below: a first slot in the lowest eight and a second in the next, or a place in the lowest
-- sixteen. A Push has its value among the constants, and here the number of that constant.
abbrev pub operands : ℕ → Instr → ℕ
operands constant (I.Push v) = constant
operands constant (I.Load x) = x
operands constant (I.Bin op) = sign_number op
operands constant (I.Store x) = x
operands constant (I.Get r x) = x * 256 + r
operands constant (I.Put r) = r
operands constant (I.Exchange l) = l
operands constant (I.Scan s) = s
operands constant (I.Copy s t) = t * 256 + s
operands constant (I.Older s x) = x * 256 + s
operands constant (I.Held s x) = x * 256 + s
operands constant (I.JumpZero l) = l
operands constant (I.Jump l) = l
operands constant _ = 0

abbrev pub word_of : ℕ → Instr → ℕ
word_of constant i = kind i * 16777216 + operands constant i

-- the constant of an instruction, where it has one
abbrev pub constant_in : Instr → List ℕ
constant_in (I.Push v) = v ∷ []
constant_in _ = []

abbrev pub constants_of : List Instr → List ℕ
constants_of [] = []
constants_of (i ∷ is) = constant_in i ++ constants_of is

-- the words of instructions before which there were this many constants
abbrev pub words_from : ℕ → List Instr → List ℕ
words_from constant [] = []
words_from constant (i ∷ is) = word_of constant i ∷ words_from (constant + length (constant_in i)) is

abbrev pub words_of : List Instr → List ℕ
words_of code = words_from 0 code

-- What a word says: the signs and the kinds in the order of their numbers.
abbrev pub sign_of : ℕ → Op
sign_of number =
    slice_index_or (O.Add ∷ O.Sub ∷ O.Mul ∷ O.Div ∷ O.Rem ∷ O.Less ∷ O.AtMost ∷ O.Equal ∷ O.Differs ∷ []) number O.Differs

abbrev pub of_kind : List ℕ → ℕ → ℕ → Instr
of_kind constants word kind =
    let first = word % 256 in
    let second = word / 256 % 256 in
    let place = word % 65536 in
    slice_index_or
    (
    I.Push (slice_index constants place)
    ∷ I.Load first
    ∷ I.Me
    ∷ I.Count
    ∷ I.Bin (sign_of first)
    ∷ I.Store first
    ∷ I.Get first second
    ∷ I.Put first
    ∷ I.LoadWord
    ∷ I.Next
    ∷ I.Exchange place
    ∷ I.Scan first
    ∷ I.Copy first second
    ∷ I.Older first second
    ∷ I.Out
    ∷ I.JumpZero place
    ∷ I.Jump place
    ∷ I.Halt
    ∷ I.Clear
    ∷ I.Held first second
    ∷ []
    )
    kind I.Halt

abbrev pub decoded : List ℕ → ℕ → Instr
decoded constants word = of_kind constants word (word / 16777216)

abbrev pub decoded_all : List ℕ → List ℕ → List Instr
decoded_all constants words = map (decoded constants) words
