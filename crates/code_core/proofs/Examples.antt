-- Small codes, and what the definitions make of them.
use Rattle.std.proofs.Common.{◌≡◌, List, [], ◌∷◌, Some, refl}
use Rattle.base.specs.declared.operator.Op.TheVariants as O
use Rattle.code_core.specs.declared.instr.Instr.{Instr}
use Rattle.code_core.specs.declared.instr.Instr.TheVariants as I
use Rattle.code_core.specs.declared.fault.CodeFault.TheVariants as F
use Rattle.code_core.specs.Instructions.{sizes}
use Rattle.code_core.specs.Heights.{heights, greatest_height}
use Rattle.code_core.specs.Verified.{code_fault, IsVerified}
use Rattle.code_core.specs.Words.{constants_of, words_of, decoded_all}

-- a stamp, a scan, a comparison and an output
abbrev stamps_and_compares : List Instr
stamps_and_compares =
    I.LoadWord ∷ I.Next ∷ I.Exchange 0 ∷ I.Scan 0 ∷ I.Push 0 ∷ I.Push 1 ∷ I.Older 0 0 ∷ I.Load 0 ∷ I.Out ∷ I.Halt ∷ []

its_heights : heights stamps_and_compares ≡ 0 ∷ 0 ∷ 0 ∷ 0 ∷ 0 ∷ 1 ∷ 2 ∷ 0 ∷ 1 ∷ 0 ∷ []
its_heights = refl

its_greatest : greatest_height stamps_and_compares ≡ 2
its_greatest = refl

verified : IsVerified (sizes 2 1 1 0) stamps_and_compares
verified = refl

-- a loop that counts to two
abbrev counts_to_two : List Instr
counts_to_two =
    I.Load 0 ∷ I.Push 2 ∷ I.Bin O.Less ∷ I.JumpZero 9 ∷ I.Load 0 ∷ I.Push 1 ∷ I.Bin O.Add ∷ I.Store 0 ∷ I.Jump 0 ∷ I.Load 0 ∷ I.Out ∷ I.Halt ∷ []

loop_verified : IsVerified (sizes 1 1 0 0) counts_to_two
loop_verified = refl

its_words :
    words_of counts_to_two
    ≡ 0x01000000 ∷ 0x00000000 ∷ 0x04000005 ∷ 0x0F000009 ∷ 0x01000000 ∷ 0x00000001 ∷ 0x04000000 ∷ 0x05000000 ∷ 0x10000000 ∷ 0x01000000 ∷ 0x0E000000 ∷ 0x11000000 ∷ []
its_words = refl

its_constants : constants_of counts_to_two ≡ 2 ∷ 1 ∷ []
its_constants = refl

words_back : decoded_all (2 ∷ 1 ∷ []) (words_of counts_to_two) ≡ counts_to_two
words_back = refl

empty : code_fault (sizes 1 0 0 0) [] ≡ Some F.Empty
empty = refl

stack_short : code_fault (sizes 1 0 0 0) (I.Out ∷ I.Halt ∷ []) ≡ Some (F.StackShort 0)
stack_short = refl

bad_jump : code_fault (sizes 1 0 0 0) (I.Jump 5 ∷ I.Halt ∷ []) ≡ Some (F.BadJump 0)
bad_jump = refl

bad_slot : code_fault (sizes 1 0 0 0) (I.Load 0 ∷ I.Out ∷ I.Halt ∷ []) ≡ Some (F.BadSlot 0)
bad_slot = refl

falls_off : code_fault (sizes 1 0 0 0) (I.Push 1 ∷ I.Out ∷ []) ≡ Some (F.FallsOff 1)
falls_off = refl

-- a jump to itself
heights_differ : code_fault (sizes 1 0 0 0) (I.Push 1 ∷ I.JumpZero 1 ∷ I.Halt ∷ []) ≡ Some (F.HeightsDiffer 1)
heights_differ = refl

-- a jump into a stamp
bad_stamp : code_fault (sizes 2 0 0 0) (I.LoadWord ∷ I.Next ∷ I.Exchange 0 ∷ I.Jump 2 ∷ I.Halt ∷ []) ≡ Some (F.BadStamp 3)
bad_stamp = refl

next_alone : code_fault (sizes 2 0 0 0) (I.Next ∷ I.Halt ∷ []) ≡ Some (F.BadStamp 0)
next_alone = refl

-- two jumps forward to one place: the second is told
jumps_differ : code_fault (sizes 1 0 0 0) (I.Push 0 ∷ I.JumpZero 4 ∷ I.Push 0 ∷ I.Jump 4 ∷ I.Halt ∷ []) ≡ Some (F.HeightsDiffer 3)
jumps_differ = refl

-- a place is reached with another height than a jump to it left
place_differs : code_fault (sizes 1 0 0 0) (I.Push 0 ∷ I.JumpZero 3 ∷ I.Push 0 ∷ I.Halt ∷ []) ≡ Some (F.HeightsDiffer 3)
place_differs = refl
