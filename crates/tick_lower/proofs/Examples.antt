-- Small programs and their codes.
use Rattle.std.proofs.Common.{◌≡◌, ℕ, List, [], ◌∷◌, refl}
use Rattle.base.specs.declared.operator.Op.TheVariants as O
use Rattle.code_core.specs.declared.instr.Instr.TheVariants as I
use Rattle.code_core.specs.Instructions.{sizes}
use Rattle.code_core.specs.Verified.{IsVerified}
use Rattle.base.specs.Plain.{number, named, me, count, binary, assign, get, put, stamp, clear, scan, copy, older, held, out, branch, repeat, Block, nil, cons, WholeProgram}
use Rattle.tick_lower.specs.Lowered.{block_code, lowered, lowered_length, lowered_sizes}

abbrev pub program : ℕ → List ℕ → List ℕ → List ℕ → Block ℕ → WholeProgram ℕ
program n variables scans registers body =
    record { processes = n; span = record { start = 0; end = 0 }; variables = variables; scans = scans; registers = registers; body = body }

-- a stamp, a scan, a comparison and an output
abbrev pub stamps_and_compares : WholeProgram ℕ
stamps_and_compares =
    program 2 (0 ∷ []) (0 ∷ []) [] (cons stamp (cons (scan 0) (cons (older 0 0 (number 0) (number 1)) (cons (out (named 0)) nil))))

its_code : lowered stamps_and_compares
    ≡ I.LoadWord ∷ I.Next ∷ I.Exchange 0 ∷ I.Scan 0 ∷ I.Push 0 ∷ I.Push 1 ∷ I.Older 0 0 ∷ I.Load 0 ∷ I.Out ∷ I.Halt ∷ []
its_code = refl

its_sizes : lowered_sizes stamps_and_compares ≡ sizes 2 1 1 0
its_sizes = refl

-- a ticket that is given up
abbrev pub gives_up : WholeProgram ℕ
gives_up =
    program 2 (0 ∷ []) (0 ∷ []) []
    (cons stamp (cons (scan 0) (cons (held 0 0 (number 1)) (cons (out (named 0))
    (cons clear (cons (scan 0) (cons (held 0 0 me) (cons (out (named 0)) nil))))))))

given_up_code : lowered gives_up
    ≡ I.LoadWord ∷ I.Next ∷ I.Exchange 0 ∷ I.Scan 0 ∷ I.Push 1 ∷ I.Held 0 0 ∷ I.Load 0 ∷ I.Out
    ∷ I.Clear ∷ I.Scan 0 ∷ I.Me ∷ I.Held 0 0 ∷ I.Load 0 ∷ I.Out ∷ I.Halt ∷ []
given_up_code = refl

given_up_verified : IsVerified (lowered_sizes gives_up) (lowered gives_up)
given_up_verified = refl

-- a loop that counts to two
abbrev pub counts_to_two : WholeProgram ℕ
counts_to_two =
    program 1 (0 ∷ []) [] []
    (cons (repeat (binary (named 0) O.Less (number 2)) (cons (assign 0 (binary (named 0) O.Add (number 1))) nil)) (cons (out (named 0)) nil))

loop_code : lowered counts_to_two
    ≡ I.Load 0 ∷ I.Push 2 ∷ I.Bin O.Less ∷ I.JumpZero 9 ∷ I.Load 0 ∷ I.Push 1 ∷ I.Bin O.Add ∷ I.Store 0 ∷ I.Jump 0 ∷ I.Load 0 ∷ I.Out ∷ I.Halt ∷ []
loop_code = refl

-- one process stamps twice and scans, the others stamp five times
abbrev stamps_and_scans : WholeProgram ℕ
stamps_and_scans =
    program 3 [] (0 ∷ []) []
    (cons (branch (binary me O.Equal (number 0)) (cons stamp (cons stamp (cons (scan 0) nil))) (cons stamp (cons stamp (cons stamp (cons stamp (cons stamp nil)))))) nil)

branch_code : lowered stamps_and_scans
    ≡ I.Me ∷ I.Push 0 ∷ I.Bin O.Equal ∷ I.JumpZero 12 ∷ I.LoadWord ∷ I.Next ∷ I.Exchange 4 ∷ I.LoadWord ∷ I.Next ∷ I.Exchange 7 ∷ I.Scan 0 ∷ I.Jump 27
    ∷ I.LoadWord ∷ I.Next ∷ I.Exchange 12 ∷ I.LoadWord ∷ I.Next ∷ I.Exchange 15 ∷ I.LoadWord ∷ I.Next ∷ I.Exchange 18
    ∷ I.LoadWord ∷ I.Next ∷ I.Exchange 21 ∷ I.LoadWord ∷ I.Next ∷ I.Exchange 24 ∷ I.Halt ∷ []
branch_code = refl

branch_length : lowered_length stamps_and_scans ≡ 28
branch_length = refl

branch_verified : IsVerified (lowered_sizes stamps_and_scans) (lowered stamps_and_scans)
branch_verified = refl

-- one of two outputs
two_outputs : lowered (program 1 (0 ∷ []) [] [] (cons (branch (named 0) (cons (out (number 1)) nil) (cons (out (number 2)) nil)) nil))
    ≡ I.Load 0 ∷ I.JumpZero 5 ∷ I.Push 1 ∷ I.Out ∷ I.Jump 7 ∷ I.Push 2 ∷ I.Out ∷ I.Halt ∷ []
two_outputs = refl

-- the statements that the others lack
registers_and_copies : block_code 10 (cons (put 1 count) (cons (get 0 1 me) (cons (copy 3 2) nil)))
    ≡ I.Count ∷ I.Put 1 ∷ I.Me ∷ I.Get 1 0 ∷ I.Copy 2 3 ∷ []
registers_and_copies = refl
