-- Small codes under small schedules, and what the definitions make of them. All of it is computed.
-- A stamp, a scan and a comparison come first (`one_after_the_other`); then an exchange that is lost, a loop, two traps,
-- and a register. In `same_labels_again` process 0 has loaded its labels, and six stamps of the others bring them back: its
-- exchange is won.
-- Read `one_after_the_other` first, then `same_labels_again`.
use Rattle.std.proofs.Common.{◌≡◌, ℕ, List, [], ◌∷◌, ◌++◌, refl, map, replicate}
use Rattle.base.specs.declared.operator.Op.TheVariants as O
use Rattle.base.specs.declared.status.Status.TheVariants.{Running, Ended, Trapped}
use Rattle.base.specs.declared.status.Trap.TheVariants as T
use Rattle.base.specs.declared.event.Act.TheVariants as A
use Rattle.base.specs.declared.event.Event.{Event}
use Rattle.code_core.specs.declared.instr.Instr.{Instr}
use Rattle.code_core.specs.declared.instr.Instr.TheVariants as I
use Rattle.code_core.specs.Instructions.{sizes}
use Rattle.word_core.specs.Packed.{word}
use Rattle.code_machine.specs.Machine.{run_of, observables}

-- a stamp, a scan, a comparison and an output
abbrev stamps_and_compares : List Instr
stamps_and_compares =
    I.LoadWord ∷ I.Next ∷ I.Exchange 0 ∷ I.Scan 0 ∷ I.Push 0 ∷ I.Push 1 ∷ I.Older 0 0 ∷ I.Load 0 ∷ I.Out ∷ I.Halt ∷ []

-- process 0 to its end, then process 1
one_after_the_other : observables (run_of (sizes 2 1 1 0) stamps_and_compares (replicate 10 0 ++ replicate 10 1)) ≡ record {
  events =
      record { process = 0; act = A.Stamp } ∷ record { process = 0; act = A.Scan (1 ∷ 0 ∷ 0 ∷ 0 ∷ 0 ∷ 0 ∷ []) }
      ∷ record { process = 0; act = A.Older 0 1 0 } ∷ record { process = 0; act = A.Out 0 } ∷ record { process = 0; act = A.End }
      ∷ record { process = 1; act = A.Stamp } ∷ record { process = 1; act = A.Scan (0 ∷ 1 ∷ 0 ∷ 0 ∷ 0 ∷ 0 ∷ []) }
      ∷ record { process = 1; act = A.Older 0 1 1 } ∷ record { process = 1; act = A.Out 1 } ∷ record { process = 1; act = A.End } ∷ [];
  rows = [];
  statuses = Ended ∷ Ended ∷ [];
}
one_after_the_other = refl

-- the first exchange of process 1 is lost, and it begins its stamp again
lost_once : observables (run_of (sizes 2 1 1 0) stamps_and_compares (0 ∷ 1 ∷ 0 ∷ 1 ∷ 0 ∷ 1 ∷ 1 ∷ 1 ∷ 1 ∷ [])) ≡ record {
  events = record { process = 0; act = A.Stamp } ∷ record { process = 1; act = A.Stamp } ∷ [];
  rows = [];
  statuses = Running ∷ Running ∷ [];
}
lost_once = refl

-- a loop that counts to two
abbrev counts_to_two : List Instr
counts_to_two =
    I.Load 0 ∷ I.Push 2 ∷ I.Bin O.Less ∷ I.JumpZero 9 ∷ I.Load 0 ∷ I.Push 1 ∷ I.Bin O.Add ∷ I.Store 0 ∷ I.Jump 0 ∷ I.Load 0 ∷ I.Out ∷ I.Halt ∷ []

counts : observables (run_of (sizes 1 1 0 0) counts_to_two (replicate 25 0)) ≡ record {
  events = record { process = 0; act = A.Out 2 } ∷ record { process = 0; act = A.End } ∷ [];
  rows = [];
  statuses = Ended ∷ [];
}
counts = refl

-- what is no value, and a process that there is not
goes_below : observables (run_of (sizes 1 0 0 0) (I.Push 0 ∷ I.Push 1 ∷ I.Bin O.Sub ∷ I.Out ∷ I.Halt ∷ []) (replicate 4 0)) ≡ record {
  events = record { process = 0; act = A.Trap T.Below } ∷ [];
  rows = [];
  statuses = Trapped T.Below ∷ [];
}
goes_below = refl

no_such_process : observables (run_of (sizes 2 1 0 1) (I.Count ∷ I.Get 0 0 ∷ I.Halt ∷ []) (replicate 2 1)) ≡ record {
  events = record { process = 1; act = A.Trap T.Index } ∷ [];
  rows = (0 ∷ 0 ∷ []) ∷ [];
  statuses = Running ∷ Trapped T.Index ∷ [];
}
no_such_process = refl

-- a register that is written and read
writes_and_reads : observables (run_of (sizes 2 1 0 1) (I.Me ∷ I.Push 7 ∷ I.Bin O.Add ∷ I.Put 0 ∷ I.Push 0 ∷ I.Get 0 0 ∷ I.Halt ∷ []) (replicate 6 1 ++ replicate 4 0))
    ≡ record {
      events = record { process = 1; act = A.Put 0 8 } ∷ record { process = 1; act = A.Get 0 0 0 } ∷ record { process = 0; act = A.Put 0 7 } ∷ [];
      rows = (7 ∷ 8 ∷ []) ∷ [];
      statuses = Running ∷ Running ∷ [];
    }
writes_and_reads = refl

-- Process 0 loads its labels, six stamps of the others bring the same labels back, and its exchange
-- is won.
abbrev stamps_twice : List Instr
stamps_twice =
    I.Me ∷ I.Push 0 ∷ I.Bin O.Equal ∷ I.JumpZero 12
    ∷ I.LoadWord ∷ I.Next ∷ I.Exchange 4 ∷ I.LoadWord ∷ I.Next ∷ I.Exchange 7 ∷ I.Scan 0 ∷ I.Jump 27
    ∷ I.LoadWord ∷ I.Next ∷ I.Exchange 12 ∷ I.LoadWord ∷ I.Next ∷ I.Exchange 15 ∷ I.LoadWord ∷ I.Next ∷ I.Exchange 18
    ∷ I.LoadWord ∷ I.Next ∷ I.Exchange 21 ∷ I.LoadWord ∷ I.Next ∷ I.Exchange 24 ∷ I.Halt ∷ []

abbrev comes_back : List ℕ
comes_back =
    replicate 7 0 ++ replicate 7 1 ++ replicate 7 2 ++ replicate 3 1 ++ replicate 2 0 ++ replicate 3 2 ++ replicate 3 1 ++ replicate 3 2
    ++ replicate 3 1 ++ replicate 3 2 ++ replicate 3 1

abbrev stamp_of : ℕ → Event
stamp_of p = record { process = p; act = A.Stamp }

its_word : word (run_of (sizes 3 0 1 0) stamps_twice comes_back).labels ≡ 1970324837172224
its_word = refl

same_labels_again : observables (run_of (sizes 3 0 1 0) stamps_twice (comes_back ++ replicate 2 0)) ≡ record {
  events = map stamp_of (0 ∷ 1 ∷ 2 ∷ 1 ∷ 2 ∷ 1 ∷ 2 ∷ 1 ∷ 2 ∷ 1 ∷ 0 ∷ []) ++ record { process = 0; act = A.Scan (2 ∷ 1 ∷ 0 ∷ 0 ∷ 0 ∷ 0 ∷ []) } ∷ [];
  rows = [];
  statuses = Running ∷ Running ∷ Running ∷ [];
}
same_labels_again = refl
