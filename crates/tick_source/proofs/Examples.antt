-- Small programs, and what the definitions make of them. All of it is computed.
-- A stamp, a scan and a comparison come first (`in_turn`); then traps, and which one counts where there are two
-- (`left_first`, `operands_first`); then tickets that are given up (`given_up`), a lock for two (`a_lock`), programs of no
-- statement, registers, and a loop.
-- Read `in_turn` first, then `a_lock`.
use Rattle.std.proofs.Common.{◌≡◌, ℕ, List, [], ◌∷◌, ◌++◌, Err, refl, replicate}
use Rattle.base.specs.declared.operator.Op.TheVariants as O
use Rattle.base.specs.Plain.{Expression, number, named, me, binary, assign, get, put, stamp, clear, scan, older, held, out, branch, repeat, Block, nil, cons, WholeProgram}
use Rattle.base.specs.declared.status.Trap.TheVariants as T
use Rattle.base.specs.declared.status.Status.TheVariants.{Running, Ended, Trapped}
use Rattle.base.specs.declared.event.Act.{Act}
use Rattle.base.specs.declared.event.Act.TheVariants as A
use Rattle.base.specs.declared.event.Event.{Event}
use Rattle.tick_source.specs.Values.{value}
use Rattle.tick_source.specs.Source.{source, observables}

abbrev program : ℕ → List ℕ → List ℕ → List ℕ → Block ℕ → WholeProgram ℕ
program n variables scans registers body =
    record { processes = n; span = record { start = 0; end = 0 }; variables = variables; scans = scans; registers = registers; body = body }

abbrev by : ℕ → Act → Event
by p act = record { process = p; act = act }

-- processes 2; var x; scan s; begin stamp; s = scan; x = older s 0 1; out x; end
abbrev stamps_and_compares : WholeProgram ℕ
stamps_and_compares =
    program 2 (0 ∷ []) (0 ∷ []) []
    (cons stamp (cons (scan 0) (cons (older 0 0 (number 0) (number 1)) (cons (out (named 0)) nil))))

-- one process after the other
in_turn : observables (source stamps_and_compares (0 ∷ 0 ∷ 0 ∷ 0 ∷ 0 ∷ 1 ∷ 1 ∷ 1 ∷ 1 ∷ 1 ∷ [])) ≡ record {
  events = by 0 A.Stamp ∷ by 0 (A.Scan (1 ∷ 0 ∷ 0 ∷ 0 ∷ 0 ∷ 0 ∷ [])) ∷ by 0 (A.Older 0 1 0) ∷ by 0 (A.Out 0) ∷ by 0 A.End
      ∷ by 1 A.Stamp ∷ by 1 (A.Scan (0 ∷ 1 ∷ 0 ∷ 0 ∷ 0 ∷ 0 ∷ [])) ∷ by 1 (A.Older 0 1 1) ∷ by 1 (A.Out 1) ∷ by 1 A.End ∷ [];
  rows = [];
  statuses = Ended ∷ Ended ∷ [];
}
in_turn = refl

-- processes 2; var x; begin x = (0 - 1); end
below : observables (source (program 2 (0 ∷ []) [] [] (cons (assign 0 (binary (number 0) O.Sub (number 1))) nil)) (0 ∷ 0 ∷ 1 ∷ [])) ≡ record {
  events = by 0 (A.Trap T.Below) ∷ by 1 (A.Trap T.Below) ∷ [];
  rows = [];
  statuses = Trapped T.Below ∷ Trapped T.Below ∷ [];
}
below = refl

-- the same with (4294967295 + 1)
overflow : value 2 0 [] (binary (number 4294967295) O.Add (number 1)) ≡ Err T.Overflow
overflow = refl

-- the left trap is the meaning, though the right one comes of a smaller expression
left_first : value 2 0 [] (binary (binary (number 1) O.Add (binary (number 0) O.Sub (number 1))) O.Add (binary (number 1) O.Div (number 0))) ≡ Err T.Below
left_first = refl

-- processes 2; var x; scan s; begin x = older s 0 2; end
no_such_process : observables (source (program 2 (0 ∷ []) (0 ∷ []) [] (cons (older 0 0 (number 0) (number 2)) nil)) (0 ∷ [])) ≡ record {
  events = by 0 (A.Trap T.Index) ∷ [];
  rows = [];
  statuses = Trapped T.Index ∷ Running ∷ [];
}
no_such_process = refl

-- x = older s 2 (1 / 0): the operands count before the places are tested
operands_first : observables (source (program 2 (0 ∷ []) (0 ∷ []) [] (cons (older 0 0 (number 2) (binary (number 1) O.Div (number 0))) nil)) (0 ∷ [])) ≡ record {
  events = by 0 (A.Trap T.Zero) ∷ [];
  rows = [];
  statuses = Trapped T.Zero ∷ Running ∷ [];
}
operands_first = refl

-- processes 2; var x; scan s; begin stamp; s = scan; x = held s 1; out x; clear; s = scan; x = held s me; out x; end
-- A process holds its ticket from its stamp to its clear, and the scan after it finds none.
given_up : observables (source (program 2 (0 ∷ []) (0 ∷ []) []
    (cons stamp (cons (scan 0) (cons (held 0 0 (number 1)) (cons (out (named 0))
    (cons clear (cons (scan 0) (cons (held 0 0 me) (cons (out (named 0)) nil)))))))))
    (replicate 9 0)) ≡ record {
      events = by 0 A.Stamp ∷ by 0 (A.Scan (1 ∷ 0 ∷ 0 ∷ 0 ∷ 0 ∷ 0 ∷ [])) ∷ by 0 (A.Held 1 0) ∷ by 0 (A.Out 0)
          ∷ by 0 A.Clear ∷ by 0 (A.Scan (0 ∷ 0 ∷ 0 ∷ 0 ∷ 0 ∷ 0 ∷ [])) ∷ by 0 (A.Held 0 0) ∷ by 0 (A.Out 0) ∷ by 0 A.End ∷ [];
      rows = [];
      statuses = Ended ∷ Running ∷ [];
    }
given_up = refl

-- stamp; clear; clear; stamp: one who gives up what it doesn't hold changes nothing, and the next ticket is 1 again
taken_again : (source (program 2 [] [] [] (cons stamp (cons clear (cons clear (cons stamp nil))))) (replicate 4 1)).tickets ≡ 0 ∷ 1 ∷ []
taken_again = refl

-- x = held s 2, of two processes
none_there : observables (source (program 2 (0 ∷ []) (0 ∷ []) [] (cons (held 0 0 (number 2)) nil)) (0 ∷ [])) ≡ record {
  events = by 0 (A.Trap T.Index) ∷ [];
  rows = [];
  statuses = Trapped T.Index ∷ Running ∷ [];
}
none_there = refl

-- A lock for two: who comes takes a ticket, and waits while the other holds an older one. Process 0 came
-- first; process 1 goes in once it has left.
abbrev the_other : Expression ℕ
the_other = binary (number 1) O.Sub me

a_lock : observables (source (program 2 (0 ∷ []) (0 ∷ []) []
    (cons stamp (cons (assign 0 (number 1))
    (cons (repeat (named 0) (cons (scan 0) (cons (held 0 0 the_other)
    (cons (branch (named 0) (cons (older 0 0 the_other me) nil) nil) nil))))
    (cons (out me) (cons clear nil))))))
    (0 ∷ replicate 7 1 ++ replicate 9 0 ++ replicate 6 1)) ≡ record {
      events = by 0 A.Stamp ∷ by 1 A.Stamp ∷ by 1 (A.Scan (0 ∷ 1 ∷ 0 ∷ 0 ∷ 0 ∷ 0 ∷ [])) ∷ by 1 (A.Held 0 1) ∷ by 1 (A.Older 0 1 1)
          ∷ by 0 (A.Scan (0 ∷ 1 ∷ 0 ∷ 0 ∷ 0 ∷ 0 ∷ [])) ∷ by 0 (A.Held 1 1) ∷ by 0 (A.Older 1 0 0) ∷ by 0 (A.Out 0) ∷ by 0 A.Clear
          ∷ by 1 (A.Scan (0 ∷ 1 ∷ 0 ∷ 0 ∷ 0 ∷ 0 ∷ [])) ∷ by 1 (A.Held 0 0) ∷ by 1 (A.Out 1) ∷ [];
      rows = [];
      statuses = Running ∷ Running ∷ [];
    }
a_lock = refl

-- processes 2; begin end
nothing_to_do : observables (source (program 2 [] [] [] nil) (0 ∷ 0 ∷ 1 ∷ [])) ≡ record {
  events = by 0 A.End ∷ by 1 A.End ∷ [];
  rows = [];
  statuses = Ended ∷ Ended ∷ [];
}
nothing_to_do = refl

no_step : observables (source (program 2 [] [] [] nil) []) ≡ record { events = []; rows = []; statuses = Running ∷ Running ∷ [] }
no_step = refl

-- processes 2; var x; reg r; begin put r (me + 7); x = get r 0; out x; end
registers : observables (source (program 2 (0 ∷ []) [] (0 ∷ []) (cons (put 0 (binary me O.Add (number 7))) (cons (get 0 0 (number 0)) (cons (out (named 0)) nil)))) (1 ∷ 1 ∷ 0 ∷ 1 ∷ [])) ≡ record {
  events = by 1 (A.Put 0 8) ∷ by 1 (A.Get 0 0 0) ∷ by 0 (A.Put 0 7) ∷ by 1 (A.Out 0) ∷ [];
  rows = (7 ∷ 8 ∷ []) ∷ [];
  statuses = Running ∷ Running ∷ [];
}
registers = refl

-- processes 1; var x; begin while (x < 2) { x = (x + 1); } out x; end
abbrev counts_to_two : WholeProgram ℕ
counts_to_two =
    program 1 (0 ∷ []) [] []
    (cons (repeat (binary (named 0) O.Less (number 2)) (cons (assign 0 (binary (named 0) O.Add (number 1))) nil)) (cons (out (named 0)) nil))

-- three tests, two turns, the output and the end
a_loop : observables (source counts_to_two (0 ∷ 0 ∷ 0 ∷ 0 ∷ 0 ∷ 0 ∷ 0 ∷ [])) ≡ record {
  events = by 0 (A.Out 2) ∷ by 0 A.End ∷ [];
  rows = [];
  statuses = Ended ∷ [];
}
a_loop = refl
