-- Small programs beside their codes: what they show, and which schedules stand for each other.
--
-- Each lemma is one case, computed: both sides come to the same, by `refl`. `seen` is what a program shows,
-- and `seen_of_code` what its code shows. `dropped` makes a schedule of the program from one of the code, and
-- `lifted` the other way. For all programs and schedules the laws are proved in `Dropped.antt` and `Lifted.antt`.
-- The cases are those that are difficult for the maps: an exchange that is lost (`lost`), a process that
-- has stopped (`counts_past`), a trap inside an expression (`trapped_below`), and labels that come back while a
-- stamp is on its way (`back`, `went_around`).
-- `StopsAs` says who has stopped.
-- Read `LedThrough` and `its_run` first.
use Rattle.std.proofs.Common.{◌≡◌, ◌<◌, ℕ, zero, suc, Bool, true, false, List, [], ◌∷◌, ◌++◌, refl, ap, map, replicate, arith, Some}
use Rattle.std.specs.Prelude.{◌==◌}
use Rattle.std.proofs.lemmas.List.Elements.{All-replicate}
use Rattle.base.specs.declared.operator.Op.TheVariants as O
use Rattle.base.specs.declared.status.Status.TheVariants.{Running, Ended, Trapped}
use Rattle.base.specs.declared.status.Trap.TheVariants as T
use Rattle.base.specs.declared.event.Act.{Act}
use Rattle.base.specs.declared.event.Act.TheVariants as A
use Rattle.base.specs.declared.event.Event.{Event}
use Rattle.base.specs.Observables.{Observables}
use Rattle.word_core.specs.Packed.{word}
use Rattle.base.specs.Plain.{number, me, binary, assign, stamp, clear, scan, branch, repeat, nil, cons, WholeProgram}
use Rattle.tick_source.specs.Source.{source_start, source_run, statuses_of}
use Rattle.code_machine.specs.Machine.{CodeState, run_of}
use Rattle.tick_lower.specs.Lowered.{lowered, lowered_sizes}
use Rattle.tick_lower.proofs.Offered.{program, stamps_and_compares, gives_up, counts_to_two}
use Rattle.tick_sim.specs.Maps.{steps_to_commit, dropped, lifted_from, lifted}
use Rattle.tick_sim.specs.Laws.{seen, seen_of_code, running}
use Rattle.tick_sim.specs.Ends.{have_stopped, statuses, code_statuses, CanEnd, IsStuck}

abbrev by : ℕ → Act → Event
by p act = record { process = p; act = act }

abbrev ranks : ℕ → ℕ → ℕ → Act
ranks a b c = A.Scan (a ∷ b ∷ c ∷ 0 ∷ 0 ∷ 0 ∷ [])

-- The code shows this under these steps, which stand for a schedule of the program, which shows the same.
record StandsFor (a : WholeProgram ℕ) (steps schedule : List ℕ) (shown : Observables) : Type 0 where
  code : seen_of_code a steps ≡ shown
  dropped_to : dropped (lowered_sizes a) (lowered a) steps ≡ schedule
  source : seen a schedule ≡ shown

-- The program shows this under a schedule, through which these steps of its code lead, which shows the same.
record LedThrough (a : WholeProgram ℕ) (schedule steps : List ℕ) (shown : Observables) : Type 0 where
  source : seen a schedule ≡ shown
  lifted_to : lifted (lowered_sizes a) (lowered a) schedule ≡ steps
  code : seen_of_code a steps ≡ shown

-- a stamp, a scan, a comparison and an output, of one process and then of the other
abbrev one_after_the_other : List ℕ
one_after_the_other = replicate 5 0 ++ replicate 5 1

abbrev both_whole : Observables
both_whole = record {
  events =
      by 0 A.Stamp ∷ by 0 (ranks 1 0 0) ∷ by 0 (A.Older 0 1 0) ∷ by 0 (A.Out 0) ∷ by 0 A.End
      ∷ by 1 A.Stamp ∷ by 1 (ranks 0 1 0) ∷ by 1 (A.Older 0 1 1) ∷ by 1 (A.Out 1) ∷ by 1 A.End ∷ [];
  rows = [];
  statuses = Ended ∷ Ended ∷ [];
}

-- ten instructions each
its_run : LedThrough stamps_and_compares one_after_the_other (replicate 10 0 ++ replicate 10 1) both_whole
its_run = record { source = refl; lifted_to = refl; code = refl }

-- the first exchange of process 1 is lost, its second is won
abbrev lost_once : List ℕ
lost_once = 0 ∷ 1 ∷ 0 ∷ 1 ∷ 0 ∷ 1 ∷ 1 ∷ 1 ∷ 1 ∷ []

abbrev two_stamps : Observables
two_stamps = record { events = by 0 A.Stamp ∷ by 1 A.Stamp ∷ []; rows = []; statuses = Running ∷ Running ∷ [] }

lost : StandsFor stamps_and_compares lost_once (0 ∷ 1 ∷ []) two_stamps
lost = record { code = refl; dropped_to = refl; source = refl }

-- a loop that counts to two
abbrev counted : Observables
counted = record { events = by 0 (A.Out 2) ∷ by 0 A.End ∷ []; rows = []; statuses = Ended ∷ [] }

counts : LedThrough counts_to_two (replicate 7 0) (replicate 25 0) counted
counts = record { source = refl; lifted_to = refl; code = refl }

-- tests, which nobody sees, are steps of the program
counts_down : dropped (lowered_sizes counts_to_two) (lowered counts_to_two) (replicate 30 0) ≡ replicate 7 0
counts_down = refl

-- nothing stands for a step of a process that has stopped, or that there is not
counts_past : lifted (lowered_sizes counts_to_two) (lowered counts_to_two) (replicate 9 0 ++ 3 ∷ []) ≡ replicate 25 0
counts_past = refl

counts_kept : running counts_to_two (replicate 9 0 ++ 3 ∷ []) ≡ replicate 7 0
counts_kept = refl

-- a trap inside an expression is a step of the program
abbrev goes_below : WholeProgram ℕ
goes_below = program 2 (0 ∷ []) [] [] (cons (assign 0 (binary (number 1) O.Add (binary (number 0) O.Sub (number 1)))) nil)

abbrev below : Observables
below = record { events = by 1 (A.Trap T.Below) ∷ []; rows = []; statuses = Running ∷ Trapped T.Below ∷ [] }

trapped_below : StandsFor goes_below (0 ∷ replicate 6 1) (1 ∷ []) below
trapped_below = record { code = refl; dropped_to = refl; source = refl }

-- Process 0 loads its labels, six stamps of the others bring the same labels back, and its exchange
-- is won.
abbrev stamps_and_scans : WholeProgram ℕ
stamps_and_scans =
    program 3 [] (0 ∷ []) []
    (cons (branch (binary me O.Equal (number 0)) (cons stamp (cons stamp (cons (scan 0) nil))) (cons stamp (cons stamp (cons stamp (cons stamp (cons stamp nil)))))) nil)

abbrev until_back : List ℕ
until_back =
    replicate 7 0 ++ replicate 7 1 ++ replicate 7 2 ++ replicate 3 1 ++ replicate 2 0 ++ replicate 3 2 ++ replicate 3 1 ++ replicate 3 2
    ++ replicate 3 1 ++ replicate 3 2 ++ replicate 3 1

its_word : word (run_of (lowered_sizes stamps_and_scans) (lowered stamps_and_scans) until_back).labels ≡ 1970324837172224
its_word = refl

next_word : word (run_of (lowered_sizes stamps_and_scans) (lowered stamps_and_scans) (until_back ++ 0 ∷ [])).labels ≡ 1970324837172230
next_word = refl

abbrev came_back : Observables
came_back = record {
  events = map (λ p. by p A.Stamp) (0 ∷ 1 ∷ 2 ∷ 1 ∷ 2 ∷ 1 ∷ 2 ∷ 1 ∷ 2 ∷ 1 ∷ 0 ∷ []) ++ by 0 (ranks 2 1 0) ∷ [];
  rows = [];
  statuses = Running ∷ Running ∷ Running ∷ [];
}

abbrev back_steps : List ℕ
back_steps = replicate 2 0 ++ replicate 2 1 ++ replicate 2 2 ++ 1 ∷ 2 ∷ 1 ∷ 2 ∷ 1 ∷ 2 ∷ 1 ∷ 0 ∷ 0 ∷ []

back : StandsFor stamps_and_scans (until_back ++ replicate 2 0) back_steps came_back
back = record { code = refl; dropped_to = refl; source = refl }

-- a ticket is given up; before that the other process is found without one, and after it process 0 itself
abbrev given_up : Observables
given_up = record {
  events =
      by 0 A.Stamp ∷ by 0 (ranks 1 0 0) ∷ by 0 (A.Held 1 0) ∷ by 0 (A.Out 0)
      ∷ by 0 A.Clear ∷ by 0 (ranks 0 0 0) ∷ by 0 (A.Held 0 0) ∷ by 0 (A.Out 0) ∷ by 0 A.End ∷ [];
  rows = [];
  statuses = Ended ∷ Running ∷ [];
}

gave_up : LedThrough gives_up (replicate 9 0) (replicate 15 0) given_up
gave_up = record { source = refl; lifted_to = refl; code = refl }

-- Process 1 loads the labels; process 0 gives its ticket up and takes one again, which brings the same labels
-- back; and the exchange of process 1 is won.
abbrev stamps_and_clears : WholeProgram ℕ
stamps_and_clears = program 2 [] [] [] (cons (repeat (number 1) (cons stamp (cons clear nil))) nil)

abbrev around : List ℕ
around = replicate 5 0 ++ replicate 4 1 ++ replicate 7 0 ++ 1 ∷ []

abbrev taken_again : Observables
taken_again = record { events = by 0 A.Stamp ∷ by 0 A.Clear ∷ by 0 A.Stamp ∷ by 1 A.Stamp ∷ []; rows = []; statuses = Running ∷ Running ∷ [] }

went_around : StandsFor stamps_and_clears around (0 ∷ 0 ∷ 1 ∷ 0 ∷ 0 ∷ 0 ∷ 1 ∷ []) taken_again
went_around = record { code = refl; dropped_to = refl; source = refl }

-- what `have_stopped` says of a program after a schedule, and of its code after one
record StopsAs (a : WholeProgram ℕ) (asked : ℕ → Bool) (schedule steps : List ℕ) (stopped : Bool) : Type 0 where
  source : have_stopped asked a.processes (statuses a schedule) ≡ stopped
  code : have_stopped asked a.processes (code_statuses a steps) ≡ stopped

abbrev every : ℕ → Bool
every p = true

abbrev only : ℕ → ℕ → Bool
only p q = q == p

-- a step too few, and enough
not_yet : StopsAs counts_to_two every (replicate 6 0) (replicate 24 0) false
not_yet = record { source = refl; code = refl }

at_end : StopsAs counts_to_two every (replicate 7 0) (replicate 25 0) true
at_end = record { source = refl; code = refl }

-- one that has trapped has stopped; the other one runs
stopped_by_trap : StopsAs goes_below (only 1) (1 ∷ []) (0 ∷ replicate 6 1) true
stopped_by_trap = record { source = refl; code = refl }

not_both : StopsAs goes_below every (1 ∷ []) (0 ∷ replicate 6 1) false
not_both = record { source = refl; code = refl }

-- nobody is asked for, and one that there is not
nobody : StopsAs goes_below (λ p. false) [] [] true
nobody = record { source = refl; code = refl }

none_there : StopsAs goes_below (only 2) [] [] true
none_there = record { source = refl; code = refl }

-- the exchange of process 1 is lost, and it can end all the same
can_after_a_loss : CanEnd 2 (only 1) (code_statuses stamps_and_compares) (0 ∷ 1 ∷ 0 ∷ 1 ∷ 0 ∷ 1 ∷ [])
can_after_a_loss = (replicate 10 1, All-replicate (λ p. p < 2) 10 1 (omega arith), refl)

-- a loop that is never left
abbrev turns : WholeProgram ℕ
turns = program 1 [] [] [] (cons (repeat (number 1) nil) nil)

turns_on : (more : List ℕ) → source_run 1 more (source_start turns) ≡ source_start turns
turns_on [] = refl
turns_on (zero ∷ more) = turns_on more
turns_on (suc p ∷ more) = turns_on more

never_ends : IsStuck 1 every (statuses turns) []
never_ends more = ap (λ s. have_stopped every 1 (statuses_of s)) (turns_on more)

-- Process 1 has loaded labels that process 0 has changed since. It loses its exchange, and so its next step takes more
-- instructions than the code has: begun here, `lifted` finds no end of it.
abbrev one_stamp : WholeProgram ℕ
one_stamp = program 2 [] [] [] (cons stamp nil)

abbrev changed_since : CodeState
changed_since = run_of (lowered_sizes one_stamp) (lowered one_stamp) (1 ∷ 0 ∷ 0 ∷ 0 ∷ [])

finds_none : lifted_from 2 (lowered one_stamp) (1 ∷ []) changed_since ≡ []
finds_none = refl

takes_five : steps_to_commit 2 (lowered one_stamp) 1 5 changed_since ≡ Some 5
takes_five = refl
