-- Small codes of one process by itself, and what the definitions make of them.
-- The idea. A process that makes its instructions alone is computed (`alone_after`), and what goes alone for so long is a
-- run by itself (`alone_run`, by induction). `counts_to_two` comes to its end so, in 25 instructions. A stamp whose
-- exchange is lost asks for what is shared, so its run is written step by step (`lost_its_exchange`).
-- Read `alone_after` first, then `ran_to_its_end` and `lost_its_exchange`.
use Rattle.std.proofs.Common.{◌≡◌, ℕ, zero, suc, Bool, true, false, [], ◌∷◌, refl, sym, arith}
use Rattle.base.specs.declared.status.Status.{Status}
use Rattle.base.specs.declared.status.Status.TheVariants.{Running, Ended, Trapped}
use Rattle.base.specs.declared.operator.Op.TheVariants as O
use Rattle.code_core.specs.declared.instr.Instr.TheVariants as I
use Rattle.code_core.specs.Instructions.{sizes, StepCode}
use Rattle.word_core.specs.Stamps.{Labels, start_labels, stamped}
use Rattle.word_core.specs.Packed.{word}
use Rattle.word_core.specs.declared.history.SharedAct.TheVariants.{Load, Lost}
use Rattle.word_core.proofs.Offered.{start_are, start_ordered, stamped_are}
use Rattle.code_machine.specs.declared.ask.Reply.TheVariants as R
use Rattle.code_machine.specs.Machine.{CodeStep, alone, asks, did, start_process, loads, stamps, exchanges}
use Rattle.tick_merge.specs.Local.{Local, local_start, moved_alone, moved_with, Makes, IsLocalRun, outputs_of}

-- it runs, and makes its next instruction alone
abbrev goes_alone : Status → CodeStep → Bool
goes_alone Running (alone m) = true
goes_alone Running (asks ask answered) = false
goes_alone _ d = false

abbrev after_alone : ℕ → Local → CodeStep → Local
after_alone p l (alone m) = moved_alone p l m
after_alone p l (asks ask answered) = l

abbrev did_next : StepCode → ℕ → Local → CodeStep
did_next c p l = did c.sizes.processes p c.instructions l.process

abbrev alone_after : StepCode → ℕ → ℕ → Local
alone_after c p zero = local_start c
alone_after c p (suc count) = after_alone p (alone_after c p count) (did_next c p (alone_after c p count))

abbrev all_alone : StepCode → ℕ → ℕ → Bool
all_alone c p zero = true
all_alone c p (suc count) =
    elim (goes_alone (alone_after c p count).process.status (did_next c p (alone_after c p count))) as (λ b. Bool) [
      | true ↦ all_alone c p count
      | false ↦ false
    ]

-- counts to two and gives it out
abbrev counts_to_two : StepCode
counts_to_two = record {
  sizes = sizes 1 1 0 0;
  instructions =
      I.Load 0 ∷ I.Push 2 ∷ I.Bin O.Less ∷ I.JumpZero 9 ∷ I.Load 0 ∷ I.Push 1 ∷ I.Bin O.Add ∷ I.Store 0 ∷ I.Jump 0 ∷ I.Load 0 ∷ I.Out ∷ I.Halt ∷ [];
}

after_24 : (alone_after counts_to_two 0 24).process.status ≡ Running
after_24 = refl

after_25 : (alone_after counts_to_two 0 25).process.status ≡ Ended
after_25 = refl

gave_two : outputs_of (alone_after counts_to_two 0 25).events ≡ 2 ∷ []
gave_two = refl

both_of : (b x : Bool) → (elim b as (λ b. Bool) [ true ↦ x | false ↦ false ]) ≡ true → (b ≡ true) × (x ≡ true)
both_of true x holds = (refl, holds)
both_of false x holds = absurd (cc)

is_alone : (l : Local) (n p : ℕ) (d : CodeStep) (s : Status) → s ≡ l.process.status → goes_alone s d ≡ true
    → (l.process.status ≡ Running) × Makes n p l d (after_alone p l d)
is_alone l n p (alone m) Running same holds = (sym same, refl)
is_alone l n p (asks ask answered) Running same holds = absurd (cc)
is_alone l n p d Ended same holds = absurd (cc)
is_alone l n p d (Trapped t) same holds = absurd (cc)

-- what goes alone for so long is a run
alone_run : (c : StepCode) (p count : ℕ) → all_alone c p count ≡ true → IsLocalRun c p count (alone_after c p count)
alone_run c p zero holds = refl
alone_run c p (suc count) holds =
    let both = both_of (goes_alone (alone_after c p count).process.status (did_next c p (alone_after c p count))) (all_alone c p count) holds in
    let one = is_alone (alone_after c p count) c.sizes.processes p (did_next c p (alone_after c p count)) (alone_after c p count).process.status refl both.0 in
    (alone_after c p count, alone_run c p count both.1, record { running = one.0; makes = one.1 })

ran_to_its_end : IsLocalRun counts_to_two 0 25 (alone_after counts_to_two 0 25)
ran_to_its_end = alone_run counts_to_two 0 25 refl

-- a stamp, whose exchange is lost: process 1 has stamped in between
abbrev stamps_once : StepCode
stamps_once = record { sizes = sizes 2 0 0 0; instructions = I.LoadWord ∷ I.Next ∷ I.Exchange 0 ∷ I.Halt ∷ [] }

abbrev none : Labels
none = start_labels 2

abbrev others : Labels
others = stamped 1 none

abbrev has_loaded : Local
has_loaded = moved_with 0 (local_start stamps_once) (Load (word none)) (loads (start_process stamps_once.sizes) (R.Word none))

abbrev has_stamped : Local
has_stamped = moved_alone 0 has_loaded (stamps has_loaded.process 0)

abbrev has_lost : Local
has_lost = moved_with 0 has_stamped (Lost (word none) (word others)) (exchanges has_stamped.process 0 (R.Lost others))

lost_its_exchange : IsLocalRun stamps_once 0 3 has_lost
lost_its_exchange = (
  has_stamped,
  (
    has_loaded,
    (
      local_start stamps_once,
      refl,
      record { running = refl; makes = record { reply = R.Word none; act = Load (word none); found = 0; labels = start_are 2; fits = refl; makes = refl } },
    ),
    record { running = refl; makes = refl },
  ),
  record {
    running = refl;
    makes = record {
      reply = R.Lost others;
      act = Lost (word none) (word others);
      found = 0;
      labels = stamped_are 2 1 none (start_are 2) (start_ordered 2) (omega arith);
      fits = refl;
      makes = refl;
    };
  },
)

-- it begins its stamp again, and has made two steps on what is shared
goes_back : has_lost.process.place ≡ 0
goes_back = refl

two_steps : has_lost.steps ≡ record { process = 0; act = Load 0 } ∷ record { process = 0; act = Lost 0 562949953421312 } ∷ []
two_steps = refl
