-- The merged schedule, computed on histories worked by hand.
use Rattle.std.proofs.Common.{◌≡◌, ℕ, List, [], ◌∷◌, refl}
use Rattle.word_core.specs.declared.history.Shared.{Shared}
use Rattle.word_core.specs.declared.history.SharedAct.TheVariants.{Load, Won, Lost, Clear}
use Rattle.code_core.specs.declared.instr.Instr.TheVariants as I
use Rattle.code_core.specs.Instructions.{sizes, StepCode}
use Rattle.stamp_table.specs.Passes.{by}
use Rattle.tick_merge.specs.Ran.{shared_of}
use Rattle.tick_merge.specs.Merged.{merged}

-- two processes that stamp, scan, and give their tickets up
abbrev comes_and_goes : StepCode
comes_and_goes = record {
  sizes = sizes 2 0 1 0;
  instructions = I.LoadWord ∷ I.Next ∷ I.Exchange 0 ∷ I.Scan 0 ∷ I.Clear ∷ I.Halt ∷ [];
}

-- the words in which process 0 is present, process 1, and both
abbrev first : ℕ
first = 281474976710656

abbrev second : ℕ
second = 562949953421568

abbrev both : ℕ
both = 844424930132224

-- process 1 loses its exchange
abbrev both_stamp : List Shared
both_stamp = by 0 (Load 0) ∷ by 1 (Load 0) ∷ by 0 (Won 0 first) ∷ by 1 (Lost 0 first) ∷ []

is_merged : merged comes_and_goes (3 ∷ 3 ∷ []) both_stamp ≡ 0 ∷ 1 ∷ 0 ∷ 0 ∷ 1 ∷ 1 ∷ []
is_merged = refl

makes_its_steps : shared_of comes_and_goes (0 ∷ 1 ∷ 0 ∷ 0 ∷ 1 ∷ 1 ∷ []) ≡ both_stamp
makes_its_steps = refl

-- process 0 is gone before process 1 scans, and process 1 is still there
abbrev one_goes : List Shared
one_goes =
    by 0 (Load 0) ∷ by 0 (Won 0 first) ∷ by 1 (Load first) ∷ by 1 (Won first both) ∷ by 0 (Load both) ∷ by 0 (Clear both) ∷ by 1 (Load second) ∷ []

goes_merged : merged comes_and_goes (6 ∷ 4 ∷ []) one_goes ≡ 0 ∷ 0 ∷ 0 ∷ 1 ∷ 1 ∷ 1 ∷ 0 ∷ 0 ∷ 1 ∷ 0 ∷ []
goes_merged = refl

goes_steps : shared_of comes_and_goes (0 ∷ 0 ∷ 0 ∷ 1 ∷ 1 ∷ 1 ∷ 0 ∷ 0 ∷ 1 ∷ 0 ∷ []) ≡ one_goes
goes_steps = refl
