-- The two maps item by item, as the code makes them: `down_more` and `up_more`, with `all_done` at the end.
--
-- Both loops keep the same invariant: what was made so far, with what the map makes of the rest, is the
-- whole. One item more unrolls the definition once (`next_item`); at the end the whole is made (`made`). For `lifted` an inner loop makes the steps of one item:
-- `leads_on` says where each of them leads, one that ends none of the program (`goes_on`) and the one that does.
-- The difficulty is that this inner loop has to come to such a step within the length of the code. It does
-- where all processes stand between two steps of the program (`running_commits`). After each item they stand
-- so again (`item_rests`).
-- What holds of each item of a schedule holds of each that the maps make (`down_lawful`, `up_lawful`).
-- Read `down_more` first, then `leads_on`.
use Rattle.std.proofs.Common.{◌≡◌, ℕ, suc, ◌+◌, ◌-◌, ◌<◌, ◌≤◌, Bool, true, false, if◌then◌else◌, List, [], ◌∷◌, ◌++◌, All, length, drop, replicate, get_or, refl, ap, sym, ◌∙◌, subst, arith, append_assoc, Option, Some, None}
use Rattle.std.specs.Prelude.{slice_get}
use Rattle.std.proofs.Math.Seq.{drop-cons, drop-length}
use Rattle.std.proofs.lemmas.List.{append-nil}
use Rattle.std.proofs.lemmas.List.Elements.{All-nil, All-cons, All-append, All-replicate}
use Rattle.std.proofs.lemmas.Option.{same_Some, none-some}
use Rattle.base.specs.declared.status.Status.{Status}
use Rattle.base.specs.declared.status.Status.TheVariants.{Running}
use Rattle.code_core.specs.declared.instr.Instr.{Instr}
use Rattle.code_core.specs.Instructions.{StepCode}
use Rattle.base.specs.Plain.{WholeProgram}
use Rattle.tick_source.specs.Source.{SourceState, source_step}
use Rattle.tick_lower.specs.Lowered.{lowered, lowered_sizes}
use Rattle.code_machine.specs.Machine as C
use Rattle.code_machine.specs.Machine.{CodeState}
use Rattle.tick_sim.specs.Maps.{is_commit, one_more, steps_to_commit, repeated, steps_of, dropped_from, dropped, lifted_from, lifted}
use Rattle.tick_sim.specs.Laws.{seen, seen_of_code}
use Rattle.tick_sim.proofs.Pairs.{first_at}
use Rattle.tick_sim.proofs.States.{AllBetween}
use Rattle.tick_sim.proofs.Lifted.{steps_by, never_commits, EndsWithin, running_ends, between_status, moves, stays, turn, lift_law}
use Rattle.tick_sim.proofs.Dropped.{drop_law}
use Rattle.tick_sim.proofs.Reached.{told_part, ends_stopped}

-- where the whole schedule is done nothing more is added
pub all_done : (f : List ℕ → List ℕ) → f [] ≡ [] → (i : ℕ) (schedule steps last : List ℕ) → length schedule ≤ i
    → i ≤ length schedule
    → steps ++ f (drop i schedule) ≡ last → steps ≡ last
all_done f none i schedule steps last past within is =
    let done : length schedule ≡ i = omega arith in
    sym (append-nil steps) ∙ ap (λ t. steps ++ t) (sym none)
    ∙ ap (λ t. steps ++ f t) (sym (drop-length schedule) ∙ ap (λ j. drop j schedule) done) ∙ is

-- What a map makes of the rest of a schedule, once one item more is done: what was made of that item comes
-- before what the map makes of those behind it.
next_item : (f : List ℕ → CodeState → List ℕ) (i : ℕ) (schedule steps steps' : List ℕ) (d d' after : CodeState) (last : List ℕ)
    → i < length schedule → d' ≡ after
    → steps' ++ f (drop (suc i) schedule) after ≡ steps ++ f (get_or schedule i 0 ∷ drop (suc i) schedule) d
    → steps ++ f (drop i schedule) d ≡ last → steps' ++ f (drop (i + 1) schedule) d' ≡ last
next_item f i schedule steps steps' d d' after last inside step item whole =
    let next : i + 1 ≡ suc i = omega arith in
    ap (λ j. steps' ++ f (drop j schedule) d') next
    ∙ ap (λ d. steps' ++ f (drop (suc i) schedule) d) step
    ∙ item
    ∙ ap (λ t. steps ++ f t d) (sym (drop-cons schedule i 0 inside))
    ∙ whole

-- the code of a program, with its sizes
abbrev pub low_code : WholeProgram ℕ → StepCode
low_code a = record { sizes = lowered_sizes a; instructions = lowered a }

-- what a map made of a whole schedule
pub record IsMade {X : Type 0} (processes : ℕ) (whole steps : List ℕ) (show : List ℕ → X) (shown : X) : Type 0 where
  pub is : steps ≡ whole
  pub shows : show steps ≡ shown
  pub lawful : All (λ p. p < processes) steps

-- A map, by what it makes of a schedule where the code goes on from a state; and what a program and its code
-- show under what it makes.
module _ (from : ℕ → List Instr → List ℕ → CodeState → List ℕ) (none : (n : ℕ) (code : List Instr) (d : CodeState) → from n code [] d ≡ [])
    (keeps : (n : ℕ) (code : List Instr) (processes : ℕ) (schedule : List ℕ) (d : CodeState) → All (λ p. p < processes) schedule
    → All (λ p. p < processes) (from n code schedule d)) where
  abbrev answer : StepCode → List ℕ → List ℕ
  answer code schedule = from code.sizes.processes code.instructions schedule (C.code_start code.sizes)

  pub made : {X : Type 0} (show : List ℕ → X) (shown : X) (low code : StepCode) (schedule : List ℕ) → show (answer low schedule) ≡ shown → code ≡ low
      → (processes : ℕ) → All (λ p. p < processes) schedule
      → (i : ℕ) (steps : List ℕ) (d : CodeState) → length schedule ≤ i → i ≤ length schedule
      → steps ++ from code.sizes.processes code.instructions (drop i schedule) d ≡ answer code schedule
      → IsMade processes (answer code schedule) steps show shown
  made show shown low code schedule law same processes lawful i steps d past within so_far =
      let is =
      all_done (λ t. from code.sizes.processes code.instructions t d) (none code.sizes.processes code.instructions d) i schedule steps
      (answer code schedule) past within so_far in
      record {
        is = is;
        shows = ap show (is ∙ ap (λ c. answer c schedule) same) ∙ law;
        lawful = subst (All (λ p. p < processes)) (sym is)
            (keeps code.sizes.processes code.instructions processes schedule (C.code_start code.sizes) lawful);
      }

module _ (n : ℕ) (code : List Instr) where
  -- what is kept of a lawful schedule is lawful
  pub dropped_lawful : (P : ℕ → Type 0) (schedule : List ℕ) (d : CodeState) → All P schedule
      → All P (dropped_from n code schedule d)
  dropped_lawful P [] d all = All-nil P
  dropped_lawful P (p ∷ schedule) d all =
      let later = dropped_lawful P schedule (C.code_step n code p d) (λ k x inside. all (suc k) x (omega arith)) in
      elim (is_commit n code p d) as (λ b. All P
      (if b then p ∷ dropped_from n code schedule (C.code_step n code p d) else dropped_from n code schedule
      (C.code_step n code p d))) [
        | true ↦ All-cons P p (dropped_from n code schedule (C.code_step n code p d)) (all 0 p (omega arith)) later
        | false ↦ later
      ]

  -- one item of a schedule of the code, whose step ended a step of the program, or none
  pub dropped_more : (i : ℕ) (schedule steps steps' : List ℕ) (d d' : CodeState) (ends : Bool) (last : List ℕ) → i < length schedule
      → ends ≡ is_commit n code (get_or schedule i 0) d → d' ≡ C.code_step n code (get_or schedule i 0) d
      → steps' ≡ (if ends then steps ++ get_or schedule i 0 ∷ [] else steps)
      → steps ++ dropped_from n code (drop i schedule) d ≡ last → steps' ++ dropped_from n code (drop (i + 1) schedule) d' ≡ last
  dropped_more i schedule steps steps' d d' ends last inside told step grown whole =
      let p : ℕ = get_or schedule i 0 in
      let later : List ℕ = dropped_from n code (drop (suc i) schedule) (C.code_step n code p d) in
      next_item (dropped_from n code) i schedule steps steps' d d' (C.code_step n code p d) last inside step
      (ap (λ s. s ++ later) grown ∙ by p later ends ∙ ap (λ b. steps ++ (if b then p ∷ later else later)) told) whole
    where
      by : (p : ℕ) (later : List ℕ) (b : Bool) → (if b then steps ++ p ∷ [] else steps) ++ later ≡ steps ++ (if b then p ∷ later else later)
      by p later true = append_assoc steps (p ∷ []) later
      by p later false = refl

  -- one item of a schedule of the program
  pub lifted_more : (i : ℕ) (schedule steps steps' : List ℕ) (d d' : CodeState) (last : List ℕ) → i < length schedule
      → d' ≡ C.code_run n code (steps_of n code (get_or schedule i 0) d) d
      → steps' ≡ steps ++ steps_of n code (get_or schedule i 0) d
      → steps ++ lifted_from n code (drop i schedule) d ≡ last → steps' ++ lifted_from n code (drop (i + 1) schedule) d' ≡ last
  lifted_more i schedule steps steps' d d' last inside run grown whole =
      let more : List ℕ = steps_of n code (get_or schedule i 0) d in
      let later : List ℕ = lifted_from n code (drop (suc i) schedule) (C.code_run n code more d) in
      next_item (lifted_from n code) i schedule steps steps' d d' (C.code_run n code more d) last inside run
      (ap (λ s. s ++ later) grown ∙ append_assoc steps more later) whole

  repeated_lawful : (P : ℕ → Type 0) (p : ℕ) (o : Option ℕ) → P p → All P (repeated p o)
  repeated_lawful P p None lawful = All-nil P
  repeated_lawful P p (Some k) lawful = All-replicate P k p lawful

  pub lifted_lawful : (P : ℕ → Type 0) (schedule : List ℕ) (d : CodeState) → All P schedule
      → All P (lifted_from n code schedule d)
  lifted_lawful P [] d all = All-nil P
  lifted_lawful P (p ∷ schedule) d all =
      All-append P (steps_of n code p d) (lifted_from n code schedule (C.code_run n code (steps_of n code p d) d))
      (repeated_lawful P p (steps_to_commit n code p (length code) d) (all 0 p (omega arith)))
      (lifted_lawful P schedule (C.code_run n code (steps_of n code p d) d) (λ k x inside. all (suc k) x (omega arith)))

  -- where all stand between two steps a process that runs commits
  pub running_commits : (p : ℕ) (s : SourceState) (d : CodeState) → AllBetween n code s d
      → slice_get (C.statuses_of d) p ≡ Some Running → EndsWithin n code (length code) p s d
  running_commits p s d all at_status =
      let there = told_part (λ q. q.status) d.processes p Running at_status in
      let other = first_at s.processes d.processes p there.0 all.processes.many there.1 in
      let same = between_status n code other.0 there.0 (all.processes.each p other.0 there.0 other.1 there.1) in
      running_ends n code p s d other.0 there.0 all other.1 there.1 (same ∙ there.2)

  -- and after one item they do again
  pub item_rests : (p : ℕ) (s : SourceState) (d d' : CodeState) → AllBetween n code s d
      → d' ≡ C.code_run n code (steps_of n code p d) d → (s' : SourceState) × AllBetween n code s' d'
  item_rests p s d d' all run =
      elim (turn n code p s d all) as (λ w. (s' : SourceState) × AllBetween n code s' d') [
        | moves (k, steps, after) kept ↦ (
          source_step n p s,
          subst (AllBetween n code (source_step n p s))
              (sym (run ∙ ap (λ t. C.code_run n code t d) (ap (repeated p) steps))) after,
        )
        | stays steps kept same
            ↦ (
              s,
              subst (AllBetween n code s)
                  (sym (run ∙ ap (λ t. C.code_run n code t d) (ap (repeated p) (steps (length code))))) all,
            )
      ]

  -- a process that has stopped makes no step
  pub stopped_makes_none : (p : ℕ) (d : CodeState) (status : Status) → slice_get (C.statuses_of d) p ≡ Some status
      → (status ≡ Running → ⊥) → steps_of n code p d ≡ []
  stopped_makes_none p d status at_status other =
      let nothing = ends_stopped n code p d status at_status other in
      ap (repeated p) (never_commits n code p (length code) d nothing.0 nothing.1)

  -- what is left until a commit, after a step that ends none, and at the one that ends one
  one_less : (o : Option ℕ) (k : ℕ) → one_more o ≡ Some k → (j : ℕ) × (o ≡ Some j) × (k ≡ suc j)
  one_less None k is = absurd (none-some k is)
  one_less (Some j) k is = (j, refl, sym (same_Some (suc j) k is))

  pub left_after : (p fuel k : ℕ) (d : CodeState) → is_commit n code p d ≡ false
      → steps_to_commit n code p (suc fuel) d ≡ Some k
      → (j : ℕ) × (steps_to_commit n code p fuel (C.code_step n code p d) ≡ Some j) × (k ≡ suc j)
  left_after p fuel k d quiet is =
      one_less (steps_to_commit n code p fuel (C.code_step n code p d)) k
      (sym (steps_by n code p fuel d false quiet) ∙ is)

  pub left_at : (p fuel k : ℕ) (d : CodeState) → is_commit n code p d ≡ true
      → steps_to_commit n code p (suc fuel) d ≡ Some k → k ≡ 1
  left_at p fuel k d ends is = sym (same_Some 1 k (sym (steps_by n code p fuel d true ends) ∙ is))

  -- A step of the inner loop, where so many steps were left until one that ends a step of the program: one that
  -- ends none leaves one less, and the one that ends one is the last.
  pub record LeadsOn (p counter : ℕ) (steps whole : List ℕ) (d d' last : CodeState) : Type 0 where
    pub goes_on : is_commit n code p d ≡ false → (j : ℕ) × (steps_to_commit n code p (length code - (counter + 1)) d' ≡ Some j)
        × (steps ++ replicate j p ≡ whole) × (C.code_run n code (replicate j p) d' ≡ last)
    pub is_last : is_commit n code p d ≡ true → (steps ≡ whole) × (d' ≡ last)

  pub leads_on : (p k counter : ℕ) (steps steps' whole : List ℕ) (d d' last : CodeState) → counter < length code
      → d' ≡ C.code_step n code p d → steps' ≡ steps ++ p ∷ [] → steps_to_commit n code p (length code - counter) d ≡ Some k
      → steps ++ replicate k p ≡ whole → C.code_run n code (replicate k p) d ≡ last → LeadsOn p counter steps' whole d d' last
  leads_on p k counter steps steps' whole d d' last inside step grown is all run =
      let fuel : ℕ = length code - (counter + 1) in
      let same : length code - counter ≡ suc fuel = omega arith in
      let left : steps_to_commit n code p (suc fuel) d ≡ Some k = ap (λ f. steps_to_commit n code p f d) (sym same) ∙ is in
      record {
        goes_on = λ quiet.
            let less = left_after p fuel k d quiet left in
            let j : ℕ = less.0 in (
              j,
              ap (steps_to_commit n code p fuel) step ∙ less.1,
              ap (λ s. s ++ replicate j p) grown ∙ append_assoc steps (p ∷ []) (replicate j p)
                  ∙ ap (λ k. steps ++ replicate k p) (sym less.2) ∙ all,
              ap (C.code_run n code (replicate j p)) step ∙ ap (λ k. C.code_run n code (replicate k p) d) (sym less.2) ∙ run,
            );
        is_last = λ ends.
            let one : k ≡ 1 = left_at p fuel k d ends left in (
              grown ∙ ap (λ k. steps ++ replicate k p) (sym one) ∙ all,
              step ∙ ap (λ k. C.code_run n code (replicate k p) d) (sym one) ∙ run,
            );
      }

-- what `lift` made of a whole schedule
pub expanded : (a : WholeProgram ℕ) (code : StepCode) (schedule steps : List ℕ) (d : CodeState) (i : ℕ) → code ≡ low_code a → All (λ p. p < a.processes) schedule
    → length schedule ≤ i → i ≤ length schedule → steps ++ lifted_from code.sizes.processes code.instructions (drop i schedule) d ≡ lifted code.sizes code.instructions schedule
    → IsMade a.processes (lifted code.sizes code.instructions schedule) steps (seen_of_code a) (seen a schedule)
expanded a code schedule steps d i same lawful =
    made lifted_from (λ n code d. refl) (λ n code processes. lifted_lawful n code (λ p. p < processes)) (seen_of_code a) (seen a schedule) (low_code a) code schedule (sym (lift_law a schedule)) same a.processes lawful i steps d

-- and what `drop` made
pub projected : (a : WholeProgram ℕ) (code : StepCode) (schedule steps : List ℕ) (d : CodeState) (i : ℕ) → code ≡ low_code a → All (λ p. p < a.processes) schedule
    → length schedule ≤ i → i ≤ length schedule → steps ++ dropped_from code.sizes.processes code.instructions (drop i schedule) d ≡ dropped code.sizes code.instructions schedule
    → IsMade a.processes (dropped code.sizes code.instructions schedule) steps (seen a) (seen_of_code a schedule)
projected a code schedule steps d i same lawful =
    made dropped_from (λ n code d. refl) (λ n code processes. dropped_lawful n code (λ p. p < processes)) (seen a) (seen_of_code a schedule) (low_code a) code schedule (sym (drop_law a schedule)) same a.processes lawful i steps d
