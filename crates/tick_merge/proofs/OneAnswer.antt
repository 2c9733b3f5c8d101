-- No history is both merged and refused, and none is refused in two ways: `one_answer`.
--
-- A refusal is of a step after a possible beginning (`CanBegin`), or of a process after the whole history. A
-- possible beginning has no refused step in it (`not_refused`). So of two refused steps neither comes before
-- the other (`places`, `within_once`), and one step has one fault only (`same_step`). After the whole history
-- only the first process that fails is refused (`at_end_once`).
-- The difficulty is in `not_refused`: a process that makes its steps of a history within some turns makes its
-- steps of a prefix within them too (`makes_less`). `had_made` is the induction on the number of
-- instructions: it takes them back one by one until the later steps are gone.
-- Read `not_refused` first, then `within_once`.
use Rattle.std.proofs.Common.{◌≡◌, inl, inr, ⊎_elim, ℕ, zero, suc, ◌<◌, ◌≤◌, List, [], ◌∷◌, ◌++◌, length, refl, ap, sym, subst, ◌∙◌, arith}
use Rattle.std.specs.Prelude.{slice_index}
use Rattle.std.proofs.lemmas.Bool.{cases_lt}
use Rattle.std.proofs.lemmas.List.{append-nil, length-append}
use Rattle.word_core.specs.History.{IsLegal}
use Rattle.word_core.specs.declared.history.Shared.{Shared}
use Rattle.word_core.proofs.OfferedHistory.{beginning, next_step}
use Rattle.code_core.specs.Instructions.{StepCode}
use Rattle.code_machine.specs.Machine.{CodeStep, alone, asks, did}
use Rattle.stamp_table.specs.Passes.{by, mine}
use Rattle.stamp_table.proofs.Offered.{mine-append}
use Rattle.tick_merge.specs.Local.{Local, local_start, Makes, IsLocalRun}
use Rattle.tick_merge.specs.Laws.{AllMake}
use Rattle.tick_merge.specs.Refusals.{MakesWithin, CanBegin, IsRefusedAt, IsRefusedWithin, IsRefusedLast, IsRefusedAtEnd, IsRefused, OneAnswerLaw}
use Rattle.tick_merge.specs.declared.fault.MergeFault.{MergeFault}
use Rattle.tick_merge.specs.declared.fault.MergeFault.TheVariants.{NotLegal, NotThisCode, NoMemory}
use Rattle.tick_merge.proofs.Lists.{one_then}

-- a list without its last item still begins with what comes before that
without_last : {X : Type 0} (xs front : List X) (s x : X) (later : List X) → xs ++ s ∷ [] ≡ front ++ x ∷ later → (rest : List X) × (xs ≡ front ++ rest)
without_last xs [] s x later same = (xs, refl)
without_last [] (a ∷ front) s x later same =
    let lengths : length (s ∷ []) ≡ length (a ∷ (front ++ x ∷ later)) = ap length same in
    absurd (omega (arith, lengths, length-append front (x ∷ later)))
without_last (y ∷ xs) (a ∷ front) s x later same =
    let head : y ≡ a = cc in
    let tail : xs ++ s ∷ [] ≡ front ++ x ∷ later = cc in
    let rest = without_last xs front s x later tail in
    (rest.0, λ i. head i ∷ rest.1 i)

-- A process that made these steps first had made just them before.
record HadMade (c : StepCode) (p count : ℕ) (steps : List Shared) : Type 0 where
  pub before : ℕ
  pub few : before ≤ count
  pub local : Local
  pub is_local : IsLocalRun c p before local
  pub own : local.steps ≡ steps

earlier : (c : StepCode) (p count : ℕ) (steps : List Shared) → HadMade c p count steps → HadMade c p (suc count) steps
earlier c p count steps had = record { before = had.before; few = omega (arith, had.few); local = had.local; is_local = had.is_local; own = had.own }

had_made : (c : StepCode) (p count : ℕ) (l : Local) (steps later : List Shared) → IsLocalRun c p count l → l.steps ≡ steps ++ later → HadMade c p count steps
had_made c p count l steps [] run made = record { before = count; few = omega arith; local = l; is_local = run; own = made ∙ append-nil steps }
had_made c p zero l steps (x ∷ later) run made =
    let lengths : length (local_start c).steps ≡ length (steps ++ x ∷ later) = ap length (ap (λ (k : Local). k.steps) (sym run) ∙ made) in
    let none : length (local_start c).steps ≡ 0 = refl in
    absurd (omega (arith, lengths, none, length-append steps (x ∷ later)))
had_made c p (suc count) l steps (x ∷ later) (before, run, step) made =
    let n : ℕ = c.sizes.processes in
    let case : (d : CodeStep) → Makes n p before d l → HadMade c p (suc count) steps =
    λ d makes. elim d as (λ d. Makes n p before d l → HadMade c p (suc count) steps) [
      | alone m ↦ λ makes. earlier c p count steps (had_made c p count before steps (x ∷ later) run (ap (λ (k : Local). k.steps) (sym makes) ∙ made))
      | asks ask answered ↦ λ makes.
          let rest = without_last before.steps steps (by p makes.act) x later (ap (λ (k : Local). k.steps) (sym makes.makes) ∙ made) in
          earlier c p count steps (had_made c p count before steps rest.0 run rest.1)
    ] makes
    in
    case (did n p c.instructions before.process) step.makes

-- so what it makes within a history it makes within a beginning of it
makes_less : (c : StepCode) (p turns : ℕ) (front rest : List Shared) → MakesWithin c p turns (front ++ rest) → MakesWithin c p turns front
makes_less c p turns front rest makes =
    let had = had_made c p makes.count makes.makes.local (mine p front) (mine p rest) makes.makes.is_local (makes.makes.own ∙ mine-append p front rest) in
    record {
      count = had.before;
      few = omega (arith, had.few, makes.few);
      makes = record { local = had.local; is_local = had.is_local; own = had.own };
    }

-- no step is refused in a history that can be a beginning
not_refused : (c : StepCode) (turns : List ℕ) (front rest : List Shared) (step : Shared) (fault : MergeFault) → CanBegin c turns (front ++ step ∷ rest)
    → IsRefusedAt c turns front step fault → ⊥
not_refused c turns front rest step (NotLegal place) can refused =
    let n : ℕ = c.sizes.processes in
    let legal = beginning n c.sizes.rows (front ++ step ∷ []) rest (subst (IsLegal n c.sizes.rows) (sym (one_then front step rest)) can.legal) in
    refused.1 ((next_step n c.sizes.rows front step).0 legal).1
not_refused c turns front rest step (NotThisCode p place) can refused =
    let whose : p ≡ step.process = refused.1 in
    let below : p < c.sizes.processes = subst (λ k. k < c.sizes.processes) (sym whose) refused.2.0 in
    refused.3 (makes_less c p (slice_index turns p) (front ++ step ∷ []) rest
    (subst (MakesWithin c p (slice_index turns p)) (sym (one_then front step rest)) (can.made p below)))
not_refused c turns front rest step NoMemory can refused = refused

-- of two places in one list one is before the other, or they are one
data Apart {X : Type 0} (front other : List X) (x y : X) : Type 0 where
  before : (rest : List X) → other ≡ front ++ x ∷ rest → Apart front other x y
  behind : (rest : List X) → front ≡ other ++ y ∷ rest → Apart front other x y
  same : front ≡ other → x ≡ y → Apart front other x y

one_later : {X : Type 0} (z w : X) (front other : List X) (x y : X) → z ≡ w → Apart front other x y → Apart (z ∷ front) (w ∷ other) x y
one_later z w front other x y is (before rest at) = before rest (λ i. sym is i ∷ at i)
one_later z w front other x y is (behind rest at) = behind rest (λ i. is i ∷ at i)
one_later z w front other x y is (same fronts items) = same (λ i. is i ∷ fronts i) items

places : {X : Type 0} (front other : List X) (x y : X) (rest more : List X) → front ++ x ∷ rest ≡ other ++ y ∷ more → Apart front other x y
places [] [] x y rest more is = same refl (cc)
places [] (w ∷ other) x y rest more is = let head : x ≡ w = cc in before other (λ i. sym head i ∷ other)
places (z ∷ front) [] x y rest more is = let head : z ≡ y = cc in behind front (λ i. head i ∷ front)
places (z ∷ front) (w ∷ other) x y rest more is =
    let head : z ≡ w = cc in
    let tail : front ++ x ∷ rest ≡ other ++ y ∷ more = cc in
    one_later z w front other x y head (places front other x y rest more tail)

-- one step is refused in one way
same_step : (c : StepCode) (turns : List ℕ) (front : List Shared) (step : Shared) (fault other : MergeFault) → IsRefusedAt c turns front step fault
    → IsRefusedAt c turns front step other → fault ≡ other
same_step c turns front step (NotLegal place) (NotLegal at) refused again = ap NotLegal (refused.0 ∙ sym again.0)
same_step c turns front step (NotThisCode p place) (NotThisCode q at) refused again = λ i. NotThisCode ((refused.1 ∙ sym again.1) i) ((refused.0 ∙ sym again.0) i)
same_step c turns front step (NotLegal place) (NotThisCode q at) refused again = absurd (refused.1 again.2)
same_step c turns front step (NotThisCode p place) (NotLegal at) refused again = absurd (again.1 refused.2)
same_step c turns front step NoMemory other refused again = absurd refused
same_step c turns front step fault NoMemory refused again = absurd again

within_once : (c : StepCode) (turns : List ℕ) (history : List Shared) (fault other : MergeFault) → IsRefusedWithin c turns history fault
    → IsRefusedWithin c turns history other → fault ≡ other
within_once c turns history fault other first second =
    let case : Apart first.front second.front first.step second.step → fault ≡ other =
    λ a. elim a as (λ a. fault ≡ other) [
      | before rest at ↦ absurd (not_refused c turns first.front rest first.step fault (subst (CanBegin c turns) at second.begins) first.refused)
      | behind rest at ↦ absurd (not_refused c turns second.front rest second.step other (subst (CanBegin c turns) at first.begins) second.refused)
      | same fronts steps ↦
          same_step c turns second.front second.step fault other
          (subst (λ s. IsRefusedAt c turns second.front s fault) steps (subst (λ f. IsRefusedAt c turns f first.step fault) fronts first.refused)) second.refused
    ]
    in
    case (places first.front second.front first.step second.step first.rest second.rest (sym first.is ∙ second.is))

within_or_end : (c : StepCode) (turns : List ℕ) (history : List Shared) (fault other : MergeFault) → IsRefusedWithin c turns history fault
    → CanBegin c turns history → ⊥
within_or_end c turns history fault other first can =
    not_refused c turns first.front first.rest first.step fault (subst (CanBegin c turns) first.is can) first.refused

at_end_once : (c : StepCode) (turns : List ℕ) (history : List Shared) (fault other : MergeFault) → IsRefusedAtEnd c turns history fault
    → IsRefusedAtEnd c turns history other → fault ≡ other
at_end_once c turns history fault other first second = end_once fault other first.refused second.refused
  where
    end_once : (fault other : MergeFault) → IsRefusedLast c turns history fault → IsRefusedLast c turns history other → fault ≡ other
    end_once (NotThisCode p place) (NotThisCode q at) one two =
        ⊎_elim
        (λ less. absurd (one.2 (two.3 p less)))
        (λ more.
        ⊎_elim
        (λ less. absurd (two.2 (one.3 q less)))
        (λ equal. let is : p ≡ q = omega (arith, more, equal) in λ i. NotThisCode (is i) ((one.0 ∙ sym two.0) i))
        (cases_lt q p))
        (cases_lt p q)
    end_once (NotLegal place) other one two = absurd one
    end_once NoMemory other one two = absurd one
    end_once fault (NotLegal place) one two = absurd two
    end_once fault NoMemory one two = absurd two

one_refusal : (c : StepCode) (turns : List ℕ) (history : List Shared) (fault other : MergeFault) → IsRefused c turns history fault
    → IsRefused c turns history other → fault ≡ other
one_refusal c turns history fault other (inl first) (inl second) = within_once c turns history fault other first second
one_refusal c turns history fault other (inl first) (inr second) = absurd (within_or_end c turns history fault other first second.begins)
one_refusal c turns history fault other (inr first) (inl second) = absurd (within_or_end c turns history other fault second first.begins)
one_refusal c turns history fault other (inr first) (inr second) = at_end_once c turns history fault other first second

-- what is merged can be a beginning
all_begin : (c : StepCode) (turns : List ℕ) (history : List Shared) → IsLegal c.sizes.processes c.sizes.rows history → AllMake c turns history → CanBegin c turns history
all_begin c turns history legal makes = record {
  legal = legal;
  made = λ p below. record { count = slice_index turns p; few = omega arith; makes = makes p below };
}

merged_or : (c : StepCode) (turns : List ℕ) (history : List Shared) (fault : MergeFault) → IsLegal c.sizes.processes c.sizes.rows history → AllMake c turns history
    → IsRefused c turns history fault → ⊥
merged_or c turns history fault legal makes (inl first) = within_or_end c turns history fault fault first (all_begin c turns history legal makes)
merged_or c turns history fault legal makes (inr last) = not_last fault last.refused
  where
    not_last : (fault : MergeFault) → IsRefusedLast c turns history fault → ⊥
    not_last (NotThisCode p place) refused = refused.2 (makes p refused.1)
    not_last (NotLegal place) refused = refused
    not_last NoMemory refused = refused

pub one_answer : OneAnswerLaw
one_answer = record { merged = merged_or; refused = one_refusal }
