-- A process is led to its next step (`leads`), or to the end of its turns (`spends`).
--
-- Both are by induction on the turns that are left. If the next instruction is made alone, the run stands at
-- the same history (`stands_alone`), and there the induction goes on. If it asks, it is the next step of the
-- history (`is_next`), and the run stands at the history with this step (`stands_asks`).
-- The difficulty is that only the end is given: the process by itself comes to it with these steps
-- (`ComesTo`). `goes_on` finds the next instruction from that. By `once_per_answers` the answers decide where
-- a process is. So in the run it stands where it stood on its way to that end, and goes on as it did there.
-- Read `goes_on` first, then `leads`.
use Rattle.std.proofs.Common.{◌≡◌, ◌≢◌, ℕ, zero, suc, ◌+◌, ◌<◌, ◌≤◌, List, [], ◌∷◌, ◌++◌, length, replicate, refl, ap, sym, subst, ◌∙◌, append_assoc, arith}
use Rattle.std.specs.Prelude.{slice_get, Some}
use Rattle.std.proofs.lemmas.List.{append-nil, append_cancel_left}
use Rattle.base.specs.declared.status.Status.TheVariants.{Running}
use Rattle.base.specs.declared.event.Event.{Event}
use Rattle.word_core.specs.History.{Memory, memory_of, Answers, MayFollow}
use Rattle.word_core.specs.declared.history.Shared.{Shared}
use Rattle.code_core.specs.Instructions.{StepCode}
use Rattle.code_core.specs.Verified.{IsVerified}
use Rattle.code_machine.specs.declared.ask.Ask.{Ask}
use Rattle.code_machine.specs.declared.ask.Reply.{Reply}
use Rattle.code_machine.specs.Machine.{CodeProcess, CodeState, Moved, CodeStep, alone, asks, did, state_after}
use Rattle.code_machine.proofs.Offered.{never_stuck_law}
use Rattle.stamp_table.specs.Passes.{by, mine}
use Rattle.tick_merge.specs.Local.{Local, GoesOnBy, Makes, IsLocalRun}
use Rattle.tick_merge.proofs.OneProcess.{once_per_answers, came_by, makes_more}
use Rattle.tick_merge.specs.Ran.{run_under, memory_in, act_by, occurs, events_by}
use Rattle.tick_merge.specs.Merged.{one_further, alone_for}
use Rattle.tick_merge.specs.prover.Standing.{StandsAt, Stands}
use Rattle.tick_merge.proofs.Lists.{get_set_same, occurs-own, occurs-other, one_then}
use Rattle.tick_merge.proofs.Runs.{run_next}
use Rattle.tick_merge.proofs.Served.{asks_own, served}
use Rattle.tick_merge.proofs.Standing.{stands_alone, stands_asks}

-- Process `p` comes to this end by itself, with these steps still to make.
pub record ComesTo (c : StepCode) (p count : ℕ) (steps later : List Shared) : Type 0 where
  pub end : Local
  pub is_local : IsLocalRun c p count end
  pub whole : end.steps ≡ steps ++ later

-- its next instruction leads there
pub record GoesOn (c : StepCode) (p : ℕ) (at : Local) (q : CodeProcess) (later : List Shared) : Type 0 where
  pub next : Local
  pub running : q.status ≡ Running
  pub makes : Makes c.sizes.processes p at (did c.sizes.processes p c.instructions q) next
  pub more : List Shared
  pub steps : at.steps ++ later ≡ next.steps ++ more

module _ (c : StepCode) (few : c.sizes.processes ≤ 6) (p count : ℕ) where
  pub goes_on : (k : ℕ) (q : CodeProcess) (steps later : List Shared) (events : List Event) → ComesTo c p count steps later → (at : StandsAt c p k q steps events)
      → k < count → GoesOn c p at.local q later
  goes_on k q steps later events comes at less =
      let came = came_by c p count (suc k) comes.end (omega (arith, less)) comes.is_local in
      let before : Local = came.is_local.0 in
      let step = came.is_local.2 in
      let whole : at.local.steps ++ later ≡ came.local.steps ++ came.later =
      ap (λ xs. xs ++ later) at.own ∙ sym comes.whole ∙ came.steps in
      let more = makes_more c.sizes.processes p before (did c.sizes.processes p c.instructions before.process) came.local step.makes in
      let same : before ≡ at.local =
      once_per_answers c few p k before at.local (more.0 ++ came.later) later came.is_local.1 at.is_local
      (sym (append_assoc before.steps more.0 came.later) ∙ ap (λ xs. xs ++ came.later) (sym more.1) ∙ sym whole) in
      let stands : before.process ≡ q = ap (λ (l : Local). l.process) same ∙ at.process in
      record {
        next = came.local;
        running = ap (λ (x : CodeProcess). x.status) (sym stands) ∙ step.running;
        makes = subst (λ d. Makes c.sizes.processes p at.local d came.local) (ap (did c.sizes.processes p c.instructions) stands)
            (subst (λ l. Makes c.sizes.processes p l (did c.sizes.processes p c.instructions before.process) came.local) same step.makes);
        more = came.later;
        steps = whole;
      }

  -- where it has come to the end it has made all its steps
  pub at_end : (q : CodeProcess) (steps later : List Shared) (events : List Event) → ComesTo c p count steps later → StandsAt c p count q steps events
      → later ≡ []
  at_end q steps later events comes at =
      let same : comes.end ≡ at.local =
      once_per_answers c few p count comes.end at.local [] later comes.is_local at.is_local
      (append-nil comes.end.steps ∙ comes.whole ∙ ap (λ xs. xs ++ later) (sym at.own)) in
      append_cancel_left steps later [] (sym comes.whole ∙ ap (λ (l : Local). l.steps) same ∙ at.own ∙ sym (append-nil steps))

-- The run went on to this schedule and history by instructions of process `p` alone.
pub record WentOn (c : StepCode) (p count : ℕ) (schedule further : List ℕ) (history : List Shared) : Type 0 where
  pub stands : Stands c further history
  pub within : occurs p further ≤ count
  pub others : (j : ℕ) → j ≢ p → occurs j further ≡ occurs j schedule

-- the run of a verified code
module _ (c : StepCode) (verified : IsVerified c.sizes c.instructions) (few : c.sizes.processes ≤ 6) (p count : ℕ) where
  went_more : (schedule : List ℕ) (further : List ℕ) (history : List Shared) → WentOn c p count (schedule ++ p ∷ []) further history
      → WentOn c p count schedule further history
  went_more schedule further history went = record {
    stands = went.stands;
    within = went.within;
    others = λ j apart. went.others j apart ∙ occurs-other p j schedule apart;
  }

  -- it stands where an instruction that it made alone leaves it
  pub stands_there : (schedule : List ℕ) (q : CodeProcess) (m : Moved) → slice_get (run_under c schedule).processes p ≡ Some q → q.status ≡ Running
      → did c.sizes.processes p c.instructions q ≡ alone m → p < length (run_under c schedule).processes
      → slice_get (run_under c (schedule ++ p ∷ [])).processes p ≡ Some m.process
  stands_there schedule q m there running is inside =
      ap (λ (s : CodeState). slice_get s.processes p) (run_next c schedule p q there running ∙ ap (state_after p (run_under c schedule)) is)
      ∙ get_set_same (run_under c schedule).processes p m.process inside

  pub inside_of : (schedule : List ℕ) → p < c.sizes.processes → p < length (run_under c schedule).processes
  inside_of schedule below = omega (arith, below, (never_stuck_law c.sizes c.instructions verified schedule).safe.many)

  -- the next instruction asks: it is the next step of the history
  pub is_next : (schedule : List ℕ) (history : List Shared) (q : CodeProcess) (step : Shared) (later : List Shared) → Stands c schedule history
      → slice_get (run_under c schedule).processes p ≡ Some q → step.process ≡ p
      → MayFollow c.sizes.processes c.sizes.rows (memory_of c.sizes.processes c.sizes.rows history) step
      → (ask : Ask) (answered : Reply → Moved) → did c.sizes.processes p c.instructions q ≡ asks ask answered
      → (at next : Local) (more : List Shared) → GoesOnBy c.sizes.processes p at ask answered next → at.steps ++ step ∷ later ≡ next.steps ++ more
      → step ≡ by p (act_by (memory_in (run_under c schedule)) ask)
  is_next schedule history q step later stands there whose follows ask answered is at next more by_step steps =
      let n : ℕ = c.sizes.processes in
      let rows : ℕ = c.sizes.rows in
      let m : Memory = memory_in (run_under c schedule) in
      let safe = (never_stuck_law c.sizes c.instructions verified schedule).safe in
      let lists : step ∷ later ≡ by p by_step.act ∷ more =
      append_cancel_left at.steps (step ∷ later) (by p by_step.act ∷ more)
      (steps ∙ ap (λ (l : Local). l.steps ++ more) by_step.makes ∙ append_assoc at.steps (by p by_step.act ∷ []) more) in
      let same : step ≡ by p by_step.act = first_same step (by p by_step.act) later more lists in
      let answers : Answers n rows m p by_step.act =
      subst (λ (s : Shared). Answers n rows m s.process s.act) same
      (subst (λ k. Answers n rows k step.process step.act) (sym stands.memory) follows.1) in
      same ∙ ap (by p) (served n rows p m ask by_step.reply by_step.act by_step.found few safe.labels.are
      (asks_own c.sizes c.instructions p q (safe.each p q there) ask answered is) by_step.fits answers)
    where
      first_same : (x y : Shared) (xs ys : List Shared) → x ∷ xs ≡ y ∷ ys → x ≡ y
      first_same x y xs ys same = cc

  -- led to its next step
  pub leads : (most : ℕ) (schedule : List ℕ) (history : List Shared) (q : CodeProcess) (step : Shared) (later : List Shared) → p < c.sizes.processes
      → Stands c schedule history → slice_get (run_under c schedule).processes p ≡ Some q → occurs p schedule + most ≡ count → step.process ≡ p
      → MayFollow c.sizes.processes c.sizes.rows (memory_of c.sizes.processes c.sizes.rows history) step → ComesTo c p count (mine p history) (step ∷ later)
      → WentOn c p count schedule (schedule ++ (replicate (alone_for c.sizes.processes c.instructions p most q) p ++ p ∷ [])) (history ++ step ∷ [])
  leads zero schedule history q step later below stands there turns whose follows comes =
      let at = stands.each p q there in
      let spent : occurs p schedule ≡ count = omega (arith, turns) in
      let none : step ∷ later ≡ [] =
      at_end c few p count q (mine p history) (step ∷ later) (events_by p (run_under c schedule).events) comes
      (subst (λ k. StandsAt c p k q (mine p history) (events_by p (run_under c schedule).events)) spent at) in
      absurd (cc)
  leads (suc most) schedule history q step later below stands there turns whose follows comes =
      let n : ℕ = c.sizes.processes in
      let code = c.instructions in
      let at = stands.each p q there in
      let on = goes_on c few p count (occurs p schedule) q (mine p history) (step ∷ later) (events_by p (run_under c schedule).events) comes at (omega (arith, turns)) in
      let Goal : CodeStep → Type 0 = λ (d : CodeStep). WentOn c p count schedule (schedule ++ (replicate (one_further Running d (alone_for n code p most)) p ++ p ∷ [])) (history ++ step ∷ []) in
      let case : (d : CodeStep) → did n p code q ≡ d → Makes n p at.local d on.next → Goal d =
      λ d is makes. elim d as (λ d. did n p code q ≡ d → Makes n p at.local d on.next → Goal d) [
        | alone m ↦ λ is makes.
            subst (λ t. WentOn c p count schedule t (history ++ step ∷ []))
            (one_then schedule p (replicate (alone_for n code p most m.process) p ++ p ∷ []))
            (went_more schedule _ (history ++ step ∷ [])
            (leads most (schedule ++ p ∷ []) history m.process step later below
            (stands_alone c schedule history stands p q there on.running m is)
            (stands_there schedule q m there on.running is (inside_of schedule below))
            (omega (arith, turns, occurs-own p schedule)) whose follows comes))
        | asks ask answered ↦ λ is makes.
            let same = is_next schedule history q step later stands there whose follows ask answered is at.local on.next on.more makes on.steps in
            record {
              stands = subst (λ (s : Shared). Stands c (schedule ++ p ∷ []) (history ++ s ∷ [])) (sym same)
                  (stands_asks c schedule history stands p q there on.running verified ask answered is);
              within = omega (arith, turns, occurs-own p schedule);
              others = λ j apart. occurs-other p j schedule apart;
            }
      ] is makes
      in
      subst (λ k. WentOn c p count schedule (schedule ++ (replicate k p ++ p ∷ [])) (history ++ step ∷ []))
      (λ i. one_further (sym on.running i) (did n p code q) (alone_for n code p most))
      (case (did n p code q) refl on.makes)

  -- led to the end of its turns
  pub spends : (most : ℕ) (schedule : List ℕ) (history : List Shared) (q : CodeProcess) → p < c.sizes.processes
      → Stands c schedule history → slice_get (run_under c schedule).processes p ≡ Some q → occurs p schedule + most ≡ count
      → ComesTo c p count (mine p history) [] → WentOn c p count schedule (schedule ++ replicate most p) history
  spends zero schedule history q below stands there turns comes =
      subst (λ t. WentOn c p count schedule t history) (sym (append-nil schedule))
      (record { stands = stands; within = omega (arith, turns); others = λ j apart. refl })
  spends (suc most) schedule history q below stands there turns comes =
      let n : ℕ = c.sizes.processes in
      let at = stands.each p q there in
      let on = goes_on c few p count (occurs p schedule) q (mine p history) [] (events_by p (run_under c schedule).events) comes at (omega (arith, turns)) in
      let Goal : Type 0 = WentOn c p count schedule (schedule ++ replicate (suc most) p) history in
      let case : (d : CodeStep) → did n p c.instructions q ≡ d → Makes n p at.local d on.next → Goal =
      λ d is makes. elim d as (λ d. did n p c.instructions q ≡ d → Makes n p at.local d on.next → Goal) [
        | alone m ↦ λ is makes.
            subst (λ t. WentOn c p count schedule t history) (one_then schedule p (replicate most p))
            (went_more schedule _ history
            (spends most (schedule ++ p ∷ []) history m.process below
            (stands_alone c schedule history stands p q there on.running m is)
            (stands_there schedule q m there on.running is (inside_of schedule below))
            (omega (arith, turns, occurs-own p schedule)) comes))
        | asks ask answered ↦ λ is makes. absurd (no_more at.local on.next on.more (by p makes.act)
            (on.steps ∙ ap (λ (l : Local). l.steps ++ on.more) makes.makes ∙ append_assoc at.local.steps (by p makes.act ∷ []) on.more))
      ] is makes
      in
      case (did n p c.instructions q) refl on.makes
    where
      no_more : (at next : Local) (more : List Shared) (s : Shared) → at.steps ++ [] ≡ at.steps ++ (s ∷ more) → ⊥
      no_more at next more s steps = let none : [] ≡ s ∷ more = append_cancel_left at.steps [] (s ∷ more) steps in cc
