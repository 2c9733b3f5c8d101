-- The relations between a process of a program and the same process of its code.
--
-- The central one is `Matches`. It has a case for each situation that the code can be in while the
-- program stands before its next step:
--
--     stopped        both have stopped in the same way
--     inside         quiet steps lead to the end of the next step, or to a stamp
--     has_loaded     a stamp has loaded the labels, and makes the next label
--     has_labelled   it has made the next label, and exchanges the labels
--
-- What leads to the end of a step (`Leads`) ends `Between` two steps again, and there the program alone says
-- which code stands at the place. So nothing is circular: `Between` speaks of code and statements, `Leads` of
-- `Between`, and `Matches` of `Leads`.
use Rattle.std.proofs.Common.{◌≡◌, ℕ, suc, ◌+◌, ◌≤◌, true, false, List, [], ◌∷◌, Result, Ok, Err, Option, Some, None}
use Rattle.std.specs.Prelude.{slice_get}
use Rattle.base.specs.declared.status.Status.{Status}
use Rattle.base.specs.declared.status.Status.TheVariants.{Running}
use Rattle.base.specs.declared.status.Trap.{Trap}
use Rattle.code_core.specs.declared.instr.Instr.{Instr}
use Rattle.code_core.specs.declared.instr.Instr.TheVariants as I
use Rattle.word_core.specs.Stamps.{Labels, stamped}
use Rattle.word_core.specs.Agreement.{Agrees}
use Rattle.base.specs.Plain.{stamp, Block, cons}
use Rattle.tick_source.specs.Source as S
use Rattle.tick_source.specs.Source.{SourceProcess, SourceState}
use Rattle.code_machine.specs.Machine as C
use Rattle.code_machine.specs.Machine.{CodeProcess, CodeState, CodeStep, alone, made, labels_left, rows_left}
use Rattle.tick_lower.proofs.Offered.{HasAt}
use Rattle.tick_sim.specs.Maps.{ended, ended_at}
use Rattle.tick_sim.proofs.Scans.{ScansAgree}
use Rattle.tick_sim.proofs.Stands.{StandsAt}

-- ended, or trapped
abbrev pub HasStopped : Status → Type 0
HasStopped Running = ⊥
HasStopped _ = Unit {0}

-- the process at this place, with this stack
abbrev pub at : CodeProcess → ℕ → List ℕ → CodeProcess
at q place stack = record q { place = place; stack = stack }

-- both run, with the same variables and with scans that agree
abbrev pub RunAlike : ℕ → SourceProcess → CodeProcess → Type 0
RunAlike n x y =
    (x.status ≡ Running) × (y.status ≡ Running) × (x.variables ≡ y.variables) × ScansAgree n x.scans y.scans

-- Between two steps of the program: both have stopped, or the code at the place does what remains.
pub data Between (n : ℕ) (code : List Instr) (x : SourceProcess) (y : CodeProcess) : Type 0 where
  over : x.status ≡ y.status → HasStopped x.status → Between n code x y
  rests : RunAlike n x y → y.stack ≡ [] → StandsAt code y.place x.rest → Between n code x y

-- At place `k` a stamp begins, the first of the statements that remain.
pub record StampBegins (code : List Instr) (rest : Block ℕ) (k : ℕ) (stack : List ℕ) : Type 0 where
  pub after : Block ℕ
  pub is : rest ≡ cons stamp after
  pub empty : stack ≡ []
  pub has : HasAt code k (I.LoadWord ∷ I.Next ∷ I.Exchange k ∷ [])
  pub stands : StandsAt code (k + 3) after

module _ (n : ℕ) (code : List Instr) (p : ℕ) where
  -- Instruction `o` ended a step of the program, and what it did, `e`, is what that step did, `d`.
  pub record SameStep (labels : Labels) (rows : List (List ℕ)) (d : S.SourceStep) (e : CodeStep) (o : Option Instr) : Type 0 where
    pub ends : ended_at o (made labels rows e).act ≡ true
    pub agrees : Agrees n d.tickets (labels_left p e labels)
    pub same_rows : d.rows ≡ rows_left p e rows
    pub same_act : d.act ≡ (made labels rows e).act
    pub between : Between n code d.process (made labels rows e).process

  -- Process `q` runs this code, and `scans` are those of the program.
  module _ (q : CodeProcess) (scans : List (List ℕ)) (rest : Block ℕ) where
    -- From this place, with this stack, at most so many steps end the next step of the program, unless an
    -- exchange is lost: quiet ones, which change the place and the stack alone and ask for nothing that is
    -- shared, and then the instruction that ends it, whatever is shared, or a stamp.
    pub data Leads : ℕ → ℕ → List ℕ → Type 0 where
      ends_here : {m k : ℕ} {stack : List ℕ} → 1 ≤ m → (i : Instr) → slice_get code k ≡ Some i
          → ((tickets : List ℕ) (labels : Labels) (rows : List (List ℕ)) → Agrees n tickets labels
          → SameStep labels rows (S.did n p tickets rows q.variables scans rest) (C.does (at q k stack) n p i) (Some i))
          → Leads m k stack
      stamps : {m k : ℕ} {stack : List ℕ} → 3 ≤ m → StampBegins code rest k stack → Leads m k stack
      quietly : {m k k' : ℕ} {stack stack' : List ℕ} (i : Instr) → slice_get code k ≡ Some i
          → C.does (at q k stack) n p i ≡ alone (record { process = at q k' stack'; act = None }) → ended i None ≡ false
          → Leads m k' stack' → Leads (suc m) k stack

    -- After an expression: with its value on the stack, or else the statement traps as the expression does.
    abbrev pub LeadsWith : ℕ → ℕ → List ℕ → Result ℕ Trap → Type 0
    LeadsWith m k stack (Ok v) = Leads m k (v ∷ stack)
    LeadsWith m k stack (Err t) =
        (after : Block ℕ) × ((tickets : List ℕ) (rows : List (List ℕ))
        → S.did n p tickets rows q.variables scans rest ≡ S.traps n p tickets rows q.variables scans after t)

  -- Process `y` runs at such a place, with such a stack.
  pub record IsInside (m : ℕ) (x : SourceProcess) (y : CodeProcess) : Type 0 where
    pub process : CodeProcess
    pub place : ℕ
    pub stack : List ℕ
    pub is : y ≡ at process place stack
    pub alike : RunAlike n x process
    pub leads : Leads process x.scans x.rest m place stack

  -- Instruction `o` ended no step of the program, and nobody sees what it did, `e`.
  abbrev pub Unseen : Labels → List (List ℕ) → CodeStep → Option Instr → Type 0
  Unseen labels rows e o =
      (ended_at o (made labels rows e).act ≡ false) × (labels_left p e labels ≡ labels) × (rows_left p e rows ≡ rows)
      × ((made labels rows e).act ≡ None)

  -- `Loaded` is what is known of the labels that a stamp has loaded: it may be nothing.
  module _ (Loaded : Labels → Type 0) where
    -- At most so many steps of process `p` end the next step of the program, unless an exchange is lost.
    pub data Matches (m : ℕ) (x : SourceProcess) (y : CodeProcess) : Type 0 where
      stopped : x.status ≡ y.status → HasStopped x.status → Matches m x y
      inside : IsInside m x y → Matches m x y
      has_loaded : (k : ℕ) → 2 ≤ m → y.place ≡ k + 1 → Loaded y.scratch → RunAlike n x y
          → StampBegins code x.rest k y.stack → Matches m x y
      has_labelled : (k : ℕ) → 1 ≤ m → y.place ≡ k + 2 → Loaded y.scratch → y.beside ≡ stamped p y.scratch
          → RunAlike n x y → StampBegins code x.rest k y.stack → Matches m x y

    -- What step `d` of the program is to what `e` of the code did, by instruction `o`: the same step, or nobody sees it.
    -- Then there is less to do, or an exchange was lost, and the stamp begins again.
    pub data ProcessStep (m : ℕ) (x : SourceProcess) (labels : Labels) (rows : List (List ℕ)) (d : S.SourceStep) (e : CodeStep)
        (o : Option Instr) : Type 0 where
      together : 1 ≤ m → SameStep labels rows d e o → ProcessStep m x labels rows d e o
      apart : Unseen labels rows e o → (m' : ℕ) → suc m' ≤ m → Matches m' x (made labels rows e).process
          → ProcessStep m x labels rows d e o
      loses : Unseen labels rows e o → (scratch : Labels) → Loaded scratch → C.same_labels labels scratch ≡ false
          → IsInside 3 x (made labels rows e).process → ProcessStep m x labels rows d e o

    -- the next step of the process in these two states
    abbrev pub NextStep : ℕ → SourceProcess → CodeProcess → SourceState → CodeState → Type 0
    NextStep m x y s d =
        ProcessStep m x d.labels d.rows (S.did n p s.tickets s.rows x.variables x.scans x.rest) (C.did n p code y)
        (slice_get code y.place)
