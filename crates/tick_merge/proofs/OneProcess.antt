-- One process by itself: what holds of its steps, and how they grow by one instruction.
use Rattle.std.proofs.Common.{◌≡◌, ℕ, zero, suc, ◌+◌, List, [], ◌∷◌, ◌++◌, ◌∙◌, sym, ap, subst, refl}
use Rattle.std.specs.Prelude.{Some, All}
use Rattle.std.proofs.Math.Numerals.{add-one}
use Rattle.std.proofs.lemmas.List.Elements.{All-nil, All-cons, All-append}
use Rattle.base.specs.declared.event.Act.{Act}
use Rattle.base.specs.declared.event.Act.TheVariants as A
use Rattle.base.specs.declared.event.Event.{Event}
use Rattle.base.specs.Observables.{told}
use Rattle.word_core.specs.declared.history.Shared.{Shared}
use Rattle.code_core.specs.Instructions.{StepCode}
use Rattle.code_machine.specs.Machine.{CodeStep, alone, asks, did}
use Rattle.tick_merge.specs.Local.{Local, Makes, LocalStep, IsLocalRun, output_of, outputs_of}
use Rattle.tick_merge.specs.LocalLaws.{OncePerAnswersLaw, BeginningsLaw}
use Rattle.tick_merge.proofs.Deciding as deciding
use Rattle.tick_merge.proofs.Beginnings as beginnings

pub once_per_answers : OncePerAnswersLaw
once_per_answers = deciding.once_per_answers

pub came_by : BeginningsLaw
came_by = beginnings.beginnings

-- an instruction adds to the steps
pub makes_more : (n p : ℕ) (l : Local) (d : CodeStep) (next : Local) → Makes n p l d next → (more : List Shared) × (next.steps ≡ l.steps ++ more)
makes_more = deciding.makes_more

-- one more instruction
pub local_run_next : (c : StepCode) (p count : ℕ) (l next : Local) → IsLocalRun c p count l → LocalStep c p l next
    → IsLocalRun c p (count + 1) next
local_run_next c p count l next run step = subst (λ k. IsLocalRun c p k next) (sym (add-one count)) (l, run, step)

-- the steps are all its own
makes_own : (n p : ℕ) (l : Local) (d : CodeStep) (next : Local) → Makes n p l d next → All (λ (s : Shared). s.process ≡ p) l.steps
    → All (λ (s : Shared). s.process ≡ p) next.steps
makes_own n p l (alone m) next made own = subst (λ (x : Local). All (λ (s : Shared). s.process ≡ p) x.steps) (sym made) own
makes_own n p l (asks ask answered) next made own =
    subst (λ (x : Local). All (λ (s : Shared). s.process ≡ p) x.steps) (sym made.makes)
    (All-append (λ (s : Shared). s.process ≡ p) l.steps (record { process = p; act = made.act } ∷ []) own
    (All-cons (λ (s : Shared). s.process ≡ p) (record { process = p; act = made.act }) [] refl (All-nil (λ (s : Shared). s.process ≡ p))))

pub steps_own : (c : StepCode) (p count : ℕ) (l : Local) → IsLocalRun c p count l → All (λ (s : Shared). s.process ≡ p) l.steps
steps_own c p zero l run = subst (λ (x : Local). All (λ (s : Shared). s.process ≡ p) x.steps) (sym run) (All-nil (λ (s : Shared). s.process ≡ p))
steps_own c p (suc count) l (before, run, step) =
    makes_own c.sizes.processes p before (did c.sizes.processes p c.instructions before.process) l step.makes (steps_own c p count before run)

-- an act after others gives out what it gives out alone
output_of-append : (act : Act) (outputs others : List ℕ) → output_of act (outputs ++ others) ≡ output_of act outputs ++ others
output_of-append (A.Out v) outputs others = refl
output_of-append _ outputs others = refl

pub outputs_of-append : (events others : List Event) → outputs_of (events ++ others) ≡ outputs_of events ++ outputs_of others
outputs_of-append [] others = refl
outputs_of-append (event ∷ events) others =
    ap (output_of event.act) (outputs_of-append events others) ∙ output_of-append event.act (outputs_of events) (outputs_of others)

pub outputs_of-told : (p : ℕ) (act : Act) (events : List Event) → outputs_of (told p (Some act) events) ≡ outputs_of events ++ output_of act []
outputs_of-told p act events = outputs_of-append events (record { process = p; act = act } ∷ [])
