-- Lists: one place of a list, the items of one process, and repeated items.
use Rattle.std.proofs.Common.{◌≡◌, ◌≢◌, ℕ, zero, suc, ◌+◌, ◌<◌, ◌==◌, cond, List, [], ◌∷◌, ◌++◌, length, replicate, refl, ap, sym, ◌∙◌, arith, append_assoc}
use Rattle.std.specs.Prelude.{slice_get, slice_set, Option, Some, None}
use Rattle.std.proofs.lemmas.Bool.{eq-eqb, ne_eqb}
use Rattle.std.proofs.lemmas.List.{replicate-append-replicate, append-nil, length-set, get_or-set_same}
use Rattle.std.proofs.lemmas.List.Elements.{filter-append}
use Rattle.std.proofs.lemmas.List.Sums.{sum_by-append}
use Rattle.std.proofs.lemmas.Option.{slice_get-get_or}
use Rattle.base.specs.declared.event.Act.{Act}
use Rattle.base.specs.declared.event.Event.{Event}
use Rattle.base.specs.Observables.{told}
use Rattle.tick_merge.specs.Ran.{occurs, events_by}

pub get_set_same : {X : Type 0} (xs : List X) (k : ℕ) (x : X) → k < length xs → slice_get (slice_set xs k x) k ≡ Some x
get_set_same xs k x inside =
    slice_get-get_or (slice_set xs k x) k x (omega (arith, inside, length-set xs k x)) ∙ ap Some (get_or-set_same xs k x x inside)

-- how often a process occurs
pub occurs-append : (p : ℕ) (front rest : List ℕ) → occurs p (front ++ rest) ≡ occurs p front + occurs p rest
occurs-append p front rest = sum_by-append (λ k. cond (k == p) 1 0) front rest

pub occurs-own : (p : ℕ) (schedule : List ℕ) → occurs p (schedule ++ p ∷ []) ≡ suc (occurs p schedule)
occurs-own p schedule =
    let one : occurs p (p ∷ []) ≡ 1 = ap (λ b. 0 + cond b 1 0) (eq-eqb p p refl) in
    omega (arith, one, occurs-append p schedule (p ∷ []))

pub occurs-other : (p j : ℕ) (schedule : List ℕ) → j ≢ p → occurs j (schedule ++ p ∷ []) ≡ occurs j schedule
occurs-other p j schedule apart =
    let none : occurs j (p ∷ []) ≡ 0 = ap (λ b. 0 + cond b 1 0) (ne_eqb p j (λ same. apart (sym same))) in
    omega (arith, none, occurs-append j schedule (p ∷ []))

-- and where it makes what is left to it
pub occurs-repeated : (p : ℕ) (schedule : List ℕ) (count : ℕ) → occurs p (schedule ++ replicate count p) ≡ occurs p schedule + count
occurs-repeated p schedule zero = ap (occurs p) (append-nil schedule) ∙ sym (omega arith)
occurs-repeated p schedule (suc count) =
    ap (occurs p) (sym (append_assoc schedule (p ∷ []) (replicate count p))) ∙ occurs-repeated p (schedule ++ p ∷ []) count
    ∙ (let own = occurs-own p schedule in omega (arith, own))

-- the events of a process after a step of its own, or of another
pub events-own : (p : ℕ) (act : Option Act) (events : List Event) → events_by p (told p act events) ≡ told p act (events_by p events)
events-own p None events = refl
events-own p (Some act) events =
    let none : List Event = [] in
    let one : events_by p (record { process = p; act = act } ∷ []) ≡ record { process = p; act = act } ∷ [] =
    ap (λ b. cond b (record { process = p; act = act } ∷ none) none) (eq-eqb p p refl)
    in
    filter-append (λ (e : Event). e.process == p) events (record { process = p; act = act } ∷ []) ∙ ap (λ xs. events_by p events ++ xs) one

pub events-other : (p j : ℕ) (act : Option Act) (events : List Event) → j ≢ p → events_by j (told p act events) ≡ events_by j events
events-other p j None events apart = refl
events-other p j (Some act) events apart =
    let none : List Event = [] in
    let one : events_by j (record { process = p; act = act } ∷ []) ≡ [] =
    ap (λ b. cond b (record { process = p; act = act } ∷ none) none) (ne_eqb p j (λ same. apart (sym same)))
    in
    filter-append (λ (e : Event). e.process == j) events (record { process = p; act = act } ∷ [])
    ∙ ap (λ xs. events_by j events ++ xs) one ∙ append-nil (events_by j events)

-- one item, and then items
pub one_then : {X : Type 0} (front : List X) (x : X) (rest : List X) → (front ++ x ∷ []) ++ rest ≡ front ++ (x ∷ rest)
one_then front x rest = append_assoc front (x ∷ []) rest

-- an item more of those that are repeated
pub pushed_more : (p count : ℕ) (front before after : List ℕ) → before ≡ front ++ replicate count p → after ≡ before ++ p ∷ []
    → after ≡ front ++ replicate (count + 1) p
pushed_more p count front before after repeated pushed =
    pushed ∙ ap (λ xs. xs ++ p ∷ []) repeated ∙ append_assoc front (replicate count p) (p ∷ [])
    ∙ ap (λ xs. front ++ xs) (replicate-append-replicate count 1 p)

pub occurs-others : (p j count : ℕ) (schedule : List ℕ) → j ≢ p → occurs j (schedule ++ replicate count p) ≡ occurs j schedule
occurs-others p j zero schedule apart = ap (occurs j) (append-nil schedule)
occurs-others p j (suc count) schedule apart =
    ap (occurs j) (sym (append_assoc schedule (p ∷ []) (replicate count p))) ∙ occurs-others p j count (schedule ++ p ∷ []) apart
    ∙ occurs-other p j schedule apart
