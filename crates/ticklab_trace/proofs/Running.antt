-- Each process that runs has come to its number.
use Rattle.std.proofs.Common.{◌≡◌, ℕ, zero, suc, ◌<◌, List, length, map, get_or, replicate, refl, ap, ◌∙◌, sym, subst, Option, Some, None, inl, inr}
use Rattle.std.specs.Prelude.{slice_get, slice_set, slice_index, option_and_then}
use Rattle.std.proofs.lemmas.Bool.{cases_eq}
use Rattle.std.proofs.lemmas.Option.{get_or_from_slice_get, slice_get_read}
use Rattle.std.proofs.lemmas.List.{get_or-set_same, get_or-set_other}
use Rattle.base.specs.declared.status.Status.{Status}
use Rattle.base.specs.declared.status.Status.TheVariants.{Running, Ended, Trapped}
use Rattle.base.specs.Plain.{WholeProgram, Block, nil, cons, onto}
use Rattle.tick_source.specs.Source.{SourceProcess, SourceState, source_start, start_process, source_step, step_of, step_as, did}
use Rattle.ticklab_trace.specs.declared.links.Link.{Link}
use Rattle.ticklab_trace.specs.StatementSteps.{running_as, running_at}
use Rattle.ticklab_trace.specs.prover.Links.{rest_at, IsTable, went, HasCome}
use Rattle.ticklab_trace.proofs.Followed.{came, get_set_other}

onto-nil : (a : Block ℕ) → onto a nil ≡ a
onto-nil nil = refl
onto-nil (cons s a) = ap (λ r. cons s r) (onto-nil a)

at_start : (body : Block ℕ) → rest_at body 0 ≡ body
at_start nil = refl
at_start (cons s b) = ap (λ r. cons s r) (onto-nil b)

zero_in : (n r : ℕ) → slice_index (replicate n 0) r ≡ 0
zero_in zero r = refl
zero_in (suc n) zero = refl
zero_in (suc n) (suc r) = zero_in n r

all_new : (body : Block ℕ) (n : ℕ) (q : SourceProcess) → q.rest ≡ body → q.status ≡ Running → (r : ℕ)
    → HasCome body 0 (option_and_then (λ x. running_as x x.status) (slice_get (replicate n q) r))
all_new body zero q rest runs r = tt
all_new body (suc n) q rest runs zero =
    subst (λ o. HasCome body 0 o) (sym (ap (running_as q) runs)) (at_start body ∙ sym rest)
all_new body (suc n) q rest runs (suc r) = all_new body n q rest runs r

pub come_start : (a : WholeProgram ℕ) (numbers : List ℕ) (n : ℕ) (m : SourceState) → numbers ≡ replicate n 0 → m ≡ source_start a
    → (r : ℕ) → HasCome a.body (slice_index numbers r) (running_at r m)
come_start a numbers n m zeros start r =
    subst (λ s. HasCome a.body (slice_index numbers r) (running_at r s)) (sym start)
    (subst (λ k. HasCome a.body k (running_at r (source_start a))) (sym (ap (λ l. slice_index l r) zeros ∙ zero_in n r))
    (all_new a.body a.processes (start_process a) refl refl r))

-- a step changes no other process
other_status : (n p r : ℕ) (s : SourceState) (q : SourceProcess) (status : Status) → (r ≡ p → ⊥) → running_at r (step_as n p s q status) ≡ running_at r s
other_status n p r s q Running other =
    ap (option_and_then (λ x. running_as x x.status))
    (get_set_other s.processes p r (did n p s.tickets s.rows q.variables q.scans q.rest).process other)
other_status n p r s q Ended other = refl
other_status n p r s q (Trapped t) other = refl

other_of : (n p r : ℕ) (s : SourceState) (o : Option SourceProcess) → (r ≡ p → ⊥) → running_at r (step_of n p s o) ≡ running_at r s
other_of n p r s None other = refl
other_of n p r s (Some q) other = other_status n p r s q q.status other

pub come_on : (body : Block ℕ) (links : List Link) → IsTable body links → (n p next : ℕ) (numbers numbers' variables : List ℕ) (s s' : SourceState)
    → ((r : ℕ) → HasCome body (slice_index numbers r) (running_at r s)) → p < length numbers → numbers' ≡ slice_set numbers p next
    → next ≡ went n p variables (slice_index numbers p) (slice_get links (slice_index numbers p))
    → slice_get (map (λ q. q.variables) s.processes) p ≡ Some variables → s' ≡ source_step n p s
    → (r : ℕ) → HasCome body (slice_index numbers' r) (running_at r s')
come_on body links table n p next numbers numbers' variables s s' all inside put next_is its made r =
    subst (λ x. HasCome body (slice_index numbers' r) (running_at r x)) (sym made)
    (subst (λ l. HasCome body (slice_index l r) (running_at r (source_step n p s))) (sym put)
    (elim (cases_eq r p) as (λ _. HasCome body (slice_index (slice_set numbers p next) r) (running_at r (source_step n p s))) [
      | inl here ↦
          subst (λ j. HasCome body (slice_index (slice_set numbers p next) j) (running_at j (source_step n p s))) (sym here)
          (subst (λ k. HasCome body k (running_at p (source_step n p s))) (sym (get_or-set_same numbers p next 0 inside ∙ next_is))
          (came body links table n p (slice_index numbers p) s variables its (all p)))
      | inr other ↦
          subst (λ k. HasCome body k (running_at r (source_step n p s))) (sym (get_or-set_other numbers p r next 0 other))
          (subst (HasCome body (slice_index numbers r)) (sym (other_of n p r s (slice_get s.processes p) other)) (all r))
    ]))

pub read_index : (xs : List ℕ) (i x : ℕ) → i < length xs → x ≡ get_or xs i x → x ≡ slice_index xs i
read_index xs i x inside is = sym (get_or_from_slice_get xs i x 0 (slice_get_read xs (length xs) i x refl inside is))
