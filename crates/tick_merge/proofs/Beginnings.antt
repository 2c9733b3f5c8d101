-- A process that came so far was at each number of instructions before.
use Rattle.std.proofs.Common.{◌≡◌, ℕ, zero, suc, ◌≤◌, ◌⊎◌, inl, inr, ⊎_elim, [], ◌++◌, ◌∙◌, sym, ap, subst, append_assoc, arith}
use Rattle.std.proofs.lemmas.Bool.{cases_eq}
use Rattle.std.proofs.lemmas.List.{append-nil}
use Rattle.code_core.specs.Instructions.{StepCode}
use Rattle.code_machine.specs.Machine.{did}
use Rattle.tick_merge.specs.Local.{Local, IsLocalRun}
use Rattle.tick_merge.specs.LocalLaws.{CameBy, BeginningsLaw}
use Rattle.tick_merge.proofs.Deciding.{makes_more}

here : (c : StepCode) (p count : ℕ) (l : Local) → IsLocalRun c p count l → CameBy c p count l
here c p count l run = record { local = l; is_local = run; later = []; steps = sym (append-nil l.steps) }

last_or_before : (fewer count : ℕ) → fewer ≤ suc count → (fewer ≡ suc count) ⊎ (fewer ≤ count)
last_or_before fewer count few = ⊎_elim inl (λ other. inr (omega (arith, few, other))) (cases_eq fewer (suc count))

pub beginnings : BeginningsLaw
beginnings c p zero fewer l few run =
    let none : zero ≡ fewer = omega (arith, few) in
    here c p fewer l (subst (λ k. IsLocalRun c p k l) none run)
beginnings c p (suc count) fewer l few (before, run, step) =
    ⊎_elim
    (λ last. here c p fewer l (subst (λ k. IsLocalRun c p k l) (sym last) (before, run, step)))
    (λ earlier.
    let came = beginnings c p count fewer before earlier run in
    let more = makes_more c.sizes.processes p before (did c.sizes.processes p c.instructions before.process) l step.makes in
    record {
      local = came.local;
      is_local = came.is_local;
      later = came.later ++ more.0;
      steps = more.1 ∙ ap (λ xs. xs ++ more.0) came.steps ∙ append_assoc came.local.steps came.later more.0;
    })
    (last_or_before fewer count few)
