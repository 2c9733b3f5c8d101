use Rattle.std.proofs.Common.{◌≡◌, ℕ, ◌+◌, ◌++◌, ◌∷◌, [], List, if◌then◌else◌, drop, get_or, ◌∙◌, ap, sym, subst}
use Rattle.code_core.specs.Instructions.{StepCode}
use Rattle.tick_kinds.specs.Resolution.{resolved}
use Rattle.tick_sim.specs.Maps.{dropped_from, dropped}
use Rattle.tick_sim.proofs.Maps.{projected, dropped_more}
use Rattle.tick_sim.proofs.dropping.drop.Goals.{then-branch+in_ok-push, else-branch}
use Rattle.tick_sim.proofs.dropping.drop.Goals as goal

pub loop-p-preserved : goal.loop-p-preserved
loop-p-preserved c =
    let was = c.loop-p.invariant in
    let schedule = c.args.schedule.now in
    let p : ℕ = get_or schedule c.loop-p.p-index 0 in
    let before : List ℕ = c.loop-p.steps.items in
    let did = c.in_ok-step_ends.ensures in
    let grown : c.if-branch.steps.items ≡ (if c.in_ok-step_ends.field-0 then before ++ p ∷ [] else before) =
    elim c.if-branch.branch [ then-branch+in_ok-push w ↦ ap (λ v. v.items) w.steps-is ∙ w.in_ok-push.ensures.items ∙ ap (λ b. if b then before ++ p ∷ [] else before) (sym w.if-branch.true) | else-branch w ↦ ap (λ v. v.items) w.steps-is ∙ ap (λ b. if b then before ++ p ∷ [] else before) (sym w.if-branch.false) ] in
    let Kept : StepCode → Type 0 = λ code.
    c.if-branch.steps.items ++ dropped_from code.sizes.processes code.instructions (drop (c.loop-p.p-index + 1) schedule) c.step_ends.new.machine.state
    ≡ dropped code.sizes code.instructions schedule in
    let code = c.loop-p.machine.code in
    let kept = subst (λ (code : StepCode). before ++ dropped_from code.sizes.processes code.instructions (drop c.loop-p.p-index schedule) c.loop-p.machine.state
    ≡ dropped code.sizes code.instructions schedule) (sym was.same) was.kept in
    record {
      kept = subst Kept was.same
          (dropped_more code.sizes.processes code.instructions c.loop-p.p-index schedule before c.if-branch.steps.items c.loop-p.machine.state
          c.step_ends.new.machine.state c.in_ok-step_ends.field-0 (dropped code.sizes code.instructions schedule) c.loop-p-test.true did.ends did.state grown kept);
      reached = did.reached;
      same = did.code ∙ was.same;
    }

pub returns : goal.returns
returns c =
    let all = projected (resolved c.args.program.now) c.args.code.now _ _ _ _ c.requires.code c.requires.processes c.loop-p-test.false c.loop-p.auto.p-index-end c.loop-p.invariant.kept in
    record { dropped = all.is; seen = all.shows; lawful = all.lawful }
