use Rattle.std.proofs.Common.{◌+◌, take, get_or, refl, sym, subst}
use Rattle.std.proofs.lemmas.List.{take_all}
use Rattle.code_core.specs.Instructions.{CodeSizes}
use Rattle.word_core.specs.declared.history.Shared.{Shared}
use Rattle.word_core.specs.declared.history.SharedAct.TheVariants.{Load}
use Rattle.word_core.specs.History.{Memory, MayFollow}
use Rattle.word_core.proofs.OfferedHistory.{history_labels, history_ordered}
use Rattle.code_machine.specs.Safety.{AreOrdered}
use Rattle.tick_merge.specs.prover.Held.{memory_held}
use Rattle.tick_merge.specs.prover.Reached.{StepTaken, AllTaken}
use Rattle.tick_merge.proofs.Ending.{take_one, taken_more, not_legal, not_this_code}
use Rattle.tick_merge.proofs.merging.Merging.take_all.Goals as goal

-- what is read past the end of a history
abbrev other : Shared
other = record { process = 0; act = Load 0 }

pub may_follow-requires : goal.may_follow-requires
may_follow-requires c =
    let r = c.requires.reached in
    let code = c.args.code.now in
    let history = take c.loop-place.place c.args.history.now in
    let to = (c.loop-place.invariant r.0 r.1).reached in
    subst (λ (z : CodeSizes). AreOrdered z.processes c.loop-place.self.words.labels) (sym c.sizes-sizes.ensures.sizes)
    (subst (λ (m : Memory). AreOrdered code.sizes.processes m.labels) (sym to.words)
    (record { are = history_labels code.sizes.processes code.sizes.rows history; ordered = history_ordered code.sizes.processes code.sizes.rows history }))

pub returns-then-not-may_follow-clause-err : goal.returns-then-not-may_follow-clause-err
returns-then-not-may_follow-clause-err c = λ turns r.
    let step = get_or c.args.history.now c.loop-place.place other in
    not_legal c.args.code.now turns c.args.history.now c.loop-place.place other c.loop-place.self c.loop-place-test.true (c.loop-place.invariant turns r).reached
    (λ follows. let yes = c.if-not-may_follow.ensures.1 (subst (λ (z : CodeSizes). MayFollow z.processes z.rows (memory_held c.loop-place.self.words) step) (sym c.sizes-sizes.ensures.sizes) follows) in cc)

pub take_step-requires-clause-reached : goal.take_step-requires-clause-reached
take_step-requires-clause-reached c =
    let r = c.requires.reached in
    (r.0, take c.loop-place.place c.args.history.now, (c.loop-place.invariant r.0 r.1).reached)

pub returns-then-not-branch-clause-err : goal.returns-then-not-branch-clause-err
returns-then-not-branch-clause-err c = λ turns r.
    let code = c.args.code.now in
    let front = take c.loop-place.place c.args.history.now in
    let step = get_or c.args.history.now c.loop-place.place other in
    let to = (c.loop-place.invariant turns r).reached in
    let follows = subst (λ (z : CodeSizes). MayFollow z.processes z.rows (memory_held c.loop-place.self.words) step) c.sizes-sizes.ensures.sizes (c.if-not-may_follow.ensures.0 refl) in
    not_this_code code turns c.args.history.now c.loop-place.place other c.loop-place.self c.loop-place-test.true to follows
    (subst (StepTaken code turns front step c.loop-place.self c.take_step.new.self) c.if-not-branch.true (c.in_ok-take_step.ensures.ok turns front to follows))

pub loop-place-preserved : goal.loop-place-preserved
loop-place-preserved c = λ turns r.
    let code = c.args.code.now in
    let front = take c.loop-place.place c.args.history.now in
    let step = get_or c.args.history.now c.loop-place.place other in
    let before = c.loop-place.invariant turns r in
    let follows = subst (λ (z : CodeSizes). MayFollow z.processes z.rows (memory_held c.loop-place.self.words) step) c.sizes-sizes.ensures.sizes (c.if-not-may_follow.ensures.0 refl) in
    taken_more code turns front (take (c.loop-place.place + 1) c.args.history.now) step c.loop-place.self c.take_step.new.self
    (take_one c.args.history.now c.loop-place.place other c.loop-place-test.true) before
    (subst (StepTaken code turns front step c.loop-place.self c.take_step.new.self) c.if-not-branch.false (c.in_ok-take_step.ensures.ok turns front before.reached follows))

pub returns-clause-ok : goal.returns-clause-ok
returns-clause-ok c = λ turns r.
    subst (λ h. AllTaken c.args.code.now turns h c.loop-place.self) (take_all c.loop-place.place c.args.history.now c.loop-place-test.false)
    (c.loop-place.invariant turns r)
