use Rattle.std.proofs.Common.{OnOk, ap, ◌∙◌, sym, subst}
use Rattle.base.specs.Plain.{cons}
use Rattle.tick_source.specs.prover.Remaining.{after_first}
use Rattle.tick_source.specs.prover.Steps.{Makes, does_from}
use Rattle.tick_kinds.proofs.Offered.{branch_lent, repeat_lent}
use Rattle.tick_source.proofs.process.Process.execute.Goals as goal

pub repeat-requires-clause-first : goal.repeat-requires-clause-first
repeat-requires-clause-first c =
    c.requires.first
    ∙ ap (λ s. cons s (after_first c.args.self.now.rest))
    (repeat_lent c.args.statement.now c.in-While.test c.in-While.block c.deref-in-While.result.now c.in-While.is c.deref-in-While.ensures.value)

pub returns-in-If-clause-ok : goal.returns-in-If-clause-ok
returns-in-If-clause-ok c =
    subst (λ s. OnOk c.branch-self.result (Makes c.args.p (does_from c.args.p c.args.shared.now c.args.self.now s) c.args.shared.now c.branch-self.new.shared c.branch-self.new.self))
    (sym (branch_lent c.args.statement.now c.in-If.test c.in-If.then_block c.in-If.else_block c.deref.result.now c.deref-in-If.result.now
    c.in-If.is c.deref.ensures.value c.deref-in-If.ensures.value))
    c.branch-self.ensures.ok

pub returns-in-While-clause-ok : goal.returns-in-While-clause-ok
returns-in-While-clause-ok c =
    subst (λ s. OnOk c.repeat.result (Makes c.args.p (does_from c.args.p c.args.shared.now c.args.self.now s) c.args.shared.now c.repeat.new.shared c.repeat.new.self))
    (sym (repeat_lent c.args.statement.now c.in-While.test c.in-While.block c.deref-in-While.result.now c.in-While.is c.deref-in-While.ensures.value))
    c.repeat.ensures.ok
