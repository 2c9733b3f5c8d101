use Rattle.std.proofs.Common.{⊎_elim, refl, ap, sym, subst, ◌∙◌}
use Rattle.code_machine.specs.Machine.{did}
use Rattle.code_machine.specs.Process.{advance_of, after_advance, answered_by}
use Rattle.stamp_table.specs.Passes.{mine}
use Rattle.tick_run.specs.prover.Turns.{IsTurn}
use Rattle.tick_run.specs.declared.worker.Turn.TheVariants as T
use Rattle.tick_run.proofs.Turning.{silent, never_stopped, made, asked}
use Rattle.tick_run.proofs.worker.make_one.Goals as goal

pub returns-in-Silent-clause-turn : goal.returns-in-Silent-clause-turn
returns-in-Silent-clause-turn g c =
    let code = c.args.code.now in let q = c.args.proc.now.process in let n = code.sizes.processes in
    let d = did n c.args.process code.instructions q in let steps = mine c.args.process c.args.pass.now.seen in
    let answer = c.make.ensures.answer ∙ ap (λ k. advance_of k (did n k code.instructions q)) c.requires.me in
    ⊎_elim
    (λ is. silent code c.args.process q c.requires.running steps d c.make.new.self.process refl (sym is ∙ answer)
    (c.make.ensures.process ∙ ap (λ k. after_advance q (did n k code.instructions q)) c.requires.me))
    (λ is. absurd (never_stopped c.args.process d (sym is ∙ answer)))
    c.in-Silent.is

pub returns-in-Did-clause-turn : goal.returns-in-Did-clause-turn
returns-in-Did-clause-turn g c =
    let code = c.args.code.now in let q = c.args.proc.now.process in let n = code.sizes.processes in
    subst (λ turn. IsTurn turn code c.args.process q (mine c.args.process c.args.pass.now.seen) c.make.new.self.process (mine c.args.process c.args.pass.now.seen))
    (sym c.turn_of.ensures)
    (made code c.args.process q c.requires.running (mine c.args.process c.args.pass.now.seen) (did n c.args.process code.instructions q) c.make.new.self.process c.in-Did.event refl
    (c.in-Did.ensures.answer ∙ ap (λ k. advance_of k (did n k code.instructions q)) c.requires.me)
    (c.in-Did.ensures.process ∙ ap (λ k. after_advance q (did n k code.instructions q)) c.requires.me))

pub returns-in-Ask-clause-turn : goal.returns-in-Ask-clause-turn
returns-in-Ask-clause-turn g c =
    let code = c.args.code.now in let q = c.args.proc.now.process in let n = code.sizes.processes in
    let mid = c.make.new.self.process in let served = c.served-reply.ensures.served in let p = c.args.process in
    subst (λ steps. IsTurn T.Went code p q (mine p c.args.pass.now.seen) c.finish.new.self.process steps) (sym served.own)
    (asked code p q c.requires.running (mine p c.args.pass.now.seen) (did n p code.instructions q) mid c.finish.new.self.process c.in-Ask.ask c.served-reply.result served.act served.found refl
    (c.in-Ask.ensures.answer ∙ ap (λ k. advance_of k (did n k code.instructions q)) c.requires.me)
    (c.in-Ask.ensures.process ∙ ap (λ k. after_advance q (did n k code.instructions q)) c.requires.me)
    served.labels served.fits
    (c.finish.ensures.process ∙ ap (λ k. (answered_by mid (did n k code.instructions mid) c.served-reply.result).process) (c.in-Ask.ensures.me ∙ c.requires.me)))
