use Rattle.std.proofs.Common.{sym, subst, refl, arith, vec_items}
use Rattle.std.proofs.lemmas.Option.{slice_get_read}
use Rattle.word_core.specs.History.{Memory}
use Rattle.word_core.proofs.OfferedHistory.{history_labels, history_ordered}
use Rattle.code_machine.specs.Safety.{AreOrdered}
use Rattle.tick_merge.specs.prover.Reached.{IsHeld}
use Rattle.tick_merge.proofs.Stepping.{no_turns, not_made, taken}
use Rattle.tick_merge.proofs.merging.Merging.take_step.Goals as goal

pub returns-then-left-eq0-clause-ok : goal.returns-then-left-eq0-clause-ok
returns-then-left-eq0-clause-ok c = λ turns history r follows.
    no_turns c.args.code.now turns history c.args.step c.args.self.now c.lead.new.self c.in_ok-left.left (c.in_ok-left.ensures.led turns history r)
    c.requires.in_range follows c.if-left-eq0.true

pub index_mut-process-requires : goal.index_mut-process-requires
index_mut-process-requires c =
    let r = c.requires.reached in
    let to = c.in_ok-left.ensures.led r.0 r.1 r.2 in
    omega (arith, c.lead.new.self.processes.ok.0, to.reached.many, c.requires.in_range)

-- the process that is asked
held : (c : goal.After-makes_act-arg-1) → IsHeld c.args.code.now (vec_items c.lead.new.self.schedule) c.args.step.process c.index_mut-process.result.now
held c =
    let r = c.requires.reached in
    let to = c.in_ok-left.ensures.led r.0 r.1 r.2 in
    to.reached.each c.args.step.process c.index_mut-process.result.now
    (slice_get_read (vec_items c.lead.new.self.processes) c.args.code.now.sizes.processes c.args.step.process c.index_mut-process.result.now
    (sym to.reached.many) c.requires.in_range c.index_mut-process.ensures.value)

pub makes_act-requires-clause-of : goal.makes_act-requires-clause-of
makes_act-requires-clause-of c = (held c).of

pub makes_act-requires-clause-me : goal.makes_act-requires-clause-me
makes_act-requires-clause-me c = (held c).me

pub makes_act-requires-clause-labels : goal.makes_act-requires-clause-labels
makes_act-requires-clause-labels c =
    let r = c.requires.reached in
    let code = c.args.code.now in
    let to = c.in_ok-left.ensures.led r.0 r.1 r.2 in
    subst (λ (m : Memory). AreOrdered code.sizes.processes m.labels) (sym to.reached.words)
    (record { are = history_labels code.sizes.processes code.sizes.rows r.1; ordered = history_ordered code.sizes.processes code.sizes.rows r.1 })

pub returns-then-not-makes_act-clause-ok : goal.returns-then-not-makes_act-clause-ok
returns-then-not-makes_act-clause-ok c = λ turns history r follows.
    let to = c.in_ok-left.ensures.led turns history r in
    not_made c.args.code.now turns history c.args.step c.args.self.now c.lead.new.self c.in_ok-left.left c.index_mut-process.result.now to
    (slice_get_read (vec_items c.lead.new.self.processes) c.args.code.now.sizes.processes c.args.step.process c.index_mut-process.result.now
    (sym to.reached.many) c.requires.in_range c.index_mut-process.ensures.value)
    c.requires.in_range follows (λ more next. let other = c.if-not-makes_act.ensures.made.1 next in cc)

pub index_mut-requires : goal.index_mut-requires
index_mut-requires c =
    let r = c.requires.reached in
    let to = c.in_ok-left.ensures.led r.0 r.1 r.2 in
    omega (arith, c.lead.new.self.left.ok.0, to.reached.all_left, c.requires.in_range)

pub returns-clause-ok : goal.returns-clause-ok
returns-clause-ok c = λ turns history r follows.
    let to = c.in_ok-left.ensures.led turns history r in
    let made = c.if-not-makes_act.ensures in
    taken c.args.code.now turns history c.args.step c.args.self.now c.lead.new.self c.in_ok-left.left c.index_mut-process.result.now to
    (slice_get_read (vec_items c.lead.new.self.processes) c.args.code.now.sizes.processes c.args.step.process c.index_mut-process.result.now
    (sym to.reached.many) c.requires.in_range c.index_mut-process.ensures.value)
    c.requires.in_range follows _ c.makes_act.new.proc (omega (arith, c.if-left-eq0.false)) (made.made.0 refl) made.of made.me made.process
    (λ i. record { labels = made.labels i; rows = made.rows i }) refl refl c.in_ok-push.ensures.items
