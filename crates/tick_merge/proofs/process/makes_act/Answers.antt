use Rattle.std.proofs.Common.{◌≡◌, ap, sym, subst, ◌∙◌, refl, Some, arith}
use Rattle.std.proofs.lemmas.Bool.{false≢true}
use Rattle.std.proofs.lemmas.Option.{same_Some}
use Rattle.code_machine.specs.Safety.{HasWord, IsLawful}
use Rattle.code_machine.specs.Machine.{did, reply_in}
use Rattle.code_machine.specs.Process.{answered_as, next_of}
use Rattle.tick_merge.specs.prover.Held.{memory_held}
use Rattle.tick_merge.proofs.Advancing.{ask_next, no_ask_next, ask_leaves, reply_ordered, answered_made}
use Rattle.tick_merge.proofs.process.makes_act.Goals as goal

pub returns-clause-made : goal.returns-clause-made
returns-clause-made c =
    let one = c.args.proc.now in let code = c.args.code.now in (
      λ yes.
          (ask_next one.process.status one.me (memory_held c.args.words.now) (next_of code one) c.in-Ask.ask one.process c.in-Ask.ensures.answer).0
          ∙ ap Some (sym c.act_for.ensures ∙ c.is_act.ensures.0 c.if-not-is_act.false),
      λ next. refl,
    )

pub returns-clause-labels : goal.returns-clause-labels
returns-clause-labels c =
    let one = c.args.proc.now in
    c.serve-reply.ensures.labels
    ∙ sym (ask_leaves one.process.status one.me c.args.p (next_of c.args.code.now one) c.in-Ask.ask c.args.words.now.labels c.args.words.now.registers c.in-Ask.ensures.answer).0

pub returns-clause-rows : goal.returns-clause-rows
returns-clause-rows c =
    let one = c.args.proc.now in
    c.serve-reply.ensures.rows
    ∙ sym (ask_leaves one.process.status one.me c.args.p (next_of c.args.code.now one) c.in-Ask.ask c.args.words.now.labels c.args.words.now.registers c.in-Ask.ensures.answer).1

pub returns-in_default-clause-made : goal.returns-in_default-clause-made
returns-in_default-clause-made c =
    let one = c.args.proc.now in (
      λ yes. absurd (false≢true yes),
      λ next. absurd (no_ask_next one.process.status one.me (memory_held c.args.words.now) (next_of c.args.code.now one) c.args.act c.advance.result
          c.advance.ensures.answer c.in_default.not-Ask next),
    )

pub act_for-requires : goal.act_for-requires
act_for-requires c = (c.args.code.now.sizes, c.args.proc.now.me, c.requires.labels, c.in-Ask.ensures.lawful)

pub returns-then-not-is_act-clause-made : goal.returns-then-not-is_act-clause-made
returns-then-not-is_act-clause-made c =
    let one = c.args.proc.now in (
      λ yes. absurd (false≢true yes),
      λ next.
          c.if-not-is_act.ensures.1 (c.act_for.ensures ∙ same_Some _ _ (sym
          (ask_next one.process.status one.me (memory_held c.args.words.now) (next_of c.args.code.now one) c.in-Ask.ask one.process c.in-Ask.ensures.answer).0
          ∙ next)),
    )

pub serve-reply-requires-clause-process : goal.serve-reply-requires-clause-process
serve-reply-requires-clause-process c = omega (arith, c.requires.of.me, c.requires.me, c.requires.labels.are.count)

pub serve-reply-requires-clause-labels : goal.serve-reply-requires-clause-labels
serve-reply-requires-clause-labels c =
    let sizes = c.args.code.now.sizes in
    λ old new is. (sizes.processes, c.requires.labels.are, (subst (IsLawful sizes c.args.proc.now.me) is c.in-Ask.ensures.lawful).0.are)

pub answer-requires-clause-word : goal.answer-requires-clause-word
answer-requires-clause-word c =
    subst (HasWord c.args.code.now.sizes.processes) (sym c.serve-reply.ensures.reply)
    (reply_ordered c.args.code.now.sizes.processes c.args.words.now.labels c.args.words.now.registers c.in-Ask.ask c.requires.labels)

pub returns-clause-process : goal.returns-clause-process
returns-clause-process c =
    let one = c.args.proc.now in let code = c.args.code.now in let d = next_of code one in
    let labels = c.args.words.now.labels in let rows = c.args.words.now.registers in
    let stays : c.advance.new.self.process ≡ one.process =
    c.advance.ensures.process ∙ (ask_next one.process.status one.me (memory_held c.args.words.now) d c.in-Ask.ask one.process c.in-Ask.ensures.answer).1 in
    let me : c.advance.new.self.me ≡ one.me = c.advance.ensures.me in
    let reply : c.serve-reply.result ≡ reply_in labels rows c.in-Ask.ask = c.serve-reply.ensures.reply in
    c.answer.ensures.process
    ∙ (λ i. (answered_as (stays i).status (stays i) (did code.sizes.processes (me i) code.instructions (stays i)) (reply i)).process)
    ∙ answered_made one.process.status one.me one.process d c.in-Ask.ask labels rows c.in-Ask.ensures.answer
