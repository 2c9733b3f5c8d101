use Rattle.std.proofs.Common.{◌≡◌, ap, ◌∙◌, sym, Some, None}
use Rattle.code_machine.specs.Machine.{does, does_at, did, made}
use Rattle.code_machine.specs.Process.{event_of, answered_by, next_of}
use Rattle.code_machine.proofs.Served.{silent, made_alone, made_asked}
use Rattle.code_machine.proofs.machine.make.Goals as goal

pub returns-in-Silent : goal.returns-in-Silent
returns-in-Silent c =
    let one = c.args.process.now in
    let quiet = silent one.me (next_of c.args.code.now one) c.make.result c.make.ensures.answer c.in-Silent.is in
    let all = made_alone one.me c.args.p c.args.shared.now.labels c.args.shared.now.registers one.process (next_of c.args.code.now one) None c.requires.me quiet in
    record { event = all.shows; process = c.make.ensures.process ∙ all.left; labels = all.labels_are; rows = all.rows_are; me = c.make.ensures.me ∙ c.requires.me; of = c.make.ensures.of }

pub returns-in-Did : goal.returns-in-Did
returns-in-Did c =
    let one = c.args.process.now in
    let told = sym c.make.ensures.answer ∙ c.in-Did.is in
    let all = made_alone one.me c.args.p c.args.shared.now.labels c.args.shared.now.registers one.process (next_of c.args.code.now one) (Some c.in-Did.event) c.requires.me told in
    record { event = all.shows; process = c.make.ensures.process ∙ all.left; labels = all.labels_are; rows = all.rows_are; me = c.make.ensures.me ∙ c.requires.me; of = c.make.ensures.of }

pub returns-in-Ask : goal.returns-in-Ask
returns-in-Ask c =
    let code = c.args.code.now in
    let n = code.sizes.processes in
    let one = c.args.process.now in
    let q = one.process in
    let shared = c.args.shared.now in
    let d = next_of code one in
    let reply = c.serve-reply.result in
    let all = made_asked one.me c.args.p shared.labels shared.registers q d c.in-Ask.ask reply (sym c.make.ensures.answer ∙ c.in-Ask.is) c.serve-reply.ensures.reply in
    let same : c.make.new.self.process ≡ q = c.make.ensures.process ∙ all.waits in
    let me = c.make.ensures.me in
    let i = c.args.instruction in
    record {
      event = c.told-event.ensures
          ∙ ap (λ x. event_of c.make.new.self.me (answered_by x (does x n c.make.new.self.me i) reply).act) same
          ∙ ap (λ p. event_of p (answered_by q (does q n p i) reply).act) me
          ∙ ap (λ x. event_of one.me (answered_by q x reply).act) (sym (ap (does_at q n one.me) c.requires.here))
          ∙ ap (λ m. event_of one.me m.act) all.moved
          ∙ ap (λ p. event_of p (made shared.labels shared.registers d).act) c.requires.me;
      process = c.finish.ensures.process
          ∙ ap (λ x. (answered_by x (did n c.make.new.self.me code.instructions x) reply).process) same
          ∙ ap (λ p. (answered_by q (did n p code.instructions q) reply).process) me
          ∙ ap (λ m. m.process) all.moved;
      labels = c.serve-reply.ensures.labels ∙ all.labels_are;
      rows = c.serve-reply.ensures.rows ∙ all.rows_are;
      me = c.finish.ensures.me ∙ me ∙ c.requires.me;
      of = c.finish.ensures.of;
    }
