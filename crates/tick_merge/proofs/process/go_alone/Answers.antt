use Rattle.std.proofs.Common.{◌≡◌, ⊎_elim, true, false, ap, sym, ◌∙◌, ◌++◌, replicate, arith, vec_items}
use Rattle.std.proofs.lemmas.List.{append-nil}
use Rattle.code_machine.specs.Machine.{did}
use Rattle.code_machine.specs.Process.{advance_as, after_advance_as}
use Rattle.tick_merge.proofs.Lists.{pushed_more}
use Rattle.tick_merge.proofs.Advancing.{went, goes_start, goes_more, goes_stop, goes_end}
use Rattle.tick_merge.proofs.process.go_alone.Goals as goal

pub loop-count-init : goal.loop-count-init
loop-count-init c =
    let code = c.args.code.now in
    (c.requires.of, c.requires.me, sym (append-nil (vec_items c.args.schedule.now)), goes_start code.sizes.processes code.instructions c.args.p c.args.most c.args.proc.now.process)

pub loop-count-preserved : goal.loop-count-preserved
loop-count-preserved c =
    let code = c.args.code.now in let n = code.sizes.processes in let q = c.loop-count.proc.process in let me = c.loop-count.invariant.1 in
    let told : went c.advance.result ≡ true = ⊎_elim (λ a. ap went a) (λ a. ap went a.1) c.in-Silent.is in (
      c.advance.ensures.of,
      c.advance.ensures.me ∙ me,
      pushed_more c.args.p c.loop-count.count (vec_items c.args.schedule.now) (vec_items c.loop-count.schedule) (vec_items c.push.new.self) c.loop-count.invariant.2
          c.in_ok-push-in-Silent.ensures.items,
      goes_more n code.instructions c.args.p c.args.most c.args.proc.now.process c.loop-count.count q c.advance.new.self.process c.loop-count.invariant.3 c.loop-count-test.true
          (ap went (ap (λ k. advance_as q.status k (did n k code.instructions q)) (sym me) ∙ sym c.advance.ensures.answer) ∙ told)
          (c.advance.ensures.process ∙ ap (λ k. after_advance_as q.status q (did n k code.instructions q)) me),
    )

pub returns-in-Ask : goal.returns-in-Ask
returns-in-Ask c =
    let code = c.args.code.now in let n = code.sizes.processes in let q = c.loop-count.proc.process in let me = c.loop-count.invariant.1 in
    let told : went c.advance.result ≡ false = ⊎_elim (λ a. ap went a.1) (λ a. ap went a) c.in-Ask.is in
    let stops =
    goes_stop n code.instructions c.args.p c.args.most c.args.proc.now.process c.loop-count.count q c.advance.new.self.process c.loop-count.invariant.3
    (ap went (ap (λ k. advance_as q.status k (did n k code.instructions q)) (sym me) ∙ sym c.advance.ensures.answer) ∙ told)
    (c.advance.ensures.process ∙ ap (λ k. after_advance_as q.status q (did n k code.instructions q)) me) in
    record {
      count = stops.0;
      few = omega (arith, c.loop-count-test.true);
      process = stops.1;
      schedule = c.loop-count.invariant.2;
      of = c.advance.ensures.of;
      me = c.advance.ensures.me ∙ me;
    }

pub returns : goal.returns
returns c =
    let code = c.args.code.now in
    let ends =
    goes_end code.sizes.processes code.instructions c.args.p c.args.most c.args.proc.now.process c.loop-count.count c.loop-count.proc.process
    c.loop-count.invariant.3 (omega (arith, c.loop-count-test.false, c.loop-count.auto.count-end)) in
    record {
      count = ends.0;
      few = omega arith;
      process = ends.1;
      schedule = c.loop-count.invariant.2
          ∙ ap (λ k. vec_items c.args.schedule.now ++ replicate k c.args.p) (sym (omega (arith, c.loop-count-test.false, c.loop-count.auto.count-end)));
      of = c.loop-count.invariant.0;
      me = c.loop-count.invariant.1;
    }
