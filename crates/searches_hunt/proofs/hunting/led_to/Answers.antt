use Rattle.std.proofs.Common.{ap, ◌∙◌, arith}
use Rattle.std.proofs.lemmas.List.{take_all}
use Rattle.tick_kinds.specs.Resolution.{resolved}
use Rattle.tick_source.specs.Source.{source}
use Rattle.searches_hunt.proofs.Replayed.{step_taken}
use Rattle.searches_hunt.proofs.hunting.led_to.Goals as goal

pub loop-p-init : goal.loop-p-init
loop-p-init c = record { led = c.in_ok-tried.ensures.start; lines = c.in_ok-tried.ensures.lines; processes = c.in_ok-tried.ensures.processes }

pub loop-p-preserved : goal.loop-p-preserved
loop-p-preserved c =
    let inv = c.loop-p.invariant in
    record {
      led = step_taken (resolved c.args.program.now) c.args.schedule.now c.loop-p.p-index c.loop-p.tried.processes c.loop-p.tried.machine c.step.new.self.machine
          c.loop-p-test.true inv.processes inv.led c.in_ok-step.ensures.next;
      lines = ap (λ l. l.now) c.in_ok-step.ensures.lines ∙ inv.lines;
      processes = c.in_ok-step.ensures.processes ∙ inv.processes;
    }

pub returns : goal.returns
returns c =
    let a = resolved c.args.program.now in
    let inv = c.loop-p.invariant in
    record {
      led = inv.led ∙ ap (source a) (take_all c.loop-p.p-index c.args.schedule.now (omega (arith, c.loop-p-test.false)));
      lines = inv.lines;
    }
