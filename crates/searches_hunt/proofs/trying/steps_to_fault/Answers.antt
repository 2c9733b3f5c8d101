use Rattle.std.proofs.Common.{◌≡◌, ◌+◌, true, refl, ap, ◌∙◌, sym, subst, arith}
use Rattle.tick_kinds.specs.Resolution.{resolved}
use Rattle.tick_source.specs.Source.{source_run}
use Rattle.searches_explore.specs.Lines.{is_fault, lines_of}
use Rattle.searches_hunt.specs.prover.Tries.{IsFaultlessTo}
use Rattle.searches_hunt.proofs.Drawings.{faultless_start, made_on, steps_on, stopped_whole, faultless_whole}
use Rattle.searches_hunt.proofs.trying.steps_to_fault.Goals as goal

pub returns-then-is_fault : goal.returns-then-is_fault
returns-then-is_fault c =
    let a = resolved c.args.program.now in
    record {
      within = omega arith;
      fault = ap (is_fault (lines_of c.args.lines.now)) (sym c.in_ok-tried.ensures.start)
          ∙ ap (λ ls. is_fault (lines_of ls) c.in_ok-tried.tried.machine) (sym c.in_ok-tried.ensures.lines)
          ∙ sym c.is_fault.ensures ∙ c.if-is_fault.true;
    }

pub returns-then-is_fault-2 : goal.returns-then-is_fault-2
returns-then-is_fault-2 c =
    let lines = lines_of c.args.lines.now in
    let s' = c.step_drawn.new.tried.machine in
    let told = c.in_ok-status.ensures in
    let same : is_fault lines s' ≡ true =
    ap (λ ls. is_fault (lines_of ls) s') (sym (ap (λ l. l.now) told.lines ∙ c.loop-made.invariant.1))
    ∙ sym c.is_fault-in-loop-made.ensures ∙ c.if-is_fault-2.true in
    record {
      within = omega (arith, c.loop-made-test.true);
      fault = ap (is_fault lines) (sym (made_on (resolved c.args.program.now) c.args.plan c.args.run lines c.loop-made.made c.step_drawn.new.drawing.process c.loop-made.tried.machine s'
          c.loop-made.drawing c.step_drawn.new.drawing c.loop-made.invariant.0 told.drew refl told.next)) ∙ same;
    }

pub returns-then-have_stopped : goal.returns-then-have_stopped
returns-then-have_stopped c =
    let a = resolved c.args.program.now in
    let plan = c.args.plan in
    let k = c.loop-made.made in
    let s' = c.step_drawn.new.tried.machine in
    let told = c.in_ok-status.ensures in
    let on = steps_on a plan c.args.run (lines_of c.args.lines.now) k c.step_drawn.new.drawing.process c.loop-made.tried.machine s'
    c.loop-made.drawing c.step_drawn.new.drawing c.loop-made.invariant.0 told.drew refl told.next told.process
    (ap (λ ls. is_fault (lines_of ls) s') (sym (ap (λ l. l.now) told.lines ∙ c.loop-made.invariant.1))
    ∙ sym c.is_fault-in-loop-made.ensures ∙ c.if-is_fault-2.false) in
    stopped_whole a plan c.args.run (lines_of c.args.lines.now) (k + 1) s' on.made on.faultless
    (λ schedule. ap (λ n. source_run n schedule s') (sym (told.processes ∙ c.loop-made.invariant.2)) ∙ c.have_stopped.ensures c.if-have_stopped.true schedule)

pub loop-made-init : goal.loop-made-init
loop-made-init c =
    let a = resolved c.args.program.now in
    let none = ap (is_fault (lines_of c.args.lines.now)) (sym c.in_ok-tried.ensures.start)
    ∙ ap (λ ls. is_fault (lines_of ls) c.in_ok-tried.tried.machine) (sym c.in_ok-tried.ensures.lines)
    ∙ sym c.is_fault.ensures ∙ c.if-is_fault.false in (
      record {
        made = c.in_ok-tried.ensures.start;
        drew = c.new-drawing.ensures.start;
        faultless = faultless_start a c.args.plan c.args.run (lines_of c.args.lines.now) none;
        process = omega (arith, c.new-drawing.ensures.process, c.in_ok-tried.ensures.some, c.in_ok-tried.ensures.processes);
      },
      c.in_ok-tried.ensures.lines,
      c.in_ok-tried.ensures.processes,
    )

pub loop-made-preserved : goal.loop-made-preserved
loop-made-preserved c =
    let s' = c.step_drawn.new.tried.machine in
    let told = c.in_ok-status.ensures in
    let same = ap (λ l. l.now) told.lines ∙ c.loop-made.invariant.1 in (
      steps_on (resolved c.args.program.now) c.args.plan c.args.run (lines_of c.args.lines.now) c.loop-made.made c.step_drawn.new.drawing.process c.loop-made.tried.machine s'
          c.loop-made.drawing c.step_drawn.new.drawing c.loop-made.invariant.0 told.drew refl told.next told.process
          (ap (λ ls. is_fault (lines_of ls) s') (sym same) ∙ sym c.is_fault-in-loop-made.ensures ∙ c.if-is_fault-2.false),
      same,
      told.processes ∙ c.loop-made.invariant.2,
    )

pub returns : goal.returns
returns c =
    let a = resolved c.args.program.now in
    let plan = c.args.plan in
    let lines = lines_of c.args.lines.now in
    let end : c.loop-made.made ≡ plan.steps = omega (arith, c.loop-made-test.false, c.loop-made.auto.made-end) in
    faultless_whole a plan c.args.run lines (subst (IsFaultlessTo a lines plan c.args.run) end c.loop-made.invariant.0.faultless)
