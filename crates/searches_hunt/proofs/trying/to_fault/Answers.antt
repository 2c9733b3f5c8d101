use Rattle.std.proofs.Common.{◌+◌, [], ap, ◌∙◌, sym, subst, arith}
use Rattle.tick_kinds.specs.Resolution.{resolved}
use Rattle.tick_source.specs.Source.{source}
use Rattle.searches_explore.specs.Lines.{is_fault, lines_of}
use Rattle.searches_hunt.specs.prover.Parts.{IsLeft}
use Rattle.searches_hunt.proofs.Left.{left_all}
use Rattle.searches_hunt.proofs.Replayed.{fault_noted, first_all, first_none, first_more, is_on}
use Rattle.searches_hunt.proofs.trying.to_fault.Goals as goal

pub returns-then-is_fault : goal.returns-then-is_fault
returns-then-is_fault c =
    let a = resolved c.args.program.now in
    fault_noted a (lines_of c.args.lines.now) c.args.schedule.now 0 c.in_ok-made.made.items c.in_ok-tried.tried.machine c.requires
    (subst (λ l. IsLeft l []) (sym c.in_ok-made.ensures.items) (left_all []))
    (c.in_ok-tried.ensures.start ∙ ap (source a) (sym c.in_ok-made.ensures.items))
    (ap (λ ls. is_fault (lines_of ls) c.in_ok-tried.tried.machine) (sym c.in_ok-tried.ensures.lines) ∙ sym c.is_fault.ensures ∙ c.if-is_fault.true)

pub loop-p-init : goal.loop-p-init
loop-p-init c =
    let a = resolved c.args.program.now in
    let lines = lines_of c.args.lines.now in
    let none = ap (is_fault lines) (sym c.in_ok-tried.ensures.start)
    ∙ ap (λ ls. is_fault (lines_of ls) c.in_ok-tried.tried.machine) (sym c.in_ok-tried.ensures.lines) ∙ sym c.is_fault.ensures ∙ c.if-is_fault.false in
    record {
      whole = c.in_ok-tried.ensures.start;
      made = c.in_ok-tried.ensures.start ∙ ap (source a) (sym c.in_ok-made.ensures.items);
      left = subst (λ l. IsLeft l []) (sym c.in_ok-made.ensures.items) (left_all []);
      faultless = first_none a lines c.args.schedule.now none;
      lines = c.in_ok-tried.ensures.lines;
      processes = c.in_ok-tried.ensures.processes;
    }

pub returns-then-branch : goal.returns-then-branch
returns-then-branch c =
    let inv = c.loop-p.invariant in
    let s' = c.advance.new.tried.machine in
    let on = is_on (resolved c.args.program.now) c.args.schedule.now c.loop-p.p-index c.loop-p.tried.processes c.loop-p.made.items c.advance.new.made.items
    c.loop-p.tried.machine s' c.loop-p-test.true inv.processes inv.whole inv.made inv.left c.in_ok-advance.ensures.next c.in_ok-advance.ensures.noted in
    fault_noted (resolved c.args.program.now) (lines_of c.args.lines.now) c.args.schedule.now (c.loop-p.p-index + 1) c.advance.new.made.items s' c.requires on.left on.made
    (ap (λ ls. is_fault (lines_of ls) s') (sym inv.lines) ∙ sym c.in_ok-advance.ensures.fault ∙ c.if-branch.true)

pub loop-p-preserved : goal.loop-p-preserved
loop-p-preserved c =
    let a = resolved c.args.program.now in
    let lines = lines_of c.args.lines.now in
    let i = c.loop-p.p-index in
    let s' = c.advance.new.tried.machine in
    let inv = c.loop-p.invariant in
    let on = is_on a c.args.schedule.now i c.loop-p.tried.processes c.loop-p.made.items c.advance.new.made.items
    c.loop-p.tried.machine s' c.loop-p-test.true inv.processes inv.whole inv.made inv.left c.in_ok-advance.ensures.next c.in_ok-advance.ensures.noted in
    let none = ap (λ ls. is_fault (lines_of ls) s') (sym inv.lines) ∙ sym c.in_ok-advance.ensures.fault ∙ c.if-branch.false in
    record {
      whole = on.whole;
      made = on.made;
      left = on.left;
      faultless = first_more a lines c.args.schedule.now i inv.faultless (ap (is_fault lines) (sym on.whole) ∙ none);
      lines = ap (λ l. l.now) c.in_ok-advance.ensures.lines ∙ inv.lines;
      processes = c.in_ok-advance.ensures.processes ∙ inv.processes;
    }

pub returns : goal.returns
returns c =
    first_all (resolved c.args.program.now) (lines_of c.args.lines.now) c.args.schedule.now c.loop-p.p-index (omega (arith, c.loop-p-test.false)) c.loop-p.invariant.faultless
