use Rattle.std.proofs.Common.{arith}
use Rattle.std.proofs.lemmas.Option.{MatchOption-at_some}
use Rattle.tick_kinds.specs.Resolution.{resolved}
use Rattle.searches_explore.specs.Lines.{lines_of}
use Rattle.searches_hunt.specs.Draws.{random_schedule}
use Rattle.searches_hunt.specs.Never.{IsFaultless}
use Rattle.searches_hunt.specs.prover.Tries.{FaultsWithin}
use Rattle.searches_hunt.proofs.Drawings.{fault_whole}
use Rattle.searches_hunt.proofs.trials.first_in_turn.Goals as goal

pub loop-run-init : goal.loop-run-init
loop-run-init c = λ other above below. absurd (omega arith)

pub returns-in-Some : goal.returns-in-Some
returns-in-Some c =
    let a = resolved c.args.sought.program.now in
    let lines = lines_of c.args.sought.lines.now in
    let plan = c.args.plan in
    let run = c.loop-run.run in
    let steps = c.in-Some.field-0 in
    let tried : FaultsWithin a lines plan run steps =
    MatchOption-at_some (IsFaultless a lines (random_schedule plan a.processes run)) (FaultsWithin a lines plan run) steps c.in-Some.is c.in_ok-steps_to_fault.ensures in
    record {
      is_run = record {
        begun = omega (arith, c.loop-run.auto.run);
        within = first_of (omega (arith, c.loop-run-test.true, c.saturating_add-run-end.ensures), grind (arith, c.loop-run-test.true, c.saturating_add-run-end.ensures));
        there_is = first_of (omega (arith, c.loop-run-test.true, c.saturating_add-run-end.ensures), grind (arith, c.loop-run-test.true, c.saturating_add-run-end.ensures));
      };
      found = fault_whole a plan run lines steps tried;
      earlier = c.loop-run.invariant;
    }

pub returns : goal.returns
returns c = λ run is.
    c.loop-run.invariant run is.begun (first_of (
      omega (arith, is.within, is.there_is, c.loop-run-test.false, c.saturating_add-run-end.ensures),
      grind (arith, is.within, is.there_is, c.loop-run-test.false, c.saturating_add-run-end.ensures),
    ))
