use Rattle.std.proofs.Common.{◌≤◌, ℕ, length, arith, subst, sym}
use Rattle.std.specs.Prelude.{Vec}
use Rattle.std.specs.Global.{Global}
use Rattle.tick_kinds.specs.Resolution.{resolved}
use Rattle.searches_hunt.specs.Draws.{start_drawing, random_schedule}
use Rattle.searches_hunt.specs.Hunts.{IsPartOf}
use Rattle.searches_hunt.proofs.Left.{part_short}
use Rattle.searches_hunt.proofs.Drawings.{drawn_length}
use Rattle.searches_hunt.proofs.hunting.hunt.Goals as goal

pub returns-clause-part : goal.returns-clause-part
returns-clause-part g c =
    let whole = random_schedule c.args.plan (resolved c.args.program.now).processes c.in-Some.run' in
    subst (λ (s : Vec ℕ Global). IsPartOf s.items whole) (sym c.in_ok-fault.ensures.fault) c.in_ok-schedule.ensures.part

pub returns-clause-short : goal.returns-clause-short
returns-clause-short g c =
    let a = resolved c.args.program.now in
    let plan = c.args.plan in
    let run = c.in-Some.run' in
    let schedule = c.in_ok-schedule.schedule.items in
    let whole = random_schedule plan a.processes run in
    let short : length schedule ≤ plan.steps =
    omega (arith, part_short schedule whole c.in_ok-schedule.ensures.part, drawn_length plan.mode a.processes plan.steps (start_drawing plan.seed run)) in
    subst (λ (s : Vec ℕ Global). length s.items ≤ plan.steps) (sym c.in_ok-fault.ensures.fault) short
