use Rattle.std.proofs.Common.{◌≡◌, ◌<◌, ap, ◌∙◌, sym, subst}
use Rattle.std.specs.List.{All}
use Rattle.std.proofs.lemmas.Result.{IfOk-weaker}
use Rattle.tick_kinds.specs.Resolution.{resolved}
use Rattle.tick_source.specs.Source.{source}
use Rattle.searches_explore.specs.Lines.{is_fault, lines_of}
use Rattle.searches_hunt.specs.Draws.{drawn, start_drawing, random_schedule}
use Rattle.searches_hunt.specs.Hunts.{IsPartOf}
use Rattle.searches_hunt.proofs.Left.{part_of_part}
use Rattle.searches_hunt.proofs.Drawings.{part_of_run}
use Rattle.searches_hunt.proofs.hunting.shrunk.Goals as goal

pub shrink-requires : goal.shrink-requires
shrink-requires c =
    let a = resolved c.args.program.now in
    let plan = c.args.plan in
    let same = c.in_ok-schedule.ensures.drawn ∙ ap (λ n. drawn plan.mode n c.args.steps (start_drawing plan.seed c.args.run)) c.processes.ensures.count in
    record {
      lawful = subst (λ n. All (λ p. p < n) c.in_ok-schedule.schedule.items) c.processes.ensures.count c.in_ok-schedule.ensures.lawful;
      fault = ap (λ l. is_fault (lines_of c.args.lines.now) (source a l)) same ∙ c.requires.fault;
    }

pub returns-clause-part : goal.returns-clause-part
returns-clause-part c =
    let a = resolved c.args.program.now in
    let plan = c.args.plan in
    let run = c.args.run in
    let whole = random_schedule plan a.processes run in
    let mine = c.in_ok-schedule.schedule.items in
    let same : mine ≡ drawn plan.mode a.processes c.args.steps (start_drawing plan.seed run) =
    c.in_ok-schedule.ensures.drawn ∙ ap (λ n. drawn plan.mode n c.args.steps (start_drawing plan.seed run)) c.processes.ensures.count in
    let first : IsPartOf mine whole = subst (λ xs. IsPartOf xs whole) (sym same) (part_of_run a plan run c.args.steps c.requires.within) in
    IfOk-weaker c.shrink.result (λ s. IsPartOf s.items mine) (λ s. IsPartOf s.items whole) (λ s part. part_of_part whole mine s.items first part) c.shrink.ensures.part
