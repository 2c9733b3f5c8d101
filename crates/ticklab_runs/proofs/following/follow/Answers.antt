use Rattle.std.proofs.Common.{◌≡◌, ◌∙◌, ◌+◌, [], ◌∷◌, ◌++◌, arith, length, refl, subst, sym}
use Rattle.std.specs.Prelude.{IfNone, IfSome}
use Rattle.searches_explore.specs.Lines.{IsFirstBroken, lines_of}
use Rattle.tick_kinds.specs.Resolution.{resolved}
use Rattle.ticklab_draw.specs.Marks.{with_statement}
use Rattle.ticklab_trace.proofs.Offered.{statements_more, statements_none, stepped}
use Rattle.ticklab_runs.proofs.Breaks.{FoundBefore, all_watched, watched}
use Rattle.ticklab_runs.proofs.Kept.{kept_more, kept_none}
use Rattle.ticklab_runs.proofs.following.follow.Goals as goal

pub loop-at-init : goal.loop-at-init
loop-at-init c = record {
  body = c.in_ok-run.ensures.body;
  state = c.in_ok-run.ensures.start;
  processes = c.in_ok-run.ensures.processes;
  rows = c.in_ok-run.ensures.rows;
  steps = (
    [],
    statements_none (resolved c.args.program.now) c.args.schedule.now [] refl,
    kept_none with_statement c.args.telling.now _ _ c.in_ok-steps.ensures.items c.new-marking.ensures,
  );
  broken = λ k below. absurd (omega (arith, below));
}

pub loop-at-preserved : goal.loop-at-preserved
loop-at-preserved c =
    let a = resolved c.args.program.now in
    let schedule = c.args.schedule.now in
    let i = c.loop-at.at in
    let inside = c.loop-at-test.true in
    let before = c.loop-at.invariant in
    let h = c.in_ok-step.ensures in
    let step = c.in_ok-step.step in
    let steps = before.steps.0 in
    let next = stepped a schedule i inside c.loop-at.run c.step.new.self step before.body before.state before.processes h.ok h.step in
    record {
      body = h.body ∙ before.body;
      state = next.0;
      processes = h.processes ∙ before.processes;
      rows = h.rows ∙ before.rows;
      steps = (
        steps ++ step ∷ [],
        statements_more a schedule i steps (steps ++ step ∷ []) step before.steps.1 inside refl next.1,
        kept_more with_statement steps _ _ _ _ step i before.steps.1.count c.args.telling.now before.steps.2 c.in_ok-keep_step.ensures c.in_ok-mark_statement.ensures,
      );
      broken = watched a (lines_of c.args.lines.now) schedule i c.machine.result.now c.loop-at.broken c.broken_by-broken.result (omega (arith, inside))
          (c.machine.ensures ∙ before.state) before.broken c.broken_by-broken.ensures.found c.broken_by-broken.ensures.broken c.broken_by-broken.ensures.none;
    }

pub returns-clause-steps : goal.returns-clause-steps
returns-clause-steps c =
    let before = c.loop-at.invariant in
    let done : c.loop-at.at ≡ length c.args.schedule.now = omega arith in
    (before.steps.0, record { count = before.steps.1.count ∙ done; each = before.steps.1.each }, before.steps.2)

pub returns-clause-broken : goal.returns-clause-broken
returns-clause-broken c =
    let a = resolved c.args.program.now in
    let lines = lines_of c.args.lines.now in
    let schedule = c.args.schedule.now in
    let before = c.loop-at.invariant in
    let done : c.loop-at.at ≡ length schedule = omega arith in
    let new = c.broken_by-broken-2.result in
    let all : FoundBefore a lines schedule (c.loop-at.at + 1) new =
    watched a lines schedule c.loop-at.at c.machine-2.result.now c.loop-at.broken new (omega (arith, done)) (c.machine-2.ensures ∙ before.state)
    before.broken c.broken_by-broken-2.ensures.found
    (subst (λ k. IfNone c.loop-at.broken (IfSome new (λ b. (b.steps ≡ k) × IsFirstBroken lines c.machine-2.result.now b.line b.value))) (sym done) c.broken_by-broken-2.ensures.broken)
    c.broken_by-broken-2.ensures.none in
    all_watched a lines schedule new (subst (λ k. FoundBefore a lines schedule (k + 1) new) done all)
