use Rattle.std.proofs.Common.{◌≡◌, ◌∙◌, List, ap, arith, length, map, option_map, subst}
use Rattle.std.proofs.lemmas.List.{length-map}
use Rattle.searches_explore.specs.Lines.{lines_of}
use Rattle.ticklab_draw.specs.Marks.{statement_marks, with_statement}
use Rattle.ticklab_trace.specs.declared.steps.StatementStep.{StatementStep}
use Rattle.ticklab_files.specs.Asking.{place_of}
use Rattle.ticklab_files.proofs.Responding.{then_ok}
use Rattle.ticklab_runs.specs.Breaking.{broken_at, mark_of}
use Rattle.ticklab_runs.specs.Traces.{IsTraceOf}
use Rattle.ticklab_runs.specs.prover.Kept.{IsKept}
use Rattle.ticklab_runs.proofs.Breaks.{line_found, steps_found}
use Rattle.ticklab_runs.proofs.Alike.{same_page, same_picture}
use Rattle.ticklab_runs.proofs.told_run.program_told.Goals as goal

pub never_mark-never-requires : goal.never_mark-never-requires
never_mark-never-requires c =
    let places = c.args.subject.now.asked.now.lines.places in
    let count : c.len.result ≡ length (map place_of places.items) = omega (arith, c.len.ensures, places.ok.0, length-map places.items place_of) in
    let lines = c.args.subject.now.asked.now.lines in
    line_found _ (lines_of lines.properties.items) (map place_of lines.places.items) c.args.schedule.now c.in_ok-run.run'.broken c.len.result count
    c.in_ok-run.ensures.broken

pub program_trace-requires-clause-within : goal.program_trace-requires-clause-within
program_trace-requires-clause-within c =
    let lines = c.args.subject.now.asked.now.lines in
    let k = c.in_ok-run.ensures.steps in
    let same = subst (λ t. IsKept with_statement t k.0 c.in_ok-run.run'.steps.items c.in_ok-run.run'.marks.items) c.in-Trace.is k.2 in
    steps_found _ (lines_of lines.properties.items) (map place_of lines.places.items) c.args.schedule.now c.in_ok-run.run'.broken _
    (ap length same ∙ k.1.count) c.in_ok-run.ensures.broken

pub returns-in-Trace : goal.returns-in-Trace
returns-in-Trace c =
    let s = c.args.subject.now in
    let a = s.asked.now.spelled.program in
    let broken = option_map broken_at c.in_ok-run.run'.broken in
    let k = c.in_ok-run.ensures.steps in
    let same = subst (λ t. IsKept with_statement t k.0 c.in_ok-run.run'.steps.items c.in_ok-run.run'.marks.items) c.in-Trace.is k.2 in
    rw c.in-Trace.is
    (then_ok c.program_trace.result
    (λ out told. (
      record { steps = k.0; are_steps = k.1; broken = broken; is_first = c.in_ok-run.ensures.broken },
      subst (λ (steps : List StatementStep). IsTraceOf c.in-Trace.tracing s.text.now a s.parts steps broken out.items) same told,
    )) c.program_trace.ensures)

pub returns-in-Page : goal.returns-in-Page
returns-in-Page c =
    let s = c.args.subject.now in
    let a = s.asked.now.spelled.program in
    let run = c.in_ok-run.run' in
    let broken = option_map broken_at run.broken in
    let k = c.in_ok-run.ensures.steps in
    let both = subst (λ t. IsKept with_statement t k.0 c.in_ok-run.run'.steps.items c.in_ok-run.run'.marks.items) c.in-Page.is k.2 in
    let places = c.args.subject.now.asked.now.lines.places in
    let count : c.len.result ≡ length (map place_of places.items) = omega (arith, c.len.ensures, places.ok.0, length-map places.items place_of) in
    let never = c.never_mark-never.ensures ∙ ap (λ n. option_map (mark_of n) broken) count in
    rw c.in-Page.is
    (then_ok c.program_page.result
    (λ out page. (
      record { steps = k.0; are_steps = k.1; broken = broken; is_first = c.in_ok-run.ensures.broken },
      same_page a _ _ c.title_of-title.ensures run.marks.items (statement_marks k.0) both.1 s.text.now out.items c.in-Page.paging.is_shared s.parts run.steps.items k.0 _ _ both.0 never page,
    )) c.program_page.ensures)

pub returns : goal.returns
returns c =
    let s = c.args.subject.now in
    let a = s.asked.now.spelled.program in
    let run = c.in_ok-run.run' in
    let broken = option_map broken_at run.broken in
    let k = c.in_ok-run.ensures.steps in
    let marked = subst (λ t. IsKept with_statement t k.0 c.in_ok-run.run'.steps.items c.in_ok-run.run'.marks.items) c.in-Picture.is k.2 in
    let places = c.args.subject.now.asked.now.lines.places in
    let count : c.len.result ≡ length (map place_of places.items) = omega (arith, c.len.ensures, places.ok.0, length-map places.items place_of) in
    let never = c.never_mark-never.ensures ∙ ap (λ n. option_map (mark_of n) broken) count in
    rw c.in-Picture.is
    (then_ok c.picture_of.result
    (λ out drawn. (
      record { steps = k.0; are_steps = k.1; broken = broken; is_first = c.in_ok-run.ensures.broken },
      drawn ∙ same_picture a _ _ c.title_of-title-in-Picture.ensures c.as_slice-marks.result.now (statement_marks k.0)
          (c.as_slice-marks.ensures.value ∙ marked) _ _ s.parts _ _ c.look_of-look.ensures never,
    )) c.picture_of.ensures)
