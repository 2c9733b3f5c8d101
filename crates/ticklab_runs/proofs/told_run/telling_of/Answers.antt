use Rattle.std.proofs.Common.{◌<◌, List, ℕ, map, subst, sym}
use Rattle.std.specs.List.{All}
use Rattle.tick_kinds.specs.Resolution.{resolved}
use Rattle.searches_explore.specs.Lines.{lines_of}
use Rattle.ticklab_files.specs.Asking.{place_of}
use Rattle.ticklab_files.specs.Codes.{HasNoCode, IsCodeless}
use Rattle.ticklab_files.proofs.Responding.{refused_as, stopped_by}
use Rattle.ticklab_runs.specs.Runs.{IsCodeTold, IsProgramTold, plain_telling}
use Rattle.ticklab_runs.proofs.Alike.{all_told}
use Rattle.ticklab_runs.proofs.told_run.telling_of.Goals as goal

pub code_told-requires-clause-schedule : goal.code_told-requires-clause-schedule
code_told-requires-clause-schedule c =
    let n = (resolved c.args.subject.now.asked.now.spelled.program).processes in
    subst (λ (steps : List ℕ). All (λ p. p < n) steps) (sym c.steps_told-schedule.ensures)
    (all_told (plain_telling c.args.telling.now) n c.args.schedule.now c.requires.schedule)

pub program_told-requires-clause-schedule : goal.program_told-requires-clause-schedule
program_told-requires-clause-schedule c =
    let n = (resolved c.args.subject.now.asked.now.spelled.program).processes in
    subst (λ (steps : List ℕ). All (λ p. p < n) steps) (sym c.steps_told-schedule.ensures)
    (all_told (plain_telling c.args.telling.now) n c.args.schedule.now c.requires.schedule)

pub returns-in_err-code-clause-refused : goal.returns-in_err-code-clause-refused
returns-in_err-code-clause-refused c =
    let s = c.args.subject.now in
    let a = s.asked.now.spelled.program in
    stopped_by (IsCodeless s.is_code s.name.now a) _ c.from_residual.result c.from_residual.ensures.1
    (refused_as {P = HasNoCode s.name.now a} {Q = IsCodeless s.is_code s.name.now a} _ (λ report none. (c.if-subject.true, none)) c.in_err-code.ensures.refused)

pub returns-then-subject-clause-ok : goal.returns-then-subject-clause-ok
returns-then-subject-clause-ok c =
    let s = c.args.subject.now in
    rw c.if-subject.true
    (subst (λ (steps : List ℕ). IsCodeTold (plain_telling c.args.telling.now) s.name.now s.asked.now.spelled.program steps c.in_ok-code_told.field-0.items)
    c.steps_told-schedule.ensures c.in_ok-code_told.ensures)

pub returns-clause-ok : goal.returns-clause-ok
returns-clause-ok c =
    let s = c.args.subject.now in
    let asked = s.asked.now in
    rw c.if-subject.false
    (subst (λ (steps : List ℕ). IsProgramTold (plain_telling c.args.telling.now) s.name.now (lines_of asked.lines.properties.items)
    (map place_of asked.lines.places.items) s.text.now asked.spelled.program s.parts steps c.in_ok-program_told.field-0.items)
    c.steps_told-schedule.ensures c.in_ok-program_told.ensures)
