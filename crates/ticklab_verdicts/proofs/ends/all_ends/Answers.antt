use Rattle.std.proofs.Common.{◌≡◌, ◌∙◌, ℕ, List, [], ap, map, refl, subst}
use Rattle.language_questions.specs.Lines.{asked_of}
use Rattle.searches_explore.specs.Lines.{lines_of}
use Rattle.ticklab_files.specs.Asking.{IsFileRefused, TellsOption, lines_in, place_of, places_by, texts_of}
use Rattle.ticklab_verdicts.specs.Ends.{IsEndsExplored, IsEndsRefused, IsPast, IsThere, asked_by, asked_under, explored, no_file, no_option, under}
use Rattle.ticklab_verdicts.specs.Hearing.{hearing}
use Rattle.ticklab_verdicts.proofs.EndsSearched.{ends_moved, past_told}
use Rattle.ticklab_files.proofs.ProgramFiles.{file_of, is_of}
use Rattle.ticklab_files.proofs.Responding.{refused_as, stopped_by}
use Rattle.ticklab_verdicts.proofs.ends.all_ends.Goals as goal

pub returns-in_err-spelled-clause-refused : goal.returns-in_err-spelled-clause-refused
returns-in_err-spelled-clause-refused g c =
    let name = c.args.name.now in
    let input = c.args.input.now in
    let Q : List ℕ → Type 0 = λ report. IsEndsRefused name (texts_of c.args.never.now) c.args.process input report × (c.args.progress.now ≡ c.args.progress.now) in
    stopped_by Q _ c.from_residual.result c.from_residual.ensures.1
    (refused_as {P = IsFileRefused name input} {Q = Q} _ (λ report told. (no_file told, refl)) c.in_err-spelled.ensures.refused)

pub returns-in_err-named-clause-refused : goal.returns-in_err-named-clause-refused
returns-in_err-named-clause-refused g c =
    let name = c.args.name.now in
    let input = c.args.input.now in
    let texts = texts_of c.args.never.now in
    let Q : List ℕ → Type 0 = λ report. IsEndsRefused name texts c.args.process input report × (c.args.progress.now ≡ c.args.progress.now) in
    stopped_by Q _ c.from_residual-in_err-named.result c.from_residual-in_err-named.ensures.1
    (refused_as {P = IsPast c.processes.result c.args.process} {Q = Q} _
    (past_told c.args.progress.now name texts c.args.process input c.in_ok-spelled.spelled.program
    (is_of _ _ _ c.in_ok-spelled.ensures.spelled.0 c.in_ok-spelled.ensures.questions) c.processes.result c.processes.ensures.count) c.in_err-named.ensures.refused)

pub returns-in_err-lines-clause-refused : goal.returns-in_err-lines-clause-refused
returns-in_err-lines-clause-refused g c =
    let name = c.args.name.now in
    let input = c.args.input.now in
    let texts = texts_of c.args.never.now in
    let p = c.in_ok-spelled.spelled.program in
    let asked = asked_of c.in_ok-spelled.questions in
    let file = file_of input p asked c.in_ok-spelled.ensures.spelled.0 c.in_ok-spelled.ensures.questions in
    let there = subst (λ n. IsThere n c.args.process) c.processes.ensures.count c.in_ok-named.ensures.there in
    let Q : List ℕ → Type 0 = λ report. IsEndsRefused name texts c.args.process input report × (c.args.progress.now ≡ c.args.progress.now) in
    stopped_by Q _ c.from_residual-in_err-lines.result c.from_residual-in_err-lines.ensures.1
    (refused_as {P = TellsOption p (lines_in asked) texts} {Q = Q} _ (λ report told. (no_option file there told, refl)) c.in_err-lines.ensures.refused)

pub returns-clause-ok : goal.returns-clause-ok
returns-clause-ok g c =
    let name = c.args.name.now in
    let input = c.args.input.now in
    let texts = texts_of c.args.never.now in
    let p = c.in_ok-spelled.spelled.program in
    let asked = asked_of c.in_ok-spelled.questions in
    let held = c.in_ok-lines.lines in
    let there = subst (λ n. IsThere n c.args.process) c.processes.ensures.count c.in_ok-named.ensures.there in
    ends_moved (hearing g.W.Progress.begins g.W.Progress.finds g.W.Watch.hears) _ _ c.args.steps
    (record { input = input; program = p; lines = lines_of held.properties.items; places = []; output = c.args.output })
    (map place_of held.places.items) (places_by name input asked texts)
    c.under.result (asked_under c.args.condition asked.ends c.args.process) c.args.limits c.in_ok-ends_found.field-0
    (IsEndsExplored c.args.steps name texts c.args.process c.args.condition c.args.limits c.args.output input c.in_ok-ends_found.field-0)
    c.in_ok-lines.ensures.places (c.under.ensures ∙ ap (under c.args.condition) (c.in_ok-named.ensures.asked ∙ ap (λ line. asked_by line c.args.process) c.line_of-line.ensures))
    (λ heard found. explored (record {
      file = record { program = p; is = c.in_ok-spelled.ensures.spelled.0; asked = asked; asks = c.in_ok-spelled.ensures.questions };
      lines = lines_of held.properties.items;
      read = c.in_ok-lines.ensures.read;
    }) there found) c.in_ok-ends_found.ensures
