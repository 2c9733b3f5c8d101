use Rattle.std.proofs.Common.{rules, ◌≡◌, ◌<◌, length}
use Rattle.ticklab_answers.specs.Labels.{AreUndrawn, misspelled, too_many}
use Rattle.ticklab_answers.specs.Lines.{many_line}
use Rattle.ticklab_files.proofs.Responding.{refused_as, stopped_by}
use Rattle.ticklab_answers.proofs.commands.labels.frames_drawn.Goals as goal

pub returns-in_err-moves-clause-refused : goal.returns-in_err-moves-clause-refused
returns-in_err-moves-clause-refused c =
    stopped_by (AreUndrawn c.args.n c.args.text.now) _ c.from_residual.result c.from_residual.ensures.1
    (refused_as _ (λ report h. misspelled c.requires.at_least_one c.requires.at_most_six h.0 h.1 h.2) c.in_err-moves.ensures.refused)

pub returns-then-len-gt-MOST_MOVES-clause-refused : goal.returns-then-len-gt-MOST_MOVES-clause-refused
returns-then-len-gt-MOST_MOVES-clause-refused c =
    let moves = c.in_ok-moves.moves.items in
    let many : 400 < length moves = search rules in
    let told : c.into_bytes.result.items ≡ many_line (length moves) = search rules in
    too_many c.requires.at_least_one c.requires.at_most_six moves c.in_ok-moves.ensures.ok many told
