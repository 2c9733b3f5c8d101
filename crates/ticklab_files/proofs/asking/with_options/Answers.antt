use Rattle.searches_explore.specs.Lines.{lines_of}
use Rattle.ticklab_files.specs.Asking.{TellsOption, texts_of}
use Rattle.ticklab_files.proofs.LinesAsked.{next_text, none_read}
use Rattle.ticklab_files.proofs.Responding.{refused_as, stopped_by}
use Rattle.ticklab_files.proofs.asking.with_options.Goals as goal

pub returns-in_err-property-clause-refused : goal.returns-in_err-property-clause-refused
returns-in_err-property-clause-refused c =
    let a = c.args.program.now in
    let never = c.args.never.now in
    let start = lines_of c.args.lines.properties.items in
    stopped_by (TellsOption a start (texts_of never)) _ c.from_residual.result c.from_residual.ensures.1
    (refused_as _ (none_read a (lines_of c.loop-text.properties.items) start _ _ _ (texts_of never)
    (next_text never c.loop-text.text-index _ c.loop-text-test.true) c.loop-text.invariant.0) c.in_err-property.ensures.refused)
