use Rattle.std.proofs.Common.{ap, ◌∙◌}
use Rattle.word_core.specs.Packed.{word}
use Rattle.stamp_table.proofs.Ends.{opens}
use Rattle.stamp_table.proofs.Rows.{opening_words}
use Rattle.stamp_table.proofs.table.open.Goals as goal

pub of_words-requires : goal.of_words-requires
of_words-requires c =
    opens c.args.n c.args.rows _
    (opening_words c.args.n c.args.rows c.bits.result c.requires.at_most_six c.requires.at_most_eight (c.bits.ensures ∙ ap word c.start.ensures.start))
