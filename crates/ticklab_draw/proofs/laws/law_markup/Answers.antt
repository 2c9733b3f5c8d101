use Rattle.ticklab_draw.proofs.Markup.{markup_law, renamed_law}
use Rattle.ticklab_draw.proofs.laws.law_markup.Goals as goal

pub returns : goal.returns
returns c = record { in_columns = markup_law; renamed = renamed_law }
