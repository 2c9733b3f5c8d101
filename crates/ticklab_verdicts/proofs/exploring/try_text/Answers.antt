use Rattle.std.proofs.Common.{◌∙◌}
use Rattle.ticklab_verdicts.specs.Lines.{try_text}
use Rattle.ticklab_verdicts.proofs.Chosen.{chosen}
use Rattle.ticklab_verdicts.proofs.exploring.try_text.Goals as goal

pub returns : goal.returns
returns c = c.either.ensures ∙ chosen try_text c.args.is_merged
