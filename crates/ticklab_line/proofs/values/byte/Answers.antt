use Rattle.std.proofs.Common.{◌∙◌}
use Rattle.ticklab_line.proofs.Numbers.{number_parsed}
use Rattle.ticklab_line.proofs.values.byte.Goals as goal

pub returns : goal.returns
returns c = c.ok.ensures.value ∙ number_parsed 8 c.args.text.now _ c.parse.ensures.value.0
