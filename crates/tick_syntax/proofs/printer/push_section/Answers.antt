use Rattle.std.proofs.Common.{arith}
use Rattle.std.proofs.lemmas.Grind.{common_steps}
use Rattle.tick_syntax.proofs.PrintedParts.{tokens_section}
use Rattle.tick_syntax.proofs.printer.push_section.Goals as goal

pub returns : goal.returns
returns c = grind (arith, common_steps, tokens_section)
