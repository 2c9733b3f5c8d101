use Rattle.tick_syntax.proofs.Parsed.{parsed_within, parsed_refused, parsed_memory}
use Rattle.tick_syntax.proofs.parser.read_tree.Goals as goal

pub returns-clause-within : goal.returns-clause-within
returns-clause-within c = parsed_within c.args.text.now c.args.tokens.now c.requires.short c.requires.values c.program.result c.program.ensures.read

pub returns-clause-refused : goal.returns-clause-refused
returns-clause-refused c = parsed_refused c.args.text.now c.args.tokens.now c.requires.short c.requires.values c.program.result c.program.ensures.read

pub returns-clause-memory : goal.returns-clause-memory
returns-clause-memory c = parsed_memory c.args.text.now c.args.tokens.now _ c.program.result c.requires.values c.program.ensures.none
