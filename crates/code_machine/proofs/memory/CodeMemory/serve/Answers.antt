use Rattle.std.proofs.Common.{ap, sym, ◌∙◌}
use Rattle.code_machine.specs.Machine.{labels_by}
use Rattle.code_machine.proofs.memory.CodeMemory.serve.Goals as goal

pub returns-in-Exchange-clause-labels : goal.returns-in-Exchange-clause-labels
returns-in-Exchange-clause-labels c =
    c.exchange.ensures.labels c.args.p ∙ ap (λ ask. labels_by c.args.p ask c.args.self.now.labels) (sym c.in-Exchange.is)
