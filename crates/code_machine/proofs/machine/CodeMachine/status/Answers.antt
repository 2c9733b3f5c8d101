use Rattle.std.proofs.Common.{◌<◌, ◌∙◌, ap, sym, length}
use Rattle.std.specs.Prelude.{Some}
use Rattle.code_machine.proofs.Steps.{in_range, told_of}
use Rattle.code_machine.proofs.machine.CodeMachine.status.Goals as goal

pub returns : goal.returns
returns c =
    let m = c.self.inside in
    let inside : c.args.p < length m.processes.items = in_range m c.args.self.now c.args.p c.self.view_is c.requires in
    told_of (λ q. q.status) m c.args.p c.index.result.now c.args.self.now c.self.view_is c.index.ensures inside ∙ ap Some (sym c.status.ensures)
