use Rattle.std.proofs.Common.{ap, ◌∙◌, sym, subst, replicate}
use Rattle.base.specs.RegisterRows.{start_rows}
use Rattle.word_core.specs.Stamps.{start_labels}
use Rattle.code_machine.specs.Machine.{start_process}
use Rattle.code_machine.specs.Safety.{AreOrdered}
use Rattle.code_machine.proofs.Words.{start_in_order}
use Rattle.code_machine.proofs.Steps.{processes_new}
use Rattle.code_machine.proofs.machine.CodeMachine.new.Goals as goal

pub invariant_of-result : goal.invariant_of-result
invariant_of-result c =
    let code = c.args.code.now in
    let labels = c.in_ok-shared.ensures.labels ∙ ap (λ sizes. start_labels sizes.processes) c.sizes-sizes.ensures.sizes in
    record {
      verified = c.sizes-sizes.ensures.verified;
      labels = subst (AreOrdered code.sizes.processes) (sym labels) (start_in_order code.sizes.processes);
      each = λ p one at. ((c.in_ok-processes.ensures.each p one at).0, (c.in_ok-processes.ensures.each p one at).1);
    }

pub returns-clause-start : goal.returns-clause-start
returns-clause-start c =
    let code = c.args.code.now in
    let all = c.processes.ensures.count ∙ ap (λ sizes. sizes.processes) c.sizes-sizes.ensures.sizes in
    let labels = c.in_ok-shared.ensures.labels ∙ ap (λ sizes. start_labels sizes.processes) c.sizes-sizes.ensures.sizes in
    let rows = c.in_ok-shared.ensures.rows ∙ ap (λ sizes. start_rows sizes.rows sizes.processes) c.sizes-sizes.ensures.sizes in
    let processes =
    processes_new code c.processes.result c.in_ok-processes.processes.items c.in_ok-processes.ensures ∙ ap (λ k. replicate k (start_process code.sizes)) all in
    λ i. record { labels = labels i; rows = rows i; processes = processes i; events = c.in_ok-events.ensures.items i }
