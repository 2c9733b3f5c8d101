use Rattle.std.proofs.Common.{◌≡◌, ap, ◌∙◌, arith, length, map, replicate}
use Rattle.std.proofs.lemmas.List.{length-map, length-replicate}
use Rattle.tick_kinds.specs.Resolution.{resolved}
use Rattle.tick_source.specs.Source.{start_process}
use Rattle.tick_source.specs.prover.Machine.{process_of}
use Rattle.base.proofs.Offered.{made_more}
use Rattle.tick_source.proofs.StandsFor.{ticketed_start, state_start}
use Rattle.tick_source.proofs.machine.SourceMachine.new.Goals as goal

pub loop-init : goal.loop-init
loop-init c = ap (map process_of) c.in_ok-processes.ensures.items

pub loop-preserved : goal.loop-preserved
loop-preserved c =
    made_more process_of c.loop.processes.items _ c.in_ok-process.process (start_process (resolved c.args.program.now)) c.loop.counter
    c.in_ok-push.ensures.items c.in_ok-process.ensures c.loop.invariant

pub invariant_of-result : goal.invariant_of-result
invariant_of-result c =
    let all : c.loop.counter ≡ c.processes-n.result = omega arith in
    ticketed_start (record { shared = c.in_ok-shared.shared; processes = c.loop.processes }) (resolved c.args.program.now) c.processes-n.result c.in_ok-shared.ensures.tickets c.processes-n.ensures.count
    (c.loop.invariant ∙ ap (λ k. replicate k (start_process (resolved c.args.program.now))) all)

pub returns-clause-start : goal.returns-clause-start
returns-clause-start c =
    let all : c.loop.counter ≡ c.processes-n.result = omega arith in
    state_start (record { shared = c.in_ok-shared.shared; processes = c.loop.processes }) (resolved c.args.program.now) c.processes-n.result c.registers.result c.in_ok-shared.ensures.tickets c.processes-n.ensures.count
    c.in_ok-shared.ensures.registers c.registers.ensures.resolved
    (c.loop.invariant ∙ ap (λ k. replicate k (start_process (resolved c.args.program.now))) all) c.in_ok-shared.ensures.events

pub returns-clause-processes : goal.returns-clause-processes
returns-clause-processes c =
    let a = resolved c.args.program.now in
    ap (λ s. length s.processes) (returns-clause-start c) ∙ length-replicate a.processes (start_process a)

pub returns-clause-rows : goal.returns-clause-rows
returns-clause-rows c =
    let a = resolved c.args.program.now in
    ap (λ s. length s.rows) (returns-clause-start c) ∙ length-replicate (length a.registers) (replicate a.processes 0)
    ∙ length-map c.args.program.now.registers _
