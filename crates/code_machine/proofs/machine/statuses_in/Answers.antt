use Rattle.std.proofs.Common.{◌≡◌, ℕ, ◌+◌, ◌<◌, List, [], ◌∷◌, ◌++◌, sym, ap, ◌∙◌, arith, rules, map, take, length, get_or}
use Rattle.std.proofs.lemmas.List.{take_more, map-append}
use Rattle.std.proofs.Math.Seq.{take-length}
use Rattle.base.specs.declared.status.Status.{Status}
use Rattle.code_machine.specs.Process.{OneProcess}
use Rattle.code_machine.proofs.machine.statuses_in.Goals as goal

one_more : (all : List OneProcess) (k : ℕ) (one : OneProcess) (old new : List Status) (status : Status) → k < length all → one ≡ get_or all k one
    → old ≡ map (λ q. q.process.status) (take k all) → new ≡ old ++ status ∷ [] → status ≡ one.process.status
    → new ≡ map (λ q. q.process.status) (take (k + 1) all)
one_more all k one old new status inside is so_far pushed same =
    pushed ∙ ap (λ statuses. statuses ++ status ∷ []) so_far
    ∙ ap (λ s. map (λ q. q.process.status) (take k all) ++ s ∷ []) (same ∙ ap (λ q. q.process.status) is)
    ∙ sym (ap (map (λ q. q.process.status)) (take_more all k one inside) ∙ map-append (λ q. q.process.status) (take k all) (get_or all k one ∷ []))

pub loop-process-preserved : goal.loop-process-preserved
loop-process-preserved c =
    one_more c.args.processes.now c.loop-process.process-index c.process-item.result c.loop-process.statuses.items c.push.new.self.items _
    c.loop-process-test.true c.process-item.is c.loop-process.invariant c.in_ok-push.ensures.items (search rules)

pub returns : goal.returns
returns c =
    let all = c.args.processes.now in
    let done : c.loop-process.process-index ≡ length all = omega arith in
    c.loop-process.invariant ∙ ap (λ k. map (λ q. q.process.status) (take k all)) done ∙ ap (map (λ q. q.process.status)) (take-length all)
