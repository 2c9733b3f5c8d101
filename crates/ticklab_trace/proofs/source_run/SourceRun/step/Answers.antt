use Rattle.std.proofs.Common.{◌≡◌, ◌<◌, ◌∙◌, ap, arith, get_or, length, set, subst, sym}
use Rattle.std.specs.Prelude.{slice_get, slice_index}
use Rattle.std.proofs.lemmas.List.{length-set}
use Rattle.tick_kinds.specs.Resolution.{resolved}
use Rattle.tick_source.specs.Source.{SourceState, source_step}
use Rattle.ticklab_trace.specs.StatementSteps.{running_at}
use Rattle.ticklab_trace.specs.prover.Links.{HasCome, IsTable, went}
use Rattle.ticklab_trace.proofs.Running.{come_on, read_index}
use Rattle.ticklab_trace.proofs.source_run.SourceRun.step.Goals as goal

-- where memory is refused the machine is as it was
pub invariant_of-self : goal.invariant_of-self
invariant_of-self c =
    let r = c.self.inside in
    let old = c.self.invariant in
    let same = c.in_err-step.ensures.err in
    record {
      table = old.table;
      processes = ap (λ s. length s.processes) same ∙ old.processes;
      numbers = old.numbers;
      come = λ p. subst (λ (s : SourceState). HasCome (resolved r.program.now).body (slice_index r.numbers.items p) (running_at p s)) (sym same) (old.come p);
    }

pub invariant_of-self-2 : goal.invariant_of-self-2
invariant_of-self-2 c =
    let r = c.self.inside in
    let old = c.self.invariant in
    let a = resolved r.program.now in
    let p = c.args.p in
    let m = r.machine in
    let new = c.made_step.new.machine in
    let numbers = r.numbers.items in
    let h = c.in_ok-step.ensures in
    let here : p < length numbers = omega (arith, old.numbers, old.processes, ap (λ v. length v.state.processes) c.self.view_is, c.requires) in
    let number : c.index-number.result.now ≡ slice_index numbers p =
    read_index numbers p c.index-number.result.now here (c.index-number.ensures ∙ ap (λ k. get_or numbers k c.index-number.result.now) c.from.ensures) in
    let made : new ≡ source_step a.processes p m = h.ok ∙ ap (λ n. source_step n p m) old.processes in
    let next : c.following-next.result ≡ went a.processes p c.variables.result.now (slice_index numbers p) (slice_get r.links.items (slice_index numbers p)) =
    c.following-next.ensures
    ∙ (λ t. went (c.processes-n.ensures.count t) p c.variables.result.now (number t) (slice_get (c.deref.ensures.value t) (number t))) in
    record {
      table = old.table;
      processes = h.processes ∙ old.processes;
      numbers = length-set numbers c.from-2.result c.following-next.result ∙ old.numbers;
      come = come_on a.body r.links.items old.table a.processes p c.following-next.result numbers _ c.variables.result.now m new old.come here
          (ap (λ k. set numbers k c.following-next.result) c.from-2.ensures) next c.variables.ensures made;
    }

pub returns-clause-ok : goal.returns-clause-ok
returns-clause-ok c = rw (← c.self.view_is) c.in_ok-step.ensures.ok

pub returns-clause-step : goal.returns-clause-step
returns-clause-step c =
    let r = c.self.inside in
    let old = c.self.invariant in
    let a = resolved r.program.now in
    let p = c.args.p in
    let numbers = r.numbers.items in
    let here : p < length numbers = omega (arith, old.numbers, old.processes, ap (λ v. length v.state.processes) c.self.view_is, c.requires) in
    let number : c.index-number.result.now ≡ slice_index numbers p =
    read_index numbers p c.index-number.result.now here (c.index-number.ensures ∙ ap (λ k. get_or numbers k c.index-number.result.now) c.from.ensures) in
    let there : IsTable a.body c.deref-2.result.now = subst (IsTable a.body) (sym c.deref-2.ensures.value) old.table in
    let came : HasCome a.body c.index-number.result.now (running_at p r.machine) = subst (λ k. HasCome a.body k (running_at p r.machine)) (sym number) (old.come p) in
    rw (← c.self.view_is) (c.in_ok-step.ensures.step a.body there came)
