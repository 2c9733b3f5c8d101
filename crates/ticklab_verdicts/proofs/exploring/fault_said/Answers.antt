use Rattle.std.proofs.Common.{subst, sym}
use Rattle.searches_explore.specs.Never.{schedule_of}
use Rattle.searches_explore.specs.declared.fault.Fault.{Fault}
use Rattle.ticklab_verdicts.specs.Sought.{IsLawful}
use Rattle.ticklab_verdicts.proofs.exploring.fault_said.Goals as goal

pub trap_said-requires-clause-schedule : goal.trap_said-requires-clause-schedule
trap_said-requires-clause-schedule c =
    subst (IsLawful c.args.search.now) (sym c.deref.ensures.value)
    (subst (λ (f : Fault). IsLawful c.args.search.now (schedule_of f).items) c.in-Trapped.is c.requires.schedule)

pub broken_said-requires-clause-schedule : goal.broken_said-requires-clause-schedule
broken_said-requires-clause-schedule c =
    subst (IsLawful c.args.search.now) (sym c.deref-in-Broken.ensures.value)
    (subst (λ (f : Fault). IsLawful c.args.search.now (schedule_of f).items) c.in-Broken.is c.requires.schedule)
