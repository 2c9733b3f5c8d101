use Rattle.std.proofs.Common.{◌≡◌, ℕ, ◌<◌, Some}
use Rattle.std.specs.Prelude.{slice_get}
use Rattle.base.specs.declared.status.Status.{Status}
use Rattle.base.specs.declared.status.Status.TheVariants.{Running}
use Rattle.tick_source.specs.Source.{statuses_of}
use Rattle.searches_hunt.proofs.tried.Tried.have_stopped.Given as goal

-- no process before `p` runs
abbrev pub invariant-loop-p : goal.invariant-loop-p
invariant-loop-p l = (k : ℕ) (status : Status) → k < l.p → slice_get (statuses_of l.self.machine) k ≡ Some status → status ≡ Running → ⊥
