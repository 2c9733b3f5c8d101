-- What the crates above may cite: the laws, and what the maps keep of a schedule.
use Rattle.std.proofs.Common.{ℕ, ◌≤◌, suc, true, false, if◌then◌else◌, List, [], ◌∷◌, length, arith}
use Rattle.code_core.specs.declared.instr.Instr.{Instr}
use Rattle.code_machine.specs.Machine.{CodeState, code_step}
use Rattle.tick_sim.specs.Maps.{dropped_from, is_commit}
pub use Rattle.tick_sim.proofs.Dropped.{drop_law}
pub use Rattle.tick_sim.proofs.Lifted.{lift_law}
pub use Rattle.tick_sim.proofs.Ends.{ends_law}
pub use Rattle.tick_sim.proofs.Maps.{dropped_lawful, lifted_lawful}

pub dropped_short : (n : ℕ) (code : List Instr) (schedule : List ℕ) (d : CodeState)
    → length (dropped_from n code schedule d) ≤ length schedule
dropped_short n code [] d = omega arith
dropped_short n code (p ∷ schedule) d =
    let later = dropped_short n code schedule (code_step n code p d) in
    elim (is_commit n code p d) as (λ b. length
    (if b then p ∷ dropped_from n code schedule (code_step n code p d) else dropped_from n code schedule
    (code_step n code p d)) ≤ suc (length schedule)) [
      | true ↦ omega (arith, later)
      | false ↦ omega (arith, later)
    ]
