use Rattle.std.proofs.Common.{refl}
use Rattle.tick_kinds.proofs.Offered.{within_law}
use Rattle.tick_kinds.specs.Resolution.{resolved}
use Rattle.tick_lower.specs.Lowered.{lowered, lowered_sizes}
use Rattle.tick_lower.proofs.Standing.{lowered_verified, resolved_plain}
use Rattle.tick_lower.proofs.laws.law_verified.Goals as goal

pub returns-clause-declared : goal.returns-clause-declared
returns-clause-declared c = lowered_verified

pub returns-clause-accepted : goal.returns-clause-accepted
returns-clause-accepted c = λ p fine few.
    (resolved_plain p (resolved p).body (lowered_sizes (resolved p)) (lowered (resolved p)) refl refl (within_law p fine) few).0
