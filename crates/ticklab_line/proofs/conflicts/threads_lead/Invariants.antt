use Rattle.std.proofs.Common.{◌≡◌, map}
use Rattle.std.specs.Prelude.{find}
use Rattle.clap.specs.Matches.{found_of, ids_left}
use Rattle.clap.specs.Walk.{rows_of}
use Rattle.ticklab_line.specs.Conflicts.{may_conflict}
use Rattle.ticklab_line.proofs.conflicts.threads_lead.Given as goal

abbrev pub invariant-loop-id : goal.invariant-loop-id
invariant-loop-id l =
    find may_conflict (ids_left l.id-iterator) ≡ find may_conflict (map (λ row. row.id) (rows_of (found_of l.given)))
