use Rattle.std.proofs.Common.{◌≡◌, All, List, ◌++◌, vec_items}
use Rattle.stamp_table.specs.Passes.{PassView, AllMeet}
use Rattle.stamp_table.proofs.table.StampTable.meet_all.Given as goal

-- those that are left are of the table, and the others met
abbrev pub invariant-loop-pass : goal.invariant-loop-pass
invariant-loop-pass l =
    (done : List PassView) × (vec_items l.fn.passes ≡ vec_items l.passes ++ done) × All (λ (pass : PassView). pass.table ≡ l.self) (vec_items l.passes)
    × AllMeet l.self done l.met

abbrev pub decreases-loop-pass : goal.decreases-loop-pass
decreases-loop-pass l = goal.left-loop-pass l
