use Rattle.stamp_table.specs.prover.Steps.{no_step}
use Rattle.stamp_table.proofs.table.StampTable.looked_at.Given as goal

-- it is no step of the history
abbrev pub ghosts-looked : goal.ghosts-looked
ghosts-looked a = record { n = a.words.now.key.n; rows = a.words.now.key.rows; makes = no_step }
