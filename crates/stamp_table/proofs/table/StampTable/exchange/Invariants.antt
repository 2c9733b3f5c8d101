use Rattle.std.specs.Prelude.{◌==◌}
use Rattle.stamp_table.specs.Passes.{by}
use Rattle.stamp_table.specs.prover.Steps.{exchange_act}
use Rattle.stamp_table.proofs.table.StampTable.exchange.Given as goal

-- which step of the history it is
abbrev pub ghosts-exchanged : goal.ghosts-exchanged
ghosts-exchanged a = record { n = a.words.now.key.n; rows = a.words.now.key.rows; makes = λ found. by a._process (exchange_act (found == a.old) a.old a.new found) }
