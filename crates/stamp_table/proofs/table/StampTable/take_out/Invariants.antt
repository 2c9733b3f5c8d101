use Rattle.word_core.specs.declared.history.SharedAct.TheVariants.{Clear}
use Rattle.stamp_table.specs.Passes.{by}
use Rattle.stamp_table.proofs.table.StampTable.take_out.Given as goal

-- which step of the history it is
abbrev pub ghosts-masked : goal.ghosts-masked
ghosts-masked a = record { n = a.words.now.key.n; rows = a.words.now.key.rows; makes = λ found. by a._process (Clear found) }
