use Rattle.word_core.specs.declared.history.SharedAct.TheVariants.{Read}
use Rattle.stamp_table.specs.Passes.{by}
use Rattle.stamp_table.proofs.table.StampTable.read.Given as goal

-- which step of the history it is
abbrev pub ghosts-fetched : goal.ghosts-fetched
ghosts-fetched a = record { n = a.words.now.key.n; rows = a.words.now.key.rows; makes = λ found. by a._process (Read a._row a._index found) }
