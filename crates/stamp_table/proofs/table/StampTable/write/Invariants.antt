use Rattle.word_core.specs.declared.history.SharedAct.TheVariants.{Write}
use Rattle.stamp_table.specs.Passes.{by}
use Rattle.stamp_table.proofs.table.StampTable.write.Given as goal

-- which step of the history it is
abbrev pub ghosts-stored : goal.ghosts-stored
ghosts-stored a = record { n = a.words.now.key.n; rows = a.words.now.key.rows; makes = λ found. by a._process (Write a._row found) }
