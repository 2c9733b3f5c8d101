use Rattle.word_core.specs.declared.history.SharedAct.TheVariants.{Load}
use Rattle.stamp_table.specs.Passes.{by}
use Rattle.stamp_table.proofs.table.StampTable.load.Given as goal

-- which step of the history it is
abbrev pub ghosts-loaded : goal.ghosts-loaded
ghosts-loaded a = record { n = a.words.now.key.n; rows = a.words.now.key.rows; makes = λ found. by a._process (Load found) }
