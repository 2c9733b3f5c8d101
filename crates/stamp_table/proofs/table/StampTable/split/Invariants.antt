use Rattle.stamp_table.proofs.table.StampTable.split.Given as goal

-- which process leaves
abbrev pub ghosts-cut : goal.ghosts-cut
ghosts-cut a = record { who = a._p }
