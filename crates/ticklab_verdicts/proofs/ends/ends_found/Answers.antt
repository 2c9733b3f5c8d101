use Rattle.ticklab_verdicts.proofs.ends.ends_found.Goals as goal

pub returns-in-Single : goal.returns-in-Single
returns-in-Single g c = rw c.in-Single.is c.found_by.ensures

pub returns-in-Merged : goal.returns-in-Merged
returns-in-Merged g c = rw c.in-Merged.is c.found_by-in-Merged.ensures

pub returns-in-MergedFirst : goal.returns-in-MergedFirst
returns-in-MergedFirst g c = rw c.in-MergedFirst.is c.found_first.ensures
