use Rattle.ticklab_explain.proofs.messages.push_schedule.Goals as goal

pub returns-in-BadItem : goal.returns-in-BadItem
returns-in-BadItem c = rw c.in-BadItem.is (rw c.about.ensures at (rw c.shortened-item.ensures at c.push_bad_item.ensures))

pub returns-in-NoSuchProcess : goal.returns-in-NoSuchProcess
returns-in-NoSuchProcess c = rw c.in-NoSuchProcess.is (rw c.about.ensures at (rw c.shortened-item.ensures at c.push_all.ensures))
