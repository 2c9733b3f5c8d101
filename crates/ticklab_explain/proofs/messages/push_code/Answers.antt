use Rattle.ticklab_explain.proofs.messages.push_code.Goals as goal

pub returns-in-BadJump : goal.returns-in-BadJump
returns-in-BadJump c = rw c.in-BadJump.is c.push_instruction.ensures

pub returns-in-StackShort : goal.returns-in-StackShort
returns-in-StackShort c = rw c.in-StackShort.is c.push_instruction-in-StackShort.ensures

pub returns-in-HeightsDiffer : goal.returns-in-HeightsDiffer
returns-in-HeightsDiffer c = rw c.in-HeightsDiffer.is c.push_instruction-in-HeightsDiffer.ensures

pub returns-in-BadSlot : goal.returns-in-BadSlot
returns-in-BadSlot c = rw c.in-BadSlot.is c.push_instruction-in-BadSlot.ensures

pub returns-in-FallsOff : goal.returns-in-FallsOff
returns-in-FallsOff c = rw c.in-FallsOff.is (rw c.from.ensures at c.push_number.ensures)

pub returns-in-BadStamp : goal.returns-in-BadStamp
returns-in-BadStamp c = rw c.in-BadStamp.is c.push_instruction-in-BadStamp.ensures
