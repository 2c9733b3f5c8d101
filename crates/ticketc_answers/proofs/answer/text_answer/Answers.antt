use Rattle.ticketc_answers.proofs.answer.text_answer.Goals as goal

pub returns-in-Order : goal.returns-in-Order
returns-in-Order c = rw c.in-Order.is c.order_text.ensures

pub returns-in-Check : goal.returns-in-Check
returns-in-Check c = rw c.in-Check.is c.check_text.ensures

pub returns-in-Emit : goal.returns-in-Emit
returns-in-Emit c = rw c.in-Emit.is c.emit_text.ensures

pub returns-in-Source : goal.returns-in-Source
returns-in-Source c = rw c.in-Source.is c.source_text.ensures

pub returns-in-Code : goal.returns-in-Code
returns-in-Code c = rw c.in-Code.is c.code_report.ensures

pub returns-in-Lift : goal.returns-in-Lift
returns-in-Lift c = rw c.in-Lift.is c.carried_text.ensures

pub returns-in-Drop : goal.returns-in-Drop
returns-in-Drop c = rw c.in-Drop.is c.carried_text-in-Drop.ensures
