use Rattle.ticketc_line.proofs.asking.command_line.Goals as goal

pub returns : goal.returns
returns c = c.with_all.ensures _ c.wanting_one.ensures
