use Rattle.std.proofs.Common.{IfOk, List, ℕ, subst}
use Rattle.ticklab_explain.specs.Reports.{IsReport}
use Rattle.ticklab_explain.specs.Settings.{move_items}
use Rattle.ticketc_refusals.specs.declared.refusal.Refusal.TheVariants.{Schedule}
use Rattle.ticklab_explain.proofs.explaining.explain_moves.Goals as goal

pub returns : goal.returns
returns c =
    subst (λ (t : List ℕ). IfOk c.moves_report.result (λ report. IsReport (move_items c.args.n) c.args.name.now t (Schedule c.args.fault) report.items)) c.as_bytes.ensures.value
    c.moves_report.ensures
