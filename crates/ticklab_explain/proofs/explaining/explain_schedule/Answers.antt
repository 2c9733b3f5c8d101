use Rattle.std.proofs.Common.{ℕ, List, subst}
use Rattle.ticklab_explain.specs.Reports.{IsReport}
use Rattle.ticklab_explain.specs.Settings.{step_items}
use Rattle.ticklab_explain.proofs.explaining.explain_schedule.Goals as goal

pub returns-in_ok-report-in-Some : goal.returns-in_ok-report-in-Some
returns-in_ok-report-in-Some c =
    let R : List ℕ → Type 0 = λ t. IsReport (step_items c.args.n) c.args.name.now t c.in-Some.refusal c.in_ok-report-in-Some.report.items in
    record {
      refusal = c.in-Some.refusal;
      had = rw c.in-Some.is at c.in_ok-refusal.ensures;
      told = subst R c.as_bytes.ensures.value c.in_ok-report-in-Some.ensures;
    }
