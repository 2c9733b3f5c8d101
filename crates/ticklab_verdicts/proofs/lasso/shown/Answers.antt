use Rattle.std.proofs.Common.{◌∙◌, ap}
use Rattle.ticklab_verdicts.specs.Lines.{loop_line}
use Rattle.ticklab_verdicts.proofs.lasso.shown.Goals as goal

pub returns-in_ok-text-in-Some-Lasso : goal.returns-in_ok-text-in-Some-Lasso
returns-in_ok-text-in-Some-Lasso c =
    let line = c.deref.ensures ∙ c.in_ok-line-in-Some-Lasso.ensures ∙ ap loop_line c.as_slice.ensures.value in
    rw c.in-Some-Lasso.is (rw c.in-Some-Lasso.field-0-is (record {
      status = c.answer.ensures.status;
      quiet = c.answer.ensures.told;
      out = rw c.answer.ensures.out (rw line at c.in_ok-text-in-Some-Lasso.ensures);
    }))
