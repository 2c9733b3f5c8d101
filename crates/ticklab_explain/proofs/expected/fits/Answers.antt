use Rattle.std.proofs.lemmas.Result.{IfOk-weaker}
use Rattle.ticklab_explain.proofs.Fitting.{end_fits, fits_as_follows}
use Rattle.ticklab_explain.proofs.expected.fits.Goals as goal

pub returns-in-TextEnd : goal.returns-in-TextEnd
returns-in-TextEnd c =
    rw c.in-TextEnd.is (IfOk-weaker c.is_whole.result _ _ (λ b t. end_fits c.args.front.now c.utf8.front b t) c.is_whole.ensures)

pub returns-in_default : goal.returns-in_default
returns-in_default c =
    IfOk-weaker c.may_follow.result _ _ (λ b t. fits_as_follows c.args.front.now c.args.one c.in_default.not-TextEnd b t) c.may_follow.ensures
