use Rattle.std.proofs.Common.{take}
use Rattle.std.specs.Str.{IsUtf8}
use Rattle.ticklab_explain.proofs.Fitting.{none_fits}
use Rattle.ticklab_explain.proofs.expected.fitting_at.Goals as goal

pub returns-in-Err : goal.returns-in-Err
returns-in-Err c =
    let no_text : IsUtf8 (take c.min-place.result c.args.text.now) → ⊥ = c.in-Err.ensures.cases.0 in
    rw c.new.ensures.items (none_fits _ (rw c.min-place.ensures at no_text) c.args.among.now)
