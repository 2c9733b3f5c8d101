use Rattle.std.proofs.Common.{◌++◌, refl}
use Rattle.base.specs.Lines.{line_end}
use Rattle.ticklab_explain.specs.Reports.{place_text, shown}
use Rattle.ticklab_explain.specs.declared.report.TheConstants.{ARROW}
use Rattle.ticklab_explain.proofs.report.push_seen.Goals as goal

pub returns-in_ok-push_other-in-Some : goal.returns-in_ok-push_other-in-Some
returns-in_ok-push_other-in-Some c =
    let h = c.in_ok-push_other-in-Some.ensures in
    (ARROW.now ++ place_text c.args.name.now h.0 ++ line_end ++ h.1, shown c.in-Some.span h.0 h.1 c.in-Some.is h.2 h.3 refl, h.4)
