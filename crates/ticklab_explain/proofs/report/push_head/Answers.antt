use Rattle.std.proofs.Common.{◌++◌, Some, None, refl, subst}
use Rattle.ticklab_explain.specs.Reports.{placed, unplaced, place_text, error_text}
use Rattle.ticklab_explain.specs.Spots.{IsSpanAt}
use Rattle.ticklab_explain.specs.declared.spot.Spot.{Spot}
use Rattle.ticklab_explain.proofs.report.push_head.Goals as goal

pub returns-in_ok-push_placed-in-Some : goal.returns-in_ok-push_placed-in-Some
returns-in_ok-push_placed-in-Some c =
    let P : Spot → Type 0 = λ s. IsSpanAt c.args.text.now s (Some c.in-Some.span) in
    let h = c.in_ok-push_placed-in-Some.ensures in (
      place_text c.args.name.now h.0 ++ error_text c.args.message.now ++ h.1,
      placed c.in-Some.span h.0 h.1 (subst P c.spot_of.ensures c.in-Some.ensures) h.2 h.3 refl,
      h.4,
    )

pub returns-in_ok-push_unplaced-in-None : goal.returns-in_ok-push_unplaced-in-None
returns-in_ok-push_unplaced-in-None c =
    let P : Spot → Type 0 = λ s. IsSpanAt c.args.text.now s None in (
      c.args.name.now ++ error_text c.args.message.now,
      unplaced (subst P c.spot_of.ensures c.in-None.ensures) refl,
      c.in_ok-push_unplaced-in-None.ensures,
    )
