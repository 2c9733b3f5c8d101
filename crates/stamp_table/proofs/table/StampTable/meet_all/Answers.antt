use Rattle.std.proofs.Common.{◌≡◌, ◌++◌, [], ◌∷◌, ◌∙◌, ap, append_assoc}
use Rattle.std.specs.Prelude.{Some}
use Rattle.std.proofs.lemmas.List.Elements.{All-pop}
use Rattle.stamp_table.specs.Passes.{PassView}
use Rattle.stamp_table.proofs.Gathering.{one_meets, one_more_meets}
use Rattle.stamp_table.proofs.table.StampTable.meet_all.Goals as goal

pub loop-pass-init : goal.loop-pass-init
loop-pass-init c =
    let here = All-pop (λ (pass : PassView). pass.table ≡ c.args.self.now) _ _ (Some c.in_ok-first.first) c.in_ok-first.ensures.items c.requires in (
      c.in_ok-first.first ∷ [],
      c.in_ok-first.ensures.items,
      here.0,
      one_meets c.args.self.now _ c.looked_at-met.result c.looked_at-met.ensures.table c.looked_at-met.ensures.held c.looked_at-met.ensures.seen c.looked_at-met.ensures.legal,
    )

pub loop-pass-preserved : goal.loop-pass-preserved
loop-pass-preserved c =
    let was = c.loop-pass.invariant in
    let pass = c.in-Some.pass in
    let here = All-pop (λ (pass : PassView). pass.table ≡ c.args.self.now) _ _ (Some pass) c.in-Some.ensures.items was.2 in (
      pass ∷ was.0,
      was.1 ∙ ap (λ xs. xs ++ was.0) c.in-Some.ensures.items ∙ append_assoc _ (pass ∷ []) was.0,
      here.0,
      one_more_meets c.args.self.now pass was.0 c.loop-pass.met c.meet-met.result was.3 c.meet-met.ensures,
    )
