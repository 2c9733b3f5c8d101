use Rattle.std.proofs.Common.{◌≡◌, ℕ, ◌<◌, [], List, Bool, ap, sym, subst, ◌∙◌, ⊎_elim}
use Rattle.atomic_table.specs.Table.{Me}
use Rattle.stamp_table.specs.Passes.{Holds, none_held, together, longer, PassView}
use Rattle.stamp_table.specs.Rule.{plain}
use Rattle.stamp_table.specs.prover.Steps.{settled}
use Rattle.stamp_table.specs.declared.rule.View.{View}
use Rattle.stamp_table.proofs.Here.{is_of}
use Rattle.stamp_table.proofs.Sets.{none_holds, holds_together, together_first}
use Rattle.stamp_table.proofs.table.StampTable.looked_at.Goals as goal

-- with nobody a set of processes holds what it held
held_alone : (held : List Bool) (p : ℕ) → Holds (together held none_held) p → Holds held p
held_alone held p holds = ⊎_elim (λ one. one) (λ none. absurd (none_holds p none)) (holds_together held none_held p holds)

pub invariant_of-result : goal.invariant_of-result
invariant_of-result c =
    let of = is_of c.pass.inside c.args.pass c.pass.view_is c.pass.invariant c.self.inside c.args.self.now c.self.view_is c.self.invariant c.requires.here in
    let held = c.pass.inside.held in
    let new = c.looked.new.seat.me in
    let me : new ≡ (plain (together held none_held) (longer c.pass.inside.seat.me.0.seen []), []) =
    c.looked.ensures.did.0 ∙ ap (λ (m : Me ℕ View). let r : Me ℕ View = (settled m.0, m.1) in r) of.plain in
    subst (λ h. (new ≡ (plain h new.0.seen, [])) × ((p : ℕ) → Holds h p → p < c.pass.inside.n)) (sym c.either_held.ensures) (
      me ∙ ap (λ s. let r : Me ℕ View = (plain (together held none_held) s, []) in r) (sym (ap (λ (m : Me ℕ View). m.0.seen) me)),
      λ p holds. of.few p (held_alone held p holds),
    )

pub returns-clause-held : goal.returns-clause-held
returns-clause-held c =
    let of = is_of c.pass.inside c.args.pass c.pass.view_is c.pass.invariant c.self.inside c.args.self.now c.self.view_is c.self.invariant c.requires.here in
    λ p. (
      λ holds. subst (λ (z : PassView). Holds z.held p) of.view (held_alone c.pass.inside.held p (subst (λ h. Holds h p) c.either_held.ensures holds)),
      λ holds. subst (λ h. Holds h p) (sym c.either_held.ensures)
          (together_first c.pass.inside.held none_held p (subst (λ (z : PassView). Holds z.held p) (sym of.view) holds)),
    )
