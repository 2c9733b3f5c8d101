use Rattle.std.proofs.Common.{refl, ◌∙◌}
use Rattle.label_core.proofs.Held.{length_held, number_held}
use Rattle.label_core.proofs.digits.LabelPartialEq.eq.Goals as goal

pub returns : goal.returns
returns c =
    let self = c.t1-1 in
    let other = c.t2-1 in
    c.and_eq.ensures ∙ rw (
      c.eq.ensures,
      length_held self.inside.len self.inside.number c.args.self.now self.view_is,
      length_held other.inside.len other.inside.number c.args.other.now other.view_is,
      number_held self.inside.len self.inside.number c.args.self.now self.invariant.1 self.view_is,
      number_held other.inside.len other.inside.number c.args.other.now other.invariant.1 other.view_is,
    ) refl
