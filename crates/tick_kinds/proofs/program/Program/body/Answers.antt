use Rattle.std.proofs.Common.{length, ap, sym, ◌∙◌, subst}
use Rattle.tick_kinds.proofs.Acceptance.{resolved_so, body_within}
use Rattle.tick_kinds.proofs.program.Program.body.Goals as goal
use Rattle.tick_kinds.specs.Resolution.{resolved}
use Rattle.tick_kinds.specs.Resolved.{resolved_block}
use Rattle.tick_kinds.specs.Uses.{IsWithin}
use Rattle.base.specs.Plain.{tree_of}

pub returns-clause-resolved : goal.returns-clause-resolved
returns-clause-resolved c =
    ap resolved_block c.deref.ensures.value
    ∙ resolved_so (tree_of c.self.inside.tree) _ c.self.invariant
    ∙ ap (λ p. (resolved p).body) c.self.view_is

pub returns-clause-within : goal.returns-clause-within
returns-clause-within c =
    subst (λ xs. IsWithin (length c.args.self.now.variables) (length c.args.self.now.scans) (length c.args.self.now.registers) (resolved_block xs)) (sym c.deref.ensures.value)
    (subst (λ p. IsWithin (length p.variables) (length p.scans) (length p.registers) (resolved_block c.self.inside.body.items)) c.self.view_is
    (body_within (tree_of c.self.inside.tree) _ c.self.invariant))
