use Rattle.std.proofs.Common.{◌∙◌, subst, sym}
use Rattle.std.proofs.lemmas.List.{at_drop_all, at_drop_more}
use Rattle.clap.specs.Simple.{App}
use Rattle.ticklab_line.specs.CommandLine.{IsLine}
use Rattle.ticklab_line.specs.prover.Described.{with_commands}
use Rattle.ticklab_line.proofs.commands.command_line.Goals as goal

pub loop-description-preserved : goal.loop-description-preserved
loop-description-preserved c =
    let held = c.loop-description.invariant in (
      _,
      c.with-line.ensures _ _ held.1 c.described.ensures,
      sym (at_drop_more (with_commands held.0) _ _ _ c.loop-description-test.true) ∙ held.2,
    )

pub returns : goal.returns
returns c =
    let held = c.loop-description.invariant in
    subst (λ (above : App). IsLine above c.loop-description.line)
    (sym (at_drop_all (with_commands held.0) _ _ c.loop-description-test.false) ∙ held.2) held.1
