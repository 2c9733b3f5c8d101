use Rattle.std.proofs.Common.{◌∙◌, sym}
use Rattle.ticklab_explain.proofs.Utf8.{no_text_dropped, text_kept}
use Rattle.ticklab_explain.proofs.scene.as_text.Goals as goal

pub returns-in-Ok : goal.returns-in-Ok
returns-in-Ok c = c.in-Ok.ensures.cases.0 ∙ sym (text_kept c.args.bytes.now c.in-Ok.ensures.cases.1)

pub returns-in-Err : goal.returns-in-Err
returns-in-Err c = sym (no_text_dropped c.args.bytes.now c.in-Err.ensures.cases.0)
