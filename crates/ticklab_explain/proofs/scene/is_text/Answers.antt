use Rattle.std.proofs.Common.{sym}
use Rattle.ticklab_explain.proofs.Utf8.{is_no_text, is_text}
use Rattle.ticklab_explain.proofs.scene.is_text.Goals as goal

pub returns-in-Ok : goal.returns-in-Ok
returns-in-Ok c = sym (is_text c.args.bytes.now c.in-Ok.ensures.cases.1)

pub returns-in-Err : goal.returns-in-Err
returns-in-Err c = sym (is_no_text c.args.bytes.now c.in-Err.ensures.cases.0)
