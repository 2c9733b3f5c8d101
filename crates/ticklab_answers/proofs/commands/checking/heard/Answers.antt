use Rattle.std.proofs.Common.{sym}
use Rattle.std.proofs.lemmas.Slice.Zip.{AllZip-long}
use Rattle.ticklab_answers.proofs.commands.checking.heard.Goals as goal

pub findings_told-requires : goal.findings_told-requires
findings_told-requires g c = sym (AllZip-long _ _ _ c.in-Ok.ensures.are.come)
