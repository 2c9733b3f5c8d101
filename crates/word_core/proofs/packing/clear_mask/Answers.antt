use Rattle.std.proofs.Common.{ap, ◌∙◌}
use Rattle.std.specs.Prelude.{bit_and}
use Rattle.word_core.specs.Packed.{word}
use Rattle.word_core.proofs.Views.{mask_word}
use Rattle.word_core.proofs.packing.clear_mask.Goals as goal

pub returns : goal.returns
returns c = λ n labels few are inside. ap (bit_and (word labels)) c.mask_but.ensures ∙ mask_word n c.args.p labels few are inside
