use Rattle.std.proofs.Common.{◌∙◌, ℕ, List, sym}
use Rattle.std.specs.Borrow.{Bor}
use Rattle.std.specs.Str.{bytes_eq}
use Rattle.ticklab_explain.proofs.Rows.{any_of}
use Rattle.ticklab_explain.proofs.words.is_one_of.Goals as goal

pub returns : goal.returns
returns c =
    c.is_among.ensures ∙ sym (any_of (λ one. bytes_eq one c.args.word.now) (λ (one : Bor (List ℕ)). one.now) c.args.words.now)
