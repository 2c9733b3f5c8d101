-- One byte more.
use Rattle.std.proofs.Common.{◌≡◌, ℕ, suc, ◌+◌, List, [], ◌∷◌, ◌++◌, ap, arith, slice_index}
use Rattle.ticklab_answers.specs.Colours.{coloured_to, style_at}

pub next : (text : List ℕ) (at : ℕ) → coloured_to text (at + 1) ≡ coloured_to text at ++ (style_at text at ++ slice_index text at ∷ [])
next text at = let e : at + 1 ≡ suc at = omega arith in ap (coloured_to text) e
