-- What changes a word: the exchange of a stamp, and a clear.
use Rattle.std.specs.Prelude.{◌≡◌, ℕ, List, [], ◌∷◌}
use Rattle.ticket_core.specs.declared.moves.Move.{Move}
use Rattle.word_core.specs.Stamps.{Labels, moved}
use Rattle.word_core.specs.Packed.{IsWordOf, word}

-- the move makes the word `next` of the word `bits` of `n` processes
pub record Makes (n bits : ℕ) (move : Move) (next : ℕ) : Type 0 where
  pub labels : Labels
  pub is : IsWordOf n bits labels
  pub makes : word (moved move labels) ≡ next

-- these moves in turn make the word `last` of the word `bits`
abbrev pub LeadsTo : ℕ → ℕ → List Move → ℕ → Type 0
LeadsTo n bits [] last = bits ≡ last
LeadsTo n bits (move ∷ moves) last = (next : ℕ) × Makes n bits move next × LeadsTo n next moves last
