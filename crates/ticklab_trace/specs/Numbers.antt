-- The statements of a program, numbered from 0 in the order of the text. The statements in the blocks of a
-- statement come after it, and before what follows it.
use Rattle.std.specs.Prelude.{◌≡◌, ℕ, suc, ◌+◌, List, [], ◌∷◌, ◌++◌, slice_get, Option, Some, None}
use Rattle.base.specs.Plain.{Statement, branch, repeat, Block, nil, cons, onto}

abbrev mutual
  -- how many statements a statement is, with those of its blocks
  pub size_of : Statement ℕ → ℕ
  size_of (branch e a b) = suc (size a + size b)
  size_of (repeat e a) = suc (size a)
  size_of _ = 1

  -- how many a block has
  pub size : Block ℕ → ℕ
  size nil = 0
  size (cons s b) = size_of s + size b

abbrev mutual
  -- For each statement of a block, what remains to be done where it is the next, itself first: `after`
  -- follows the block.
  pub remains : Block ℕ → Block ℕ → List (Block ℕ)
  remains nil after = []
  remains (cons s b) after = cons s (onto b after) ∷ (inside s (onto b after) ++ remains b after)

  -- and for each statement of the blocks of a statement; a loop comes again after its block
  pub inside : Statement ℕ → Block ℕ → List (Block ℕ)
  inside (branch e a b) after = remains a after ++ remains b after
  inside (repeat e a) after = remains a (cons (repeat e a) after)
  inside _ after = []

-- the number of the statement that is the next where this remains of the program, and none where nothing does
abbrev pub IsNumber : Block ℕ → Option ℕ → Block ℕ → Type 0
IsNumber body None rest = rest ≡ nil
IsNumber body (Some k) rest = slice_get (remains body nil) k ≡ Some rest
