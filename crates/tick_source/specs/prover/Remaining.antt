-- The statements that remain, as open blocks, one inside the other.
use Rattle.std.specs.Prelude.{ℕ, List, [], ◌∷◌, Option, Some, None}
use Rattle.std.proofs.Common.{Bor}
use Rattle.base.specs.Plain.{Statement, Block, nil, cons, onto}
use Rattle.tick_kinds.specs.Resolved.{resolved_block}
use Rattle.tick_kinds.specs.declared.resolved.Statement as DeclaredStatement

-- the first statement, where there is one
abbrev pub first_of : Block ℕ → Option (Statement ℕ)
first_of nil = None
first_of (cons s rest) = Some s

-- the statements after the first
abbrev pub after_first : Block ℕ → Block ℕ
after_first nil = nil
after_first (cons s rest) = rest

-- the rests of the open blocks one after the other, the innermost, which is the last, first
abbrev pub joined : List (Bor (List DeclaredStatement.Statement)) → Block ℕ
joined [] = nil
joined (b ∷ bs) = onto (joined bs) (resolved_block b.now)

-- a block that has a statement
abbrev pub HasMore : List DeclaredStatement.Statement → Type 0
HasMore [] = ⊥
HasMore (s ∷ b) = Unit {0}

-- no open block is done
abbrev pub IsUndone : List (Bor (List DeclaredStatement.Statement)) → Type 0
IsUndone [] = Unit {0}
IsUndone (b ∷ bs) = HasMore b.now × IsUndone bs
