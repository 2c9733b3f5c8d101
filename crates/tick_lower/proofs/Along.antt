-- Facts of each place of a code, the height of the stack at it among them.
--
-- The height of a place follows from the instruction before it alone: no fact asks which jump reached it.
use Rattle.std.proofs.Common.{◌≡◌, ℕ, ◌+◌, List, [], ◌∷◌, ◌++◌, refl, sym, subst, length, arith}
use Rattle.code_core.specs.declared.instr.Instr.{Instr}
use Rattle.tick_lower.specs.prover.Paired.{after}

-- the height of the place after several instructions
abbrev pub height_after : ℕ → List Instr → ℕ
height_after h [] = h
height_after h (i ∷ is) = height_after (after i h) is

pub height_after-append : (a b : List Instr) (h : ℕ) → height_after h (a ++ b) ≡ height_after (height_after h a) b
height_after-append [] b h = refl
height_after-append (i ∷ a) b h = height_after-append a b (after i h)

-- P holds of each place from `k` on, whose first has height `h`.
abbrev pub Along : (ℕ → ℕ → Instr → Type 0) → ℕ → ℕ → List Instr → Type 0
Along P k h [] = Unit {0}
Along P k h (i ∷ is) = P k h i × Along P (k + 1) (after i h) is

module _ (P : ℕ → ℕ → Instr → Type 0) where
  pub along_as : (k q h m : ℕ) (is : List Instr) → k ≡ q → h ≡ m → Along P k h is → Along P q m is
  along_as k q h m is places heights along = subst (λ x. Along P x m is) places (subst (λ x. Along P k x is) heights along)

  pub along_front : (k h : ℕ) (a b : List Instr) → Along P k h (a ++ b) → Along P k h a
  along_front k h [] b along = tt
  along_front k h (i ∷ a) b along = (along.0, along_front (k + 1) (after i h) a b along.1)

  pub along_back : (k q h m : ℕ) (a b : List Instr) → k + length a ≡ q → height_after h a ≡ m → Along P k h (a ++ b) → Along P q m b
  along_back k q h m [] b at is along = along_as k q h m b (omega arith) is along
  along_back k q h m (i ∷ a) b at is along = along_back (k + 1) q (after i h) m a b (omega arith) is along.1

  pub along_join : (k q h m : ℕ) (a b : List Instr) → k + length a ≡ q → height_after h a ≡ m
      → Along P k h a → Along P q m b → Along P k h (a ++ b)
  along_join k q h m [] b at is along more = along_as q k m h b (omega arith) (sym is) more
  along_join k q h m (i ∷ a) b at is along more = (along.0, along_join (k + 1) q (after i h) m a b (omega arith) is along.1 more)
