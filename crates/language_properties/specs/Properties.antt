-- Properties of a state as plain trees.
use Rattle.std.specs.Prelude.{ℕ}
use Rattle.base.specs.declared.operator.Op.{Op}
use Rattle.language_properties.specs.declared.property.Question.{Question}
use Rattle.language_properties.specs.declared.property.Junction.{Junction}
use Rattle.language_properties.specs.declared.property.Quantifier.{Quantifier}
use Rattle.language_properties.specs.declared.property.Property.{Property}
use Rattle.language_properties.specs.declared.property.Property.TheVariants as P

-- In order: a number, `n`, the process that the quantifier of this number goes through, what is asked of a process,
-- `older[p, q]`, an operator or a junction between two, `not e`, and a quantifier with its number.
pub data Formula : Type 0 where
  number : ℕ → Formula
  count : Formula
  bound : ℕ → Formula
  asked : Question → Formula → Formula
  older : Formula → Formula → Formula
  binary : Formula → Op → Formula → Formula
  joined : Formula → Junction → Formula → Formula
  negated : Formula → Formula
  over : Quantifier → ℕ → Formula → Formula

-- the plain tree of a property that the code declares
abbrev pub formula_of : Property → Formula
formula_of (P.Number v) = number v
formula_of P.Count = count
formula_of (P.Bound i) = bound i
formula_of (P.Of' a p e) = asked a (formula_of e)
formula_of (P.Older' p e q f) = older (formula_of e) (formula_of f)
formula_of (P.Binary' p a op q b) = binary (formula_of a) op (formula_of b)
formula_of (P.Joined' p a by q b) = joined (formula_of a) by (formula_of b)
formula_of (P.Not' p e) = negated (formula_of e)
formula_of (P.Over' q i p e) = over q i (formula_of e)
