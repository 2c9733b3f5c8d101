-- The words of questions, and how each is spelled.
use Rattle.std.specs.Prelude.{ℕ, List, [], ◌∷◌, codes}
use Rattle.language_properties.specs.declared.property.Junction.TheVariants as J
use Rattle.language_properties.specs.declared.property.Quantifier.TheVariants as Q
use Rattle.language_questions.specs.declared.token.Word.{Word}
use Rattle.language_questions.specs.declared.token.Word.TheVariants as W

abbrev pub words : List (List ℕ × Word)
words =
    (codes "n", W.Count) ∷ (codes "not", W.Not) ∷ (codes "and", W.Joins J.And) ∷ (codes "or", W.Joins J.Or)
    ∷ (codes "some", W.Over Q.Some) ∷ (codes "all", W.Over Q.All) ∷ (codes "sum", W.Over Q.Sum)
    ∷ (codes "held", W.Held) ∷ (codes "older", W.Older) ∷ (codes "ended", W.Ended) ∷ (codes "trapped", W.Trapped) ∷ []
