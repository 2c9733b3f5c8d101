-- The signs of questions, and how each is spelled.
use Rattle.std.specs.Prelude.{ℕ, List, [], ◌∷◌, codes}
use Rattle.base.specs.declared.operator.Op.TheVariants as O
use Rattle.language_questions.specs.declared.token.Sign.{Sign}
use Rattle.language_questions.specs.declared.token.Sign.TheVariants as S

abbrev pub signs : List (List ℕ × Sign)
signs =
    (codes "(", S.Open) ∷ (codes ")", S.Close) ∷ (codes "[", S.OpenIndex) ∷ (codes "]", S.CloseIndex)
    ∷ (codes ",", S.Comma) ∷ (codes ":", S.Colon)
    ∷ (codes "<=", S.Operator O.AtMost) ∷ (codes "==", S.Operator O.Equal) ∷ (codes "!=", S.Operator O.Differs)
    ∷ (codes "<", S.Operator O.Less) ∷ (codes "+", S.Operator O.Add) ∷ (codes "-", S.Operator O.Sub)
    ∷ (codes "*", S.Operator O.Mul) ∷ (codes "/", S.Operator O.Div) ∷ (codes "%", S.Operator O.Rem) ∷ []
