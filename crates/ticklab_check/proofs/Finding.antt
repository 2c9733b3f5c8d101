-- The lines of a file are the properties that the code takes of them.
use Rattle.std.proofs.Common.{◌≡◌, ◌∷◌, [], List, ap, map, refl}
use Rattle.base.specs.declared.span.Span.{Span}
use Rattle.language_properties.specs.Properties.{Formula, formula_of}
use Rattle.language_questions.specs.declared.questions.NeverLine.{NeverLine}

pub lines_kept : (lines : List NeverLine)
    → map formula_of (map (λ line. line.property) lines) ≡ map (λ (line : Formula × Span). line.0) (map (λ line. (formula_of line.property, line.span)) lines)
lines_kept [] = refl
lines_kept (line ∷ lines) = ap (λ (rest : List Formula). formula_of line.property ∷ rest) (lines_kept lines)
