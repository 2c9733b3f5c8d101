-- Questions to a program, worked out.
use Rattle.std.proofs.Common.{◌≡◌, ℕ, List, [], ◌∷◌, Result, Ok, Err, refl, codes}
use Rattle.base.specs.Plain.{Name, WholeProgram, nil, nowhere}
use Rattle.base.specs.declared.operator.Op.TheVariants as O
use Rattle.base.specs.declared.span.Span.{Span}
use Rattle.language_properties.specs.Properties.{Formula, number, count, bound, asked, older, binary, joined, negated, over}
use Rattle.language_properties.specs.declared.property.Junction.TheVariants as J
use Rattle.language_properties.specs.declared.property.Quantifier.TheVariants as Q
use Rattle.language_properties.specs.declared.property.Question.TheVariants as A
use Rattle.language_questions.specs.Reading.{asked_with, brackets_with, level, link_with, named_with, new_name_at, older_with, operand_with, over_with, process_by, process_with, property_with, question_of, rest_with, row_at, sign_at, whole_from}
use Rattle.language_questions.specs.Spelled.{spelled}
use Rattle.language_questions.specs.Tokens.{short_piece, sign_piece, token_at, token_from}
use Rattle.language_questions.specs.declared.fault.Missing.TheVariants as I
use Rattle.language_questions.specs.declared.fault.QuestionFault.{QuestionFault}
use Rattle.language_questions.specs.declared.fault.QuestionFault.TheVariants as F
use Rattle.language_questions.specs.declared.token.Sign.TheVariants as S

abbrev pub name : List ℕ → Name
name letters = record { letters = letters; span = nowhere }

-- 3 processes, a variable, a scan, and three register rows, of which one is named as a word of questions
abbrev pub program : WholeProgram Name
program = record {
  processes = 3;
  span = nowhere;
  variables = name (codes "x") ∷ [];
  scans = name (codes "s") ∷ [];
  registers = name (codes "level") ∷ name (codes "inside") ∷ name (codes "ended") ∷ [];
  body = nil;
}

abbrev pub span : ℕ → ℕ → Span
span a b = record { start = a; end = b }

abbrev Asks : List ℕ → Result Formula QuestionFault → Type 0
Asks text answer = question_of program text ≡ answer

-- the trees of questions
trees :
    Asks (codes "n") (Ok count)
    × Asks (codes "007 # no more") (Ok (number 7))
    × Asks (codes "((trapped[n - 1]))") (Ok (asked A.Trapped (binary count O.Sub (number 1))))
    × Asks (codes "1 < (sum p: inside[p])") (Ok (binary (number 1) O.Less (over Q.Sum 0 (asked (A.Row 1) (bound 0)))))
    × Asks (codes "some p: some q: (not (p == q)) and inside[p] and inside[q]") (Ok (over Q.Some 0 (over Q.Some 1 (joined (negated (binary (bound 0) O.Equal (bound 1))) J.And (joined (asked (A.Row 1) (bound 0)) J.And (asked (A.Row 1) (bound 1)))))))
    × Asks (codes "held[0] or older[0, 1]") (Ok (joined (asked A.Held (number 0)) J.Or (older (number 0) (number 1))))
    × Asks (codes "held[3 - 1]") (Ok (asked A.Held (binary (number 3) O.Sub (number 1))))
unfolding question_of whole_from level property_with rest_with over_with link_with operand_with named_with brackets_with older_with asked_with process_with process_by new_name_at row_at sign_at token_at token_from sign_piece short_piece spelled
trees = (refl, refl, refl, refl, refl, refl, refl)

-- faults of tokens, places where no question goes on, faults of chains, of names, of words and of processes
faults :
    Asks (codes "1 @ 2") (Err (F.BadCharacter (span 2 3)))
    × Asks (codes "4294967296") (Err (F.NumberTooBig (span 0 10)))
    × Asks (codes "1 + 2 + 3") (Err (F.Unexpected I.End (span 6 7)))
    × Asks (codes "held[0") (Err (F.Unexpected (I.Sign S.CloseIndex) (span 6 6)))
    × Asks (codes "1 and 2 or 3") (Err (F.Unexpected I.End (span 8 10)))
    × Asks (codes "level[me]") (Err (F.Unknown (span 6 8)))
    × Asks (codes "x") (Err (F.NotShared (span 0 1)))
    × Asks (codes "some p: all p: p") (Err (F.Twice (span 12 13)))
    × Asks (codes "some level: 1") (Err (F.Twice (span 5 10)))
    × Asks (codes "trapped[0] and ended[0]") (Err (F.TwoMeanings (span 15 20)))
    × Asks (codes "held[3]") (Err (F.NoSuchProcess (span 5 6)))
unfolding question_of whole_from level property_with rest_with over_with link_with operand_with named_with brackets_with older_with asked_with process_with process_by new_name_at row_at sign_at token_at token_from sign_piece short_piece spelled
faults = (refl, refl, refl, refl, refl, refl, refl, refl, refl, refl, refl)
