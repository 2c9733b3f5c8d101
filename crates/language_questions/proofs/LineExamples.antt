-- What lines ask of the program of `Examples`, worked out.
use Rattle.std.proofs.Common.{◌≡◌, ℕ, true, false, List, [], ◌∷◌, ◌++◌, Some, Result, Ok, Err, refl, codes}
use Rattle.language_properties.specs.Properties.{count}
use Rattle.language_questions.proofs.Examples.{program, span}
use Rattle.language_questions.specs.Ends.{no_ends}
use Rattle.language_questions.specs.Lines.{Asked, conditioned_at, each_from, ended_at, ends_from, expected_from, listed_from, listed_with, no_questions, questions_in, with_comment, with_directive, with_ends, with_expected, with_never}
use Rattle.language_questions.specs.Missed.{missed_from}
use Rattle.language_questions.specs.Reading.{asked_with, brackets_with, level, link_with, named_with, new_name_at, older_with, operand_with, over_with, process_by, process_with, property_with, rest_with, row_at, sign_at, whole_from}
use Rattle.language_questions.specs.Spelled.{spelled}
use Rattle.language_questions.specs.Tokens.{short_piece, sign_piece, token_at, token_from}
use Rattle.language_questions.specs.declared.fault.Missing.TheVariants as I
use Rattle.language_questions.specs.declared.fault.QuestionFault.{QuestionFault}
use Rattle.language_questions.specs.declared.fault.QuestionFault.TheVariants as F
use Rattle.language_questions.specs.declared.questions.Ends.TheVariants as N
use Rattle.language_questions.specs.declared.questions.EndsLines.{EndsLines}
use Rattle.language_questions.specs.declared.questions.Expected.{Expected}
use Rattle.language_questions.specs.declared.questions.Expected.TheVariants as X

abbrev AskInAll : List ℕ → Result Asked QuestionFault → Type 0
AskInAll text answer = questions_in program text ≡ answer

-- no more is asked than whether these end
abbrev asks_ends : EndsLines → Asked
asks_ends ends = record no_questions { ends = ends }

abbrev expects : Expected → Asked
expects expected = record no_questions { expected = Some expected }

-- a line asks behind code too, and a question ends at a `#`
a_property : AskInAll (codes "end # n" ++ 10 ∷ codes " end #! never n # so") (Ok (record no_questions { never = (count, span 22 23) ∷ [] }))
unfolding questions_in with_comment missed_from with_directive with_never with_ends whole_from level property_with rest_with link_with operand_with named_with brackets_with older_with asked_with process_with process_by over_with new_name_at row_at sign_at token_at token_from sign_piece short_piece spelled
a_property = refl

of_processes :
    AskInAll (codes "#! ends 2 0") (Ok (asks_ends (record no_ends { fair = Some (N.Each (true ∷ false ∷ true ∷ false ∷ false ∷ false ∷ [])) })))
    × AskInAll (codes "#! ends all") (Ok (asks_ends (record no_ends { fair = Some N.All })))
    × AskInAll (codes "#! ends none") (Ok (asks_ends (record no_ends { fair = Some N.Nobody })))
unfolding questions_in with_comment missed_from with_directive with_never with_ends ends_from conditioned_at each_from listed_from listed_with ended_at token_at token_from sign_piece short_piece spelled
of_processes = (refl, refl, refl)

-- under a condition, and under each one in a line of its own
under_conditions :
    AskInAll (codes "#! ends all wait_free") (Ok (asks_ends (record no_ends { wait_free = Some N.All })))
    × AskInAll (codes "#! ends 0 2 alone # so") (Ok (asks_ends (record no_ends { alone = Some (N.Each (true ∷ false ∷ true ∷ false ∷ false ∷ false ∷ [])) })))
    × AskInAll (codes "#! ends none alone") (Ok (asks_ends (record no_ends { alone = Some N.Nobody })))
    × AskInAll (codes "#! ends 0 0 0 0 0 0 wait_free") (Ok (asks_ends (record no_ends { wait_free = Some (N.Each (true ∷ false ∷ false ∷ false ∷ false ∷ false ∷ [])) })))
    × AskInAll (codes "#! ends all wait_free" ++ 10 ∷ codes "#! ends none" ++ 10 ∷ codes "#! ends 1 alone") (Ok (asks_ends (record { fair = Some N.Nobody; wait_free = Some N.All; alone = Some (N.Each (false ∷ true ∷ false ∷ false ∷ false ∷ false ∷ [])) })))
unfolding questions_in with_comment missed_from with_directive with_never with_ends ends_from conditioned_at each_from listed_from listed_with ended_at token_at token_from sign_piece short_piece spelled
under_conditions = (refl, refl, refl, refl, refl)

-- no other word stands behind those who are asked, and nothing behind the condition
other_conditions :
    AskInAll (codes "#! ends all fair") (Err (F.Unexpected I.Condition (span 12 16)))
    × AskInAll (codes "#! ends none 0") (Err (F.Unexpected I.Condition (span 13 14)))
    × AskInAll (codes "#! ends 0 free") (Err (F.Unexpected I.Process (span 10 14)))
    × AskInAll (codes "#! ends 0 0 0 0 0 0 free") (Err (F.Unexpected I.Condition (span 20 24)))
    × AskInAll (codes "#! ends wait_free") (Err (F.Unexpected I.Process (span 8 17)))
    × AskInAll (codes "#! ends all alone wait_free") (Err (F.Unexpected I.LineEnd (span 18 27)))
    × AskInAll (codes "#! ends 0 alone 1") (Err (F.Unexpected I.LineEnd (span 16 17)))
unfolding questions_in with_comment missed_from with_directive with_never with_ends ends_from conditioned_at each_from listed_from listed_with ended_at token_at token_from sign_piece short_piece spelled
other_conditions = (refl, refl, refl, refl, refl, refl, refl)

of_the_file :
    AskInAll (codes "#! expect stuck # so") (Ok (expects X.Stuck))
    × AskInAll (codes "#! expect not_wait_free") (Ok (expects X.NotWaitFree))
    × AskInAll (codes "#! expect not_alone") (Ok (expects X.NotAlone))
    × AskInAll (codes "#! expect") (Err (F.NotExpected (span 9 9)))
    × AskInAll (codes "#! expect safe trap") (Err (F.Unexpected I.LineEnd (span 15 19)))
    × AskInAll (codes "#!expect safe" ++ 10 ∷ codes "#!expect safe") (Err (F.ExpectTwice (span 16 22)))
unfolding questions_in with_comment missed_from with_directive with_expected expected_from ended_at token_at token_from sign_piece short_piece spelled
of_the_file = (refl, refl, refl, refl, refl, refl)

faults :
    AskInAll (codes "#! nevr n") (Err (F.NoSuchWord (span 3 7)))
    × AskInAll (codes "#!") (Err (F.NoSuchWord (span 2 2)))
    × AskInAll (codes "#! ends") (Err (F.Unexpected I.Process (span 7 7)))
    × AskInAll (codes "#! ends 3") (Err (F.NoSuchProcess (span 8 9)))
    × AskInAll (codes "#! ends none" ++ 10 ∷ codes "#! ends 1") (Err (F.EndsTwice (span 16 20)))
    × AskInAll (codes "#! ends 1 alone" ++ 10 ∷ codes "#! ends all alone") (Err (F.EndsTwice (span 19 23)))
    × AskInAll (codes "#! ends none" ++ 10 ∷ codes "#! ends 3") (Err (F.NoSuchProcess (span 21 22)))
unfolding questions_in with_comment missed_from with_directive with_never with_ends ends_from conditioned_at each_from listed_from listed_with ended_at token_at token_from sign_piece short_piece spelled
faults = (refl, refl, refl, refl, refl, refl, refl)

-- prose asks nothing, and what looks as if it asked something is refused
comments :
    AskInAll (codes "end # never are both" ++ 10 ∷ codes "# r[0]! never_said # neverland") (Ok no_questions)
    × AskInAll (codes "end # see #! never n") (Err (F.NotAsked (span 13 18)))
    × AskInAll (codes "##! never n") (Err (F.NotAsked (span 4 9)))
    × AskInAll (codes "#! ends all # ! ends") (Err (F.NotAsked (span 16 20)))
    × AskInAll (codes "end # " ++ 13 ∷ codes "#! expect safe") (Err (F.NotAsked (span 10 16)))
unfolding questions_in with_comment missed_from with_directive with_never with_ends ends_from conditioned_at each_from listed_from listed_with ended_at token_at token_from sign_piece short_piece spelled
comments = (refl, refl, refl, refl, refl)
