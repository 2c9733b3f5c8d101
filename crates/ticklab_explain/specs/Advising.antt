-- Which hint is told of a fault in a question: that of the first row with the letters at its place, of the table for the
-- fault and for what is missing; else one for all others.
use Rattle.std.specs.Prelude.{ℕ, List, [], ◌∷◌, if◌then◌else◌}
use Rattle.language_questions.specs.declared.fault.Missing.{Missing}
use Rattle.language_questions.specs.declared.fault.Missing.TheVariants as I
use Rattle.language_questions.specs.declared.fault.QuestionFault.{QuestionFault}
use Rattle.language_questions.specs.declared.fault.QuestionFault.TheVariants as F
use Rattle.language_questions.specs.declared.token.Sign.{Sign}
use Rattle.language_questions.specs.declared.token.Sign.TheVariants as S
use Rattle.ticklab_explain.specs.Pieces.{is_one_of}
use Rattle.ticklab_explain.specs.Rows.{Slip, slips_in}
use Rattle.ticklab_explain.specs.declared.advice.TheConstants.{COUNTED_FROM_ZERO}
use Rattle.ticklab_explain.specs.declared.advising.TheConstants.{BEGIN_OF_ASKING, GREATEST_NUMBER, MOST_LEVELS, ONE_IS_EXPECTED, ONE_LINE_NAMES_ALL, RENAME_THE_ROW, TAKE_ANOTHER_NAME, WORDS_OF_EXPECT, WRITE_INTO_A_ROW}
use Rattle.ticklab_explain.specs.declared.question_slips.TheConstants.{BEGINNINGS, CHARACTERS, CLOSINGS, CLOSING_STANDS_HERE, COLONS, COLON_STANDS_HERE, COMMAS, COMMA_STANDS_HERE, CONDITIONS, CONDITION_STANDS_HERE, ENDS, END_STANDS_HERE, EXPECTATIONS, INDEXES, INDEX_ENDS, INDEX_END_STANDS_HERE, INDEX_STANDS_HERE, LINE_ENDS, LINE_ENDS_HERE, NAMES, NAME_STANDS_HERE, OPERANDS, OPERAND_STANDS_HERE, PARTS_OF_QUESTIONS, PROCESSES, PROCESS_STANDS_HERE, STRANGERS, WHAT_IS_SEEN, WORDS_OF_QUESTIONS}

-- rows, and the hint where none of them has the letters
abbrev pub Advice : Type 0
Advice = List Slip × List ℕ

-- where a sign is missing
abbrev pub sign_advice : Sign → Advice
sign_advice S.Close = (slips_in CLOSINGS.now, CLOSING_STANDS_HERE.now)
sign_advice S.OpenIndex = (slips_in INDEXES.now, INDEX_STANDS_HERE.now)
sign_advice S.CloseIndex = (slips_in INDEX_ENDS.now, INDEX_END_STANDS_HERE.now)
sign_advice S.Comma = (slips_in COMMAS.now, COMMA_STANDS_HERE.now)
sign_advice S.Colon = (slips_in COLONS.now, COLON_STANDS_HERE.now)
sign_advice _ = ([], PARTS_OF_QUESTIONS.now)

-- where this is missing
abbrev pub missing_advice : Missing → Advice
missing_advice I.Operand = (slips_in OPERANDS.now, OPERAND_STANDS_HERE.now)
missing_advice I.Name = (slips_in NAMES.now, NAME_STANDS_HERE.now)
missing_advice (I.Sign sign) = sign_advice sign
missing_advice I.End = (slips_in ENDS.now, END_STANDS_HERE.now)
missing_advice I.Process = (slips_in PROCESSES.now, PROCESS_STANDS_HERE.now)
missing_advice I.LineEnd = (slips_in LINE_ENDS.now, LINE_ENDS_HERE.now)
missing_advice I.Condition = (slips_in CONDITIONS.now, CONDITION_STANDS_HERE.now)

abbrev pub advice_of : QuestionFault → Advice
advice_of (F.BadCharacter span) = (slips_in CHARACTERS.now, PARTS_OF_QUESTIONS.now)
advice_of (F.NumberTooBig span) = ([], GREATEST_NUMBER.now)
advice_of (F.Unexpected missing span) = missing_advice missing
advice_of (F.TooDeep span) = ([], MOST_LEVELS.now)
advice_of (F.Unknown span) = (slips_in STRANGERS.now, WHAT_IS_SEEN.now)
advice_of (F.NotShared span) = ([], WRITE_INTO_A_ROW.now)
advice_of (F.Twice span) = ([], TAKE_ANOTHER_NAME.now)
advice_of (F.TwoMeanings span) = ([], RENAME_THE_ROW.now)
advice_of (F.NoSuchProcess span) = ([], COUNTED_FROM_ZERO.now)
advice_of (F.NoSuchWord span) = (slips_in BEGINNINGS.now, WORDS_OF_QUESTIONS.now)
advice_of (F.NotAsked span) = ([], BEGIN_OF_ASKING.now)
advice_of (F.EndsTwice span) = ([], ONE_LINE_NAMES_ALL.now)
advice_of (F.NotExpected span) = (slips_in EXPECTATIONS.now, WORDS_OF_EXPECT.now)
advice_of (F.ExpectTwice span) = ([], ONE_IS_EXPECTED.now)
advice_of F.NoMemory = ([], [])

-- of rows, the hint of the first that has the letters; else another
abbrev pub first_hint : List Slip → List ℕ → List ℕ → List ℕ
first_hint [] letters other = other
first_hint (slip ∷ slips) letters other = if is_one_of letters slip.0 then slip.1 else first_hint slips letters other

-- what may help, where these letters stand at the place of a fault
abbrev pub hint_for : QuestionFault → List ℕ → List ℕ
hint_for fault letters = first_hint (advice_of fault).0 letters (advice_of fault).1
