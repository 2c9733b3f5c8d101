-- What may stand next in a program.
use Rattle.std.specs.Prelude.{◌≡◌, ◌⊎◌, ℕ, ◌+◌, ◌==◌, Bool, true, false, List, [], ◌∷◌, ◌++◌, codes, length, map, Option, Some, None, if◌then◌else◌}
use Rattle.std.specs.Str.{IsUtf8}
use Rattle.base.specs.Plain.{Name, WholeProgram}
use Rattle.base.specs.declared.span.Span.{Span}
use Rattle.tick_syntax.specs.Decided.{IsWithinLimits}
use Rattle.tick_syntax.specs.Refusal.{IsTextRefused}
use Rattle.tick_syntax.specs.Terminals.{spelling}
use Rattle.tick_syntax.specs.declared.fault.TextFault.{TextFault}
use Rattle.tick_syntax.specs.declared.fault.TextFault.TheVariants.{Unexpected}
use Rattle.tick_syntax.specs.declared.token.Sort.{Sort}
use Rattle.tick_syntax.specs.declared.token.Sort.TheVariants as K
use Rattle.ticklab_explain.specs.Pieces.{is_one_of, joined}
use Rattle.ticklab_explain.specs.Settings.{Setting, here, sort_here}
use Rattle.ticklab_explain.specs.declared.expectation.TheConstants.{EXPECTED, FOUND, NO_PROGRAM_GOES_ON, OR, THE_KEYWORD, THE_NAME, THE_NUMBER}
use Rattle.ticklab_explain.specs.declared.wanted.TheConstants.{AFTER_OPERAND, AN_EXPRESSION, AN_OPERATOR, A_NAME, A_NUMBER, A_STATEMENT, A_VALUE, CHOICES, END_OF_TEXT}
use Rattle.ticklab_explain.specs.declared.wanted.Wanted.{Wanted}
use Rattle.ticklab_explain.specs.declared.wanted.Wanted.TheVariants.{Statement, Value, Expression, Operator, Name as AName, Number, TextEnd, Word}

-- the fact holds where the test passes, and nowhere else
abbrev pub Tests : Type 0 → Bool → Type 0
Tests fact true = fact
Tests fact false = fact → ⊥

-- a whole program within the limits
abbrev pub IsWhole : List ℕ → Type 0
IsWhole text = (p : WholeProgram Name) × IsWithinLimits text p

-- what stands here is no program yet, but one goes on from its end
abbrev pub IsBegun : List ℕ → Type 0
IsBegun text = (span : Span) × IsTextRefused text (Unexpected span) × (span.start ≡ length text)

abbrev pub BeginsProgram : List ℕ → Type 0
BeginsProgram text = IsWhole text ⊎ IsBegun text

-- of a text's fault: no program goes on from the text's end
abbrev pub is_at_end : TextFault → ℕ → Bool
is_at_end (Unexpected span) length = span.start == length
is_at_end _ length = false

-- a token of what is wanted, where it is of a kind the first of them that comes to mind; and how it is told
abbrev pub words : Wanted → List ℕ × List ℕ
words Statement = (codes "stamp", A_STATEMENT.now)
words Value = (codes "get", A_VALUE.now)
words Expression = (codes "me", AN_EXPRESSION.now)
words Operator = (codes "+", AN_OPERATOR.now)
words AName = (codes "x", A_NAME.now)
words Number = (codes "0", A_NUMBER.now)
words TextEnd = ([], END_OF_TEXT.now)
words (Word terminal) = (spelling terminal, joined (codes "`" ∷ spelling terminal ∷ codes "`" ∷ []))

abbrev pub sample : Wanted → List ℕ
sample one = (words one).0

abbrev pub told : Wanted → List ℕ
told one = (words one).1

-- after this text, which is UTF-8, the token may stand on a new line
abbrev pub MayFollow : List ℕ → Wanted → Type 0
MayFollow front one = IsUtf8 front × BeginsProgram (front ++ (10 ∷ []) ++ sample one)

-- it may stand after this text: a token there, and the end where the text is whole
abbrev pub Fits : List ℕ → Wanted → Type 0
Fits front TextEnd = IsUtf8 front × IsWhole front
Fits front one = MayFollow front one

-- of these, in their order, those that fit are all of the wanted
abbrev pub AreFitting : List ℕ → List Wanted → List Wanted → Type 0
AreFitting front [] wanted = wanted ≡ []
AreFitting front (one ∷ more) wanted =
    ((rest : List Wanted) × Fits front one × AreFitting front more rest × (wanted ≡ one ∷ rest))
    ⊎ ((Fits front one → ⊥) × AreFitting front more wanted)

-- of rows, which are words and what may be wanted after them, that of the first that has the word; else others
abbrev pub choices_in : List (List (List ℕ) × List Wanted) → List ℕ → List Wanted → List Wanted
choices_in [] word other = other
choices_in (row ∷ rows) word other = if is_one_of word row.0 then row.1 else choices_in rows word other

-- What a place may want by the word before it, of which the parser says what fits.
unfoldable pub choices : List ℕ → List Wanted
choices word = choices_in (map (λ row. (map (λ one. one.now) row.0.now, row.1.now)) CHOICES.now) word AFTER_OPERAND.now

-- what stands before the word at this index of so many
abbrev pub joint : ℕ → ℕ → List ℕ
joint index count = if index == 0 then [] else if index + 1 == count then OR.now else codes ", "

abbrev pub listed : ℕ → ℕ → List Wanted → List ℕ
listed index count [] = []
listed index count (one ∷ more) = joint index count ++ told one ++ listed (index + 1) count more

abbrev pub opening : List Wanted → List ℕ
opening [] = NO_PROGRAM_GOES_ON.now
opening (one ∷ more) = EXPECTED.now

-- the token that was found, and of which sort it is
abbrev pub found : Option Sort → List ℕ → List ℕ
found None word = END_OF_TEXT.now
found (Some K.Name) word = joined (THE_NAME.now ∷ word ∷ codes "`" ∷ [])
found (Some (K.Num value)) word = joined (THE_NUMBER.now ∷ word ∷ codes "`" ∷ [])
found (Some K.Keyword) word = joined (THE_KEYWORD.now ∷ word ∷ codes "`" ∷ [])
found (Some K.Sign) word = joined (codes "`" ∷ word ∷ codes "`" ∷ [])

-- what is told where no program goes on
unfoldable pub expectation : Setting → List Wanted → List ℕ
expectation s wanted =
    opening wanted ++ listed 0 (length wanted) wanted ++ FOUND.now ++ found (sort_here s) (here s)
