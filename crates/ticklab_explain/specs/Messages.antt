-- What is wrong, in words: one message for each refusal.
use Rattle.std.specs.Prelude.{ℕ, ◌-◌, ◌==◌, List, [], ◌∷◌, codes, length, if◌then◌else◌}
use Rattle.std.specs.Fmt.{decimal}
use Rattle.std.specs.Str.{is_utf8}
use Rattle.code_core.specs.declared.fault.CodeFault.{CodeFault}
use Rattle.code_core.specs.declared.fault.CodeFault.TheVariants as C
use Rattle.tick_kinds.specs.declared.fault.KindFault.{KindFault}
use Rattle.tick_kinds.specs.declared.fault.KindFault.TheVariants as N
use Rattle.tick_kinds.specs.declared.kind.Kind.{Kind}
use Rattle.tick_kinds.specs.declared.kind.Kind.TheVariants as K
use Rattle.language_schedules.specs.declared.schedule.ScheduleFault.{ScheduleFault}
use Rattle.language_schedules.specs.declared.schedule.ScheduleFault.TheVariants as S
use Rattle.tick_syntax.specs.declared.fault.TextFault.{TextFault}
use Rattle.tick_syntax.specs.declared.fault.TextFault.TheVariants as T
use Rattle.ticklab_explain.specs.Following.{expectation}
use Rattle.ticklab_explain.specs.Pieces.{joined}
use Rattle.ticklab_explain.specs.Settings.{Setting, about, shortened}
use Rattle.ticketc_refusals.specs.declared.refusal.Refusal.{Refusal}
use Rattle.ticketc_refusals.specs.declared.refusal.Refusal.TheVariants.{Text, Kinds, Code, Schedule}
use Rattle.ticklab_explain.specs.declared.items.Items.{Items}
use Rattle.ticklab_explain.specs.declared.messages.TheConstants.{AND_A, BRACKET_TOO_DEEP, BREAKS_A_STAMP, BYTES, CODE_EMPTY, CODE_TOO_LONG, DECLARED_TWICE, EXPECTED_MOVES, EXPECTED_STEPS, GOES_ON_PAST, INPUT_HAS, INSTRUCTION, IS_A, IS_WANTED, ITS_LAST, JUMPS_PAST_THE_END, MOST_BYTES, NAME_HAS, NOT_DECLARED, NO_FIRST_LINE, NO_LINE, NO_PROCESS_AS_IN, NO_SUCH_SLOT, NO_TOKEN_BEGINS, NO_UTF8, NUMBER_TOO_GREAT, ONE_NAME_MORE, OTHER_HEIGHT, PROCESSES_OUT_OF_RANGE, REGISTER, SCAN, SCHEDULE_TOO_LONG, TAKES_TOO_MANY, TOO_MANY_MOVES, VARIABLE}
use Rattle.ticklab_explain.specs.declared.wanted.Wanted.{Wanted}

-- the character at fault is quoted where the text is UTF-8
unfoldable pub character_message : Setting → List ℕ
character_message s = if is_utf8 s.text then joined (NO_TOKEN_BEGINS.now ∷ about s ∷ codes "`" ∷ []) else NO_UTF8.now

abbrev pub text_message : Setting → List Wanted → TextFault → List ℕ
text_message s wanted T.TextTooLong = joined (INPUT_HAS.now ∷ decimal (length s.text) ∷ MOST_BYTES.now ∷ [])
text_message s wanted (T.BadCharacter place) = character_message s
text_message s wanted (T.NumberTooBig span) = NUMBER_TOO_GREAT.now
text_message s wanted (T.NameTooLong span) = joined (NAME_HAS.now ∷ decimal (span.end - span.start) ∷ BYTES.now ∷ [])
text_message s wanted (T.Unexpected span) = expectation s wanted
text_message s wanted (T.TooDeep span) = BRACKET_TOO_DEEP.now
text_message s wanted T.NoMemory = []

unfoldable pub kind_word : Kind → List ℕ
kind_word K.Variable = VARIABLE.now
kind_word K.Scan = SCAN.now
kind_word K.Register = REGISTER.now

-- a name of one kind where another is wanted
abbrev pub wrong_kind : List ℕ → Kind → Kind → List ℕ
wrong_kind name wanted found =
    joined (codes "`" ∷ name ∷ IS_A.now ∷ kind_word found ∷ AND_A.now ∷ kind_word wanted ∷ IS_WANTED.now ∷ [])

abbrev pub kinds_message : Setting → KindFault → List ℕ
kinds_message s (N.Processes span) = PROCESSES_OUT_OF_RANGE.now
kinds_message s (N.Twice span) = joined (codes "`" ∷ about s ∷ DECLARED_TWICE.now ∷ [])
kinds_message s (N.Unknown span) = joined (codes "`" ∷ about s ∷ NOT_DECLARED.now ∷ [])
kinds_message s (N.WrongKind span wanted found) = wrong_kind (about s) wanted found
kinds_message s (N.TooMany span) = ONE_NAME_MORE.now
kinds_message s N.NoMemory = []

-- an instruction by its place, which is counted from 0
abbrev pub instruction : ℕ → List ℕ → List ℕ
instruction place fault = joined (INSTRUCTION.now ∷ decimal place ∷ fault ∷ [])

abbrev pub code_message : CodeFault → List ℕ
code_message C.Empty = CODE_EMPTY.now
code_message C.TooLong = CODE_TOO_LONG.now
code_message (C.BadJump place) = instruction place JUMPS_PAST_THE_END.now
code_message (C.StackShort place) = instruction place TAKES_TOO_MANY.now
code_message (C.HeightsDiffer place) = instruction place OTHER_HEIGHT.now
code_message (C.BadSlot place) = instruction place NO_SUCH_SLOT.now
code_message (C.FallsOff place) = joined (GOES_ON_PAST.now ∷ decimal place ∷ ITS_LAST.now ∷ [])
code_message (C.BadStamp place) = instruction place BREAKS_A_STAMP.now
code_message (C.BadLine line) = if line == 1 then NO_FIRST_LINE.now else NO_LINE.now
code_message C.NoMemory = []

-- where an item of a schedule, or of stamps and clears, is none
abbrev pub item_message : Items → List ℕ → List ℕ
item_message items item =
    if items.clears then joined (EXPECTED_MOVES.now ∷ item ∷ codes "`" ∷ []) else joined (EXPECTED_STEPS.now ∷ item ∷ codes "`" ∷ [])

abbrev pub too_long : Items → List ℕ
too_long items = if items.clears then TOO_MANY_MOVES.now else SCHEDULE_TOO_LONG.now

abbrev pub schedule_message : Setting → ScheduleFault → List ℕ
schedule_message s (S.BadItem place) = item_message s.items (shortened (about s))
schedule_message s (S.NoSuchProcess place) = joined (NO_PROCESS_AS_IN.now ∷ shortened (about s) ∷ codes "`" ∷ [])
schedule_message s S.TooLong = too_long s.items
schedule_message s S.NoMemory = []

abbrev pub message_of : Setting → List Wanted → Refusal → List ℕ
message_of s wanted (Text fault) = text_message s wanted fault
message_of s wanted (Kinds fault) = kinds_message s fault
message_of s wanted (Code fault) = code_message fault
message_of s wanted (Schedule fault) = schedule_message s fault
