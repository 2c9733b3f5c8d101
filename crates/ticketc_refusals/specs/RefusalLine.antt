-- The line in which `ticketc` tells a refusal: its number, its name and its fields.
use Rattle.std.specs.Prelude.{ℕ, List, [], ◌++◌, codes}
use Rattle.std.specs.Fmt.{decimal}
use Rattle.base.specs.Lines.{line_end}
use Rattle.code_core.specs.declared.fault.CodeFault.{CodeFault}
use Rattle.code_core.specs.declared.fault.CodeFault.TheVariants as C
use Rattle.tick_kinds.specs.declared.fault.KindFault.{KindFault}
use Rattle.tick_kinds.specs.declared.fault.KindFault.TheVariants as N
use Rattle.tick_kinds.specs.declared.kind.Kind.{Kind}
use Rattle.tick_kinds.specs.declared.kind.Kind.TheVariants as K
use Rattle.language_schedules.specs.declared.schedule.ScheduleFault.{ScheduleFault}
use Rattle.language_schedules.specs.declared.schedule.ScheduleFault.TheVariants as S
use Rattle.tick_syntax.specs.declared.fault.TextFault.{TextFault}
use Rattle.tick_syntax.specs.declared.fault.TextFault.TheVariants as T
use Rattle.base.specs.declared.span.Span.{Span}
use Rattle.ticketc_refusals.specs.declared.refusal.Refusal.{Refusal}
use Rattle.ticketc_refusals.specs.declared.refusal.Refusal.TheVariants.{Text, Kinds, Code, Schedule}

-- the number and the name, and a field after it
abbrev pub with_number : List ℕ → ℕ → List ℕ
with_number name field = name ++ codes " " ++ decimal field

abbrev pub with_span : List ℕ → Span → List ℕ
with_span name span = with_number (with_number name span.start) span.end

abbrev pub kind_name : Kind → List ℕ
kind_name K.Variable = codes "Variable"
kind_name K.Scan = codes "Scan"
kind_name K.Register = codes "Register"

abbrev pub text_line : TextFault → List ℕ
text_line T.TextTooLong = codes "1 TextTooLong"
text_line (T.BadCharacter place) = with_number (codes "2 BadCharacter") place
text_line (T.NumberTooBig span) = with_span (codes "3 NumberTooBig") span
text_line (T.NameTooLong span) = with_span (codes "4 NameTooLong") span
text_line (T.Unexpected span) = with_span (codes "5 Unexpected") span
text_line (T.TooDeep span) = with_span (codes "6 TooDeep") span
text_line T.NoMemory = []

abbrev pub kinds_line : KindFault → List ℕ
kinds_line (N.Processes span) = with_span (codes "11 Processes") span
kinds_line (N.Twice span) = with_span (codes "12 Twice") span
kinds_line (N.Unknown span) = with_span (codes "13 Unknown") span
kinds_line (N.WrongKind span wanted found) =
    with_span (codes "14 WrongKind") span ++ codes " " ++ kind_name wanted ++ codes " " ++ kind_name found
kinds_line (N.TooMany span) = with_span (codes "15 TooMany") span
kinds_line N.NoMemory = []

abbrev pub code_line : CodeFault → List ℕ
code_line C.Empty = codes "21 Empty"
code_line (C.BadJump place) = with_number (codes "22 BadJump") place
code_line (C.StackShort place) = with_number (codes "23 StackShort") place
code_line (C.HeightsDiffer place) = with_number (codes "24 HeightsDiffer") place
code_line (C.BadSlot place) = with_number (codes "25 BadSlot") place
code_line (C.FallsOff place) = with_number (codes "26 FallsOff") place
code_line C.TooLong = codes "27 TooLong"
code_line (C.BadLine line) = with_number (codes "29 BadLine") line
code_line (C.BadStamp place) = with_number (codes "30 BadStamp") place
code_line C.NoMemory = []

abbrev pub schedule_line : ScheduleFault → List ℕ
schedule_line (S.BadItem place) = with_number (codes "51 BadItem") place
schedule_line (S.NoSuchProcess place) = with_number (codes "52 NoSuchProcess") place
schedule_line S.TooLong = codes "53 TooLong"
schedule_line S.NoMemory = []

abbrev pub number_and_name : Refusal → List ℕ
number_and_name (Text fault) = text_line fault
number_and_name (Kinds fault) = kinds_line fault
number_and_name (Code fault) = code_line fault
number_and_name (Schedule fault) = schedule_line fault

-- the whole line
abbrev pub refusal_line : Refusal → List ℕ
refusal_line refusal = codes "refused " ++ number_and_name refusal ++ line_end
