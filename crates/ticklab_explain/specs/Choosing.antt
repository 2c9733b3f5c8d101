-- Which hint is told: that of the first row that fits, of the table for the refusal.
use Rattle.std.specs.Prelude.{◌==◌, List, [], Option, if◌then◌else◌}
use Rattle.std.specs.Option.{option_or}
use Rattle.code_core.specs.declared.fault.CodeFault.{CodeFault}
use Rattle.code_core.specs.declared.fault.CodeFault.TheVariants as C
use Rattle.tick_kinds.specs.declared.fault.KindFault.{KindFault}
use Rattle.tick_kinds.specs.declared.fault.KindFault.TheVariants as N
use Rattle.tick_kinds.specs.declared.kind.Kind.{Kind}
use Rattle.tick_kinds.specs.declared.kind.Kind.TheVariants as K
use Rattle.language_schedules.specs.declared.schedule.ScheduleFault.{ScheduleFault}
use Rattle.language_schedules.specs.declared.schedule.ScheduleFault.TheVariants as S
use Rattle.tick_syntax.specs.declared.fault.TextFault.{TextFault}
use Rattle.tick_syntax.specs.declared.fault.TextFault.TheVariants as T
use Rattle.ticklab_explain.specs.Conditions.{first_fitting}
use Rattle.ticklab_explain.specs.Rows.{Help, Row, table}
use Rattle.ticklab_explain.specs.Settings.{Setting}
use Rattle.ticklab_explain.specs.declared.character_slips.TheConstants.{CHARACTER_SLIPS}
use Rattle.ticklab_explain.specs.declared.item_slips.TheConstants.{ITEM_SLIPS}
use Rattle.ticklab_explain.specs.declared.limits.TheConstants.{BAD_FIRST_LINE, BAD_LINE, NAME_TOO_LONG, NO_SUCH_PROCESS, NUMBER_TOO_BIG, PROCESSES, SCHEDULE_TOO_LONG, TOO_DEEP, TOO_MANY_NAMES}
use Rattle.ticklab_explain.specs.declared.name_slips.TheConstants.{ANY_FOR_SCAN, OTHER_FOR_REGISTER, REGISTER_FOR_VARIABLE, SCAN_FOR_VARIABLE, TWICE, UNKNOWN, VARIABLE_FOR_REGISTER, VARIABLE_FOR_VARIABLE}
use Rattle.ticklab_explain.specs.declared.token_slips.TheConstants.{CALL_SLIPS, SECTION_SLIPS, SIGN_SLIPS, STATEMENT_SLIPS, WHOLE_SLIPS}
use Rattle.ticklab_explain.specs.declared.wanted.Wanted.{Wanted}
use Rattle.ticketc_refusals.specs.declared.refusal.Refusal.{Refusal}
use Rattle.ticketc_refusals.specs.declared.refusal.Refusal.TheVariants.{Text, Kinds, Code, Schedule}

-- The tables of many rows. Nothing opens them but what shows that code reads them.
unfoldable pub whole_slips : List Row
whole_slips = table WHOLE_SLIPS.now

unfoldable pub call_slips : List Row
call_slips = table CALL_SLIPS.now

unfoldable pub section_slips : List Row
section_slips = table SECTION_SLIPS.now

unfoldable pub sign_slips : List Row
sign_slips = table SIGN_SLIPS.now

unfoldable pub statement_slips : List Row
statement_slips = table STATEMENT_SLIPS.now

unfoldable pub character_slips : List Row
character_slips = table CHARACTER_SLIPS.now

unfoldable pub item_slips : List Row
item_slips = table ITEM_SLIPS.now

-- where no program goes on
unfoldable pub token_hint : Setting → List Wanted → Option Help
token_hint s wanted =
    option_or (first_fitting s wanted whole_slips) (option_or (first_fitting s wanted call_slips)
    (option_or (first_fitting s wanted section_slips) (option_or (first_fitting s wanted sign_slips)
    (first_fitting s wanted statement_slips))))

abbrev pub text_rules : TextFault → List Row
text_rules (T.BadCharacter place) = character_slips
text_rules (T.NumberTooBig span) = table NUMBER_TOO_BIG.now
text_rules (T.NameTooLong span) = table NAME_TOO_LONG.now
text_rules (T.TooDeep span) = table TOO_DEEP.now
text_rules _ = []

abbrev pub text_hint : Setting → List Wanted → TextFault → Option Help
text_hint s wanted (T.Unexpected span) = token_hint s wanted
text_hint s wanted fault = first_fitting s wanted (text_rules fault)

-- where the first kind is wanted, and the second found
abbrev pub kind_rules : Kind → Kind → List Row
kind_rules K.Variable K.Register = table REGISTER_FOR_VARIABLE.now
kind_rules K.Variable K.Variable = table VARIABLE_FOR_VARIABLE.now
kind_rules K.Variable K.Scan = table SCAN_FOR_VARIABLE.now
kind_rules K.Scan found = table ANY_FOR_SCAN.now
kind_rules K.Register K.Variable = table VARIABLE_FOR_REGISTER.now
kind_rules K.Register K.Scan = table OTHER_FOR_REGISTER.now
kind_rules K.Register K.Register = table OTHER_FOR_REGISTER.now

abbrev pub kinds_rules : KindFault → List Row
kinds_rules (N.Processes span) = table PROCESSES.now
kinds_rules (N.Twice span) = table TWICE.now
kinds_rules (N.Unknown span) = table UNKNOWN.now
kinds_rules (N.WrongKind span wanted found) = kind_rules wanted found
kinds_rules (N.TooMany span) = table TOO_MANY_NAMES.now
kinds_rules N.NoMemory = []

abbrev pub code_rules : CodeFault → List Row
code_rules (C.BadLine line) = if line == 1 then table BAD_FIRST_LINE.now else table BAD_LINE.now
code_rules _ = []

abbrev pub schedule_rules : ScheduleFault → List Row
schedule_rules (S.BadItem place) = item_slips
schedule_rules (S.NoSuchProcess place) = table NO_SUCH_PROCESS.now
schedule_rules S.TooLong = table SCHEDULE_TOO_LONG.now
schedule_rules S.NoMemory = []

abbrev pub hint_of : Setting → List Wanted → Refusal → Option Help
hint_of s wanted (Text fault) = text_hint s wanted fault
hint_of s wanted (Kinds fault) = first_fitting s wanted (kinds_rules fault)
hint_of s wanted (Code fault) = first_fitting s wanted (code_rules fault)
hint_of s wanted (Schedule fault) = first_fitting s wanted (schedule_rules fault)
