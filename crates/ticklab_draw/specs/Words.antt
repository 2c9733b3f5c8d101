-- What marks show, in words.
use Rattle.std.specs.Prelude.{ℕ, ◌+◌, ◌==◌, if◌then◌else◌, List, ◌++◌, codes, length, map, take, slice_get, string_bytes, Option, Some, None}
use Rattle.std.specs.Fmt.{decimal}
use Rattle.std.specs.List.{flat_map}
use Rattle.base.specs.Lines.{spaced}
use Rattle.base.specs.declared.event.Act.{Act}
use Rattle.base.specs.declared.event.Act.TheVariants as A
use Rattle.base.specs.declared.tree.Named.{Named}
use Rattle.ticklab_draw.specs.declared.mark.Mark.{Mark}
use Rattle.ticklab_draw.specs.declared.mark.Sight.{Sight}
use Rattle.ticklab_draw.specs.declared.mark.Sight.TheVariants as S
use Rattle.ticklab_draw.specs.declared.mark.Holdings.{Holdings}
use Rattle.ticklab_draw.specs.declared.mark.Holdings.TheVariants as H
use Rattle.ticklab_draw.specs.declared.words.TheConstants.{ASKS_WHETHER, AS_AT_THE_START, BECOMES, CLEARS, ENDS, GETS, GIVES_OUT, HAS_VALUE, HOLDS_A_TICKET, IS_OLDER_THAN, LABELS, LOSES_AN_EXCHANGE, NO, PROCESS, PUTS, PUT_BY_MARK, SCANS, STAMPS, STEP, TICKETS, TRAPS, YES}
use Rattle.ticklab_draw.specs.Escapes.{escaped}
use Rattle.tick_play.specs.Lines.{trap_text}

abbrev pub names : List Named → List (List ℕ)
names registers = map (λ x. string_bytes x.name) registers

-- a row that has a name, or `r` and its number
abbrev pub row_as : ℕ → Option (List ℕ) → List ℕ
row_as row None = codes "r" ++ decimal row
row_as row (Some name) = escaped name

abbrev pub row_text : List (List ℕ) → ℕ → List ℕ
row_text rows row = row_as row (slice_get rows row)

-- a row and the value that is put into its register, and a register and the value that is read
abbrev pub written_text : List (List ℕ) → ℕ → ℕ → List ℕ
written_text rows row value = row_text rows row ++ BECOMES.now ++ decimal value

abbrev pub read_text : List (List ℕ) → ℕ → ℕ → ℕ → List ℕ
read_text rows row index value = row_text rows row ++ codes "[" ++ decimal index ++ HAS_VALUE.now ++ decimal value

abbrev pub answer_text : ℕ → List ℕ
answer_text answer = if answer == 0 then NO.now else YES.now

-- the digits of a label, a dash where it has none, and a dot for an absent process
abbrev pub label_text : Option (List ℕ) → List ℕ
label_text None = codes "."
label_text (Some label) = if length label == 0 then codes "-" else flat_map decimal label

-- what `n` processes hold
abbrev pub held_text : ℕ → Holdings → List ℕ
held_text n (H.Tickets tickets) = TICKETS.now ++ spaced (map decimal (take n tickets))
held_text n (H.Labels labels) = LABELS.now ++ spaced (map label_text labels)

abbrev pub origin_text : Option ℕ → List ℕ
origin_text None = AS_AT_THE_START.now
origin_text (Some at) = PUT_BY_MARK.now ++ decimal (at + 1)

-- what a process of `n` did, where rows have these names
abbrev pub act_text : ℕ → List (List ℕ) → Act → List ℕ
act_text n rows (A.Put r v) = PUTS.now ++ written_text rows r v
act_text n rows (A.Get r i v) = GETS.now ++ read_text rows r i v
act_text n rows A.Stamp = STAMPS.now
act_text n rows A.Clear = CLEARS.now
act_text n rows (A.Scan ranks) = SCANS.now ++ spaced (map decimal (take n ranks))
act_text n rows (A.Older i j answer) = ASKS_WHETHER.now ++ decimal i ++ IS_OLDER_THAN.now ++ decimal j ++ codes ": " ++ answer_text answer
act_text n rows (A.Held i answer) = ASKS_WHETHER.now ++ decimal i ++ HOLDS_A_TICKET.now ++ answer_text answer
act_text n rows (A.Out v) = GIVES_OUT.now ++ decimal v
act_text n rows (A.Trap t) = TRAPS.now ++ trap_text t
act_text n rows A.End = ENDS.now

abbrev pub sight_text : ℕ → List (List ℕ) → Sight → List ℕ
sight_text n rows (S.Act act) = act_text n rows act
sight_text n rows (S.Get r i v put) = GETS.now ++ read_text rows r i v ++ origin_text put
sight_text n rows (S.Stamp held) = STAMPS.now ++ codes ": " ++ held_text n held
sight_text n rows (S.Clear held) = CLEARS.now ++ codes ": " ++ held_text n held
sight_text n rows (S.Lost held) = LOSES_AN_EXCHANGE.now ++ codes ": " ++ held_text n held

unfoldable pub sentence : ℕ → List (List ℕ) → Mark → List ℕ
sentence n rows m = STEP.now ++ decimal m.step ++ PROCESS.now ++ decimal m.process ++ codes " " ++ sight_text n rows m.sight
