-- What is drawn where a mark stands: its shape, which its act decides, and the words beside it.
use Rattle.std.specs.Prelude.{ℕ, ◌==◌, ◌*◌, nat_lt, if◌then◌else◌, List, [], ◌++◌, codes, length, map, take, slice_index}
use Rattle.std.specs.Fmt.{decimal}
use Rattle.base.specs.Lines.{spaced}
use Rattle.word_core.specs.Stamps.{Labels, label_at}
use Rattle.base.specs.declared.event.Act.{Act}
use Rattle.base.specs.declared.event.Act.TheVariants as A
use Rattle.ticklab_draw.specs.declared.beside.TheConstants.{HELD, OLDER_THAN}
use Rattle.ticklab_draw.specs.declared.mark.Mark.{Mark}
use Rattle.ticklab_draw.specs.declared.mark.Sight.{Sight}
use Rattle.ticklab_draw.specs.declared.mark.Sight.TheVariants as S
use Rattle.ticklab_draw.specs.declared.mark.Holdings.{Holdings}
use Rattle.ticklab_draw.specs.declared.mark.Holdings.TheVariants as H
use Rattle.ticklab_draw.specs.declared.pieces.TheConstants.{WORDS_END}
use Rattle.ticklab_draw.specs.declared.shapes.Shape.{Shape}
use Rattle.ticklab_draw.specs.declared.shapes.Shape.TheVariants.{Put, Get, Stamp, Clear, Scan, Yes, No, Out, Trap, End, Lost}
use Rattle.ticklab_draw.specs.declared.shapes.TheConstants.{ABOVE, BAR, BELOW, BROKEN_CIRCLE, CIRCLE, CROSS, EMPTY_DIAMOND, EMPTY_SQUARE, FIELD, FIELD_END, FIELD_TOP, FIELD_WIDTH, FLAG, FLAG_END, FULL_DIAMOND, FULL_SQUARE, INSIDE, ON_FLAG, ON_FLAG_TOP, STRONG, TRAP_STYLE, TRIANGLE}
use Rattle.ticklab_draw.specs.Layout.{field_half, flag_middle, flag_width}
use Rattle.ticklab_draw.specs.Words.{answer_text, label_text, read_text, written_text}
use Rattle.ticklab_draw.specs.Writing.{one_number}
use Rattle.tick_play.specs.Lines.{trap_text}

-- the shape of an answer, of an act, and of what a mark shows
abbrev pub answer_shape : ℕ → Shape
answer_shape answer = if answer == 0 then No else Yes

abbrev pub act_shape : Act → Shape
act_shape (A.Put r v) = Put
act_shape (A.Get r i v) = Get
act_shape A.Stamp = Stamp
act_shape A.Clear = Clear
act_shape (A.Scan ranks) = Scan
act_shape (A.Older i j answer) = answer_shape answer
act_shape (A.Held i answer) = answer_shape answer
act_shape (A.Out v) = Out
act_shape (A.Trap trap) = Trap
act_shape A.End = End

abbrev pub shape_of : Sight → Shape
shape_of (S.Act act) = act_shape act
shape_of (S.Get r i v put) = Get
shape_of (S.Stamp held) = Stamp
shape_of (S.Clear held) = Clear
shape_of (S.Lost held) = Lost

-- the ticket or the label of process `p`
abbrev pub own_label : ℕ → Labels → List ℕ
own_label p labels = if nat_lt p (length labels) then label_text (label_at labels p) else []

abbrev pub own_text : ℕ → Holdings → List ℕ
own_text p (H.Tickets tickets) = decimal (slice_index tickets p)
own_text p (H.Labels labels) = own_label p labels

-- the words beside an act: a row and a value, ranks, a question with its answer, a value, or why a process was stopped
abbrev pub beside_act : ℕ → List (List ℕ) → Act → List ℕ
beside_act n rows (A.Put r v) = written_text rows r v
beside_act n rows (A.Get r i v) = read_text rows r i v
beside_act n rows A.Stamp = []
beside_act n rows A.Clear = []
beside_act n rows (A.Scan ranks) = spaced (map decimal (take n ranks))
beside_act n rows (A.Older i j answer) = decimal i ++ OLDER_THAN.now ++ decimal j ++ codes "? " ++ answer_text answer
beside_act n rows (A.Held i answer) = decimal i ++ HELD.now ++ answer_text answer
beside_act n rows (A.Out v) = decimal v
beside_act n rows (A.Trap trap) = trap_text trap
beside_act n rows A.End = []

-- those beside what a mark of process `p` shows
abbrev pub beside : ℕ → List (List ℕ) → ℕ → Sight → List ℕ
beside n rows p (S.Act act) = beside_act n rows act
beside n rows p (S.Get r i v put) = read_text rows r i v
beside n rows p (S.Stamp held) = own_text p held
beside n rows p (S.Clear held) = []
beside n rows p (S.Lost held) = []

-- a field so wide on each side
unfoldable pub field : ℕ → List ℕ
field half = one_number FIELD.now half FIELD_TOP.now ++ one_number FIELD_WIDTH.now (half * 2) (codes "\"") ++ FIELD_END.now

-- how each shape is drawn: that of a stamp and that of a value given out are as wide as the letters in them
unfoldable pub outline : Shape → ℕ → List ℕ
outline Put letters = FULL_SQUARE.now
outline Get letters = EMPTY_SQUARE.now
outline Stamp letters = field (field_half letters)
outline Clear letters = TRIANGLE.now
outline Scan letters = CIRCLE.now
outline Yes letters = FULL_DIAMOND.now
outline No letters = EMPTY_DIAMOND.now
outline Out letters = one_number FLAG.now (flag_width letters) FLAG_END.now
outline Trap letters = CROSS.now
outline End letters = BAR.now
outline Lost letters = BROKEN_CIRCLE.now

-- words where the text's head says, in this style
unfoldable pub label : List ℕ → List ℕ → List ℕ → List ℕ
label head style words = head ++ style ++ codes ">" ++ words ++ WORDS_END.now

unfoldable pub flag_label : List ℕ → List ℕ
flag_label words = one_number ON_FLAG.now (flag_middle (length words)) ON_FLAG_TOP.now ++ words ++ WORDS_END.now

-- where the words of each shape stand
unfoldable pub words_text : Shape → List ℕ → List ℕ
words_text Put words = label ABOVE.now [] words
words_text Get words = label BELOW.now [] words
words_text Stamp words = label INSIDE.now [] words
words_text Clear words = []
words_text Scan words = label BELOW.now STRONG.now words
words_text Yes words = label BELOW.now [] words
words_text No words = label BELOW.now [] words
words_text Out words = flag_label words
words_text Trap words = label ABOVE.now TRAP_STYLE.now words
words_text End words = []
words_text Lost words = []

-- a shape and its words
abbrev pub drawn_as : Shape → List ℕ → List ℕ
drawn_as shape words = outline shape (length words) ++ words_text shape words

-- what is drawn of a mark of one of `n` processes, where rows have these names
unfoldable pub drawn : ℕ → List (List ℕ) → Mark → List ℕ
drawn n rows m = drawn_as (shape_of m.sight) (beside n rows m.process m.sight)
