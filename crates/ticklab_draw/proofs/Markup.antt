-- Titles, names of rows and the text of what must never hold open no tag. Two pictures of the same marks in the same columns
-- have as many `<`, whatever these are (`markup_law`).
-- The idea. The two pictures are the same pieces but for escaped texts. An escaped text has no `<`
-- (`none_in`). Texts with as many `<`, joined in turn, have as many (`joined`). So the page goes piece by
-- piece from the name of a row (`at_row`) to the whole picture (`picture_alike`).
-- The difficulty. A row without a name shows its number, so there must be as many names on both sides
-- (`named`). An outline may be as wide as its words. But only puts and gets name a row, and their outlines
-- don't depend on the words (`put_drawn`, `get_drawn`).
-- Read `joined` and `none_in` first.
use Rattle.std.proofs.Common.{◌≡◌, ◌∙◌, ap, sym, refl, arith, zero-add, ℕ, zero, suc, ◌+◌, Bool, true, false, if◌then◌else◌, List, [], ◌∷◌, ◌++◌, codes, length, Option, None, Some}
use Rattle.std.specs.Prelude.{◌==◌, ◌||◌, nat_lt, option_map, slice_get}
use Rattle.std.specs.Fmt.{decimal}
use Rattle.base.specs.declared.event.Act.{Act}
use Rattle.base.specs.declared.event.Act.TheVariants as A
use Rattle.ticklab_draw.specs.declared.bands.Lanes.{Lanes}
use Rattle.ticklab_draw.specs.declared.columns.Column.{Column}
use Rattle.ticklab_draw.specs.declared.look.Look.{Look}
use Rattle.ticklab_draw.specs.declared.mark.Mark.{Mark}
use Rattle.ticklab_draw.specs.declared.mark.Sight.{Sight}
use Rattle.ticklab_draw.specs.declared.mark.Sight.TheVariants as S
use Rattle.ticklab_draw.specs.declared.pieces.TheConstants.{GROUP_END, TEXT_END, TITLE_END, WORDS_END}
use Rattle.ticklab_draw.specs.declared.never.TheConstants.{MUST_NEVER_HOLD, NEVER_MARK}
use Rattle.ticklab_draw.specs.declared.page.TheConstants.{ABOUT, ABOUT_END, MARKS_OF_PROCESSES, PAGE_TITLE_END, SEEN_TITLE, TITLE}
use Rattle.ticklab_draw.specs.declared.shapes.Shape.TheVariants.{Put, Get}
use Rattle.ticklab_draw.specs.declared.shapes.TheConstants.{ABOVE, BELOW}
use Rattle.ticklab_draw.specs.declared.style.TheConstants.{BACKDROP, SHEET}
use Rattle.ticklab_draw.specs.declared.words.TheConstants.{BECOMES, GETS, HAS_VALUE, PROCESS, PUTS, STEP}
use Rattle.ticklab_draw.specs.declared.writing.TheConstants.{AMPERSAND, APOSTROPHE, GREATER_THAN, LESS_THAN, QUOTE}
use Rattle.ticklab_draw.specs.Bands.{bands}
use Rattle.ticklab_draw.specs.Chosen.{chosen_count, is_chosen}
use Rattle.ticklab_draw.specs.Columns.{columns}
use Rattle.ticklab_draw.specs.Escapes.{escaped, escaped_byte}
use Rattle.ticklab_draw.specs.Heads.{heads_text}
use Rattle.ticklab_draw.specs.Laws.{MarkupLaw, RenamedLaw, openings, reworded}
use Rattle.ticklab_draw.specs.Layout.{above_y, band_foot, band_top, behind_x, column_at, column_behind, last_column, page_height, page_width}
use Rattle.ticklab_draw.specs.Legend.{legend_text}
use Rattle.ticklab_draw.specs.Never.{Broken, dashed_line, marks_within, moment_text, never_behind, never_label, never_text, never_title, value_text}
use Rattle.ticklab_draw.specs.Pictures.{group_head, group_text, groups_text, heading, page_head, page_size, picture, picture_in, picture_with, titled, under_text}
use Rattle.ticklab_draw.specs.Shapes.{beside, drawn, drawn_as, label, outline, shape_of, words_text}
use Rattle.ticklab_draw.specs.Words.{act_text, origin_text, read_text, row_as, row_text, sentence, sight_text, written_text}
use Rattle.ticklab_draw.specs.Writing.{two_numbers}

-- Two texts have as many `<`.
pub record Alike (a b : List ℕ) : Type 0 where
  pub same : openings a ≡ openings b

counted : (t : Bool) (x y z : ℕ) → x ≡ y + z → (if t then 1 + x else x) ≡ (if t then 1 + y else y) + z
counted true x y z e = omega (arith, e)
counted false x y z e = e

openings-append : (a b : List ℕ) → openings (a ++ b) ≡ openings a + openings b
openings-append [] b = sym (zero-add (openings b))
openings-append (x ∷ a) b = counted (x == 60) (openings (a ++ b)) (openings a) (openings b) (openings-append a b)

both : (a : List ℕ) → Alike a a
both a = record { same = refl }

joined : {a b c d : List ℕ} → Alike a b → Alike c d → Alike (a ++ c) (b ++ d)
joined {a = a} {b = b} {c = c} {d = d} p q = record {
  same =
      openings-append a c ∙ ap (λ (k : ℕ). k + openings c) p.same ∙ ap (λ (k : ℕ). openings b + k) q.same
      ∙ sym (openings-append b d);
}

where_shown : {a b : List ℕ} (shown : Bool) → Alike a b → Alike (if shown then a else []) (if shown then b else [])
where_shown true alike = alike
where_shown false alike = both []

-- an escaped byte, by what it is
byte_by : (amp lt gt quote tick odd : Bool) (b : ℕ) → (b == 60) ≡ lt
    → openings (if amp then AMPERSAND.now else if lt then LESS_THAN.now else if gt then GREATER_THAN.now else if quote then QUOTE.now else if tick then APOSTROPHE.now else if odd then codes "?" else b ∷ []) ≡ 0
byte_by true lt gt quote tick odd b is = refl
byte_by false true gt quote tick odd b is = refl
byte_by false false true quote tick odd b is = refl
byte_by false false false true tick odd b is = refl
byte_by false false false false true odd b is = refl
byte_by false false false false false true b is = refl
byte_by false false false false false false b is = ap (λ (t : Bool). if t then 1 else 0) is

none_in : (text : List ℕ) → openings (escaped text) ≡ 0
none_in [] = refl
none_in (b ∷ text) =
    openings-append (escaped_byte b) (escaped text)
    ∙ ap (λ (k : ℕ). k + openings (escaped text)) (byte_by (b == 38) (b == 60) (b == 62) (b == 34) (b == 39) (nat_lt b 32 || (b == 127)) b refl)
    ∙ zero-add (openings (escaped text)) ∙ none_in text

texts : (a b : List ℕ) → Alike (escaped a) (escaped b)
texts a b = record { same = none_in a ∙ sym (none_in b) }

-- a row by any other name
named : (row : ℕ) (rows renamed : List (List ℕ)) (k : ℕ) → length rows ≡ length renamed
    → Alike (row_as row (slice_get rows k)) (row_as row (slice_get renamed k))
named row [] [] k e = both (row_as row None)
named row [] (y ∷ renamed) k e = absurd (omega (arith, e))
named row (x ∷ rows) [] k e = absurd (omega (arith, e))
named row (x ∷ rows) (y ∷ renamed) zero e = texts x y
named row (x ∷ rows) (y ∷ renamed) (suc k) e = named row rows renamed k (omega (arith, e))

module _ (n : ℕ) (rows renamed : List (List ℕ)) (e : length rows ≡ length renamed) where
  at_row : (r : ℕ) → Alike (row_text rows r) (row_text renamed r)
  at_row r = named r rows renamed r e

  put_alike : (r v : ℕ) → Alike (written_text rows r v) (written_text renamed r v)
  put_alike r v = joined (joined (at_row r) (both BECOMES.now)) (both (decimal v))

  read_alike : (r i v : ℕ) → Alike (read_text rows r i v) (read_text renamed r i v)
  read_alike r i v = joined (joined (joined (joined (at_row r) (both (codes "["))) (both (decimal i))) (both HAS_VALUE.now)) (both (decimal v))

  gets_alike : (r i v : ℕ) → Alike (GETS.now ++ read_text rows r i v) (GETS.now ++ read_text renamed r i v)
  gets_alike r i v = joined (both GETS.now) (read_alike r i v)

  act_alike : (act : Act) → Alike (act_text n rows act) (act_text n renamed act)
  act_alike (A.Put r v) = joined (both PUTS.now) (put_alike r v)
  act_alike (A.Get r i v) = gets_alike r i v
  act_alike A.Stamp = both _
  act_alike A.Clear = both _
  act_alike (A.Scan ranks) = both _
  act_alike (A.Older i j answer) = both _
  act_alike (A.Held i answer) = both _
  act_alike (A.Out v) = both _
  act_alike (A.Trap trap) = both _
  act_alike A.End = both _

  sight_alike : (sight : Sight) → Alike (sight_text n rows sight) (sight_text n renamed sight)
  sight_alike (S.Act act) = act_alike act
  sight_alike (S.Get r i v put) = joined (gets_alike r i v) (both (origin_text put))
  sight_alike (S.Stamp held) = both _
  sight_alike (S.Clear held) = both _
  sight_alike (S.Lost held) = both _

  sentence_alike : (m : Mark) → Alike (sentence n rows m) (sentence n renamed m)
  unfolding sentence
  sentence_alike m =
      joined (both (STEP.now ++ decimal m.step ++ PROCESS.now ++ decimal m.process ++ codes " ")) (sight_alike m.sight)

  label_alike : {w v : List ℕ} (head style : List ℕ) → Alike w v → Alike (label head style w) (label head style v)
  unfolding label
  label_alike head style alike = joined (joined (both (head ++ style ++ codes ">")) alike) (both WORDS_END.now)

  put_drawn : {w v : List ℕ} → Alike w v → Alike (drawn_as Put w) (drawn_as Put v)
  unfolding outline words_text
  put_drawn alike = joined (both (outline Put 0)) (label_alike ABOVE.now [] alike)

  get_drawn : {w v : List ℕ} → Alike w v → Alike (drawn_as Get w) (drawn_as Get v)
  unfolding outline words_text
  get_drawn alike = joined (both (outline Get 0)) (label_alike BELOW.now [] alike)

  act_drawn : (p : ℕ) (act : Act)
      → Alike (drawn_as (shape_of (S.Act act)) (beside n rows p (S.Act act))) (drawn_as (shape_of (S.Act act)) (beside n renamed p (S.Act act)))
  act_drawn p (A.Put r v) = put_drawn (put_alike r v)
  act_drawn p (A.Get r i v) = get_drawn (read_alike r i v)
  act_drawn p A.Stamp = both _
  act_drawn p A.Clear = both _
  act_drawn p (A.Scan ranks) = both _
  act_drawn p (A.Older i j answer) = both _
  act_drawn p (A.Held i answer) = both _
  act_drawn p (A.Out v) = both _
  act_drawn p (A.Trap trap) = both _
  act_drawn p A.End = both _

  sight_drawn : (p : ℕ) (sight : Sight)
      → Alike (drawn_as (shape_of sight) (beside n rows p sight)) (drawn_as (shape_of sight) (beside n renamed p sight))
  sight_drawn p (S.Act act) = act_drawn p act
  sight_drawn p (S.Get r i v put) = get_drawn (read_alike r i v)
  sight_drawn p (S.Stamp held) = both _
  sight_drawn p (S.Clear held) = both _
  sight_drawn p (S.Lost held) = both _

  drawn_alike : (m : Mark) → Alike (drawn n rows m) (drawn n renamed m)
  unfolding drawn
  drawn_alike m = sight_drawn m.process m.sight

  group_alike : (look : Look) (bands : List Lanes) (c : Column) (at : ℕ) (m : Mark)
      → Alike (group_text look bands n rows c at m) (group_text look bands n renamed c at m)
  unfolding group_text
  group_alike look bands c at m =
      where_shown (is_chosen look m)
      (joined (joined (joined (joined (both (group_head bands c at m.process)) (sentence_alike m)) (both TITLE_END.now)) (drawn_alike m)) (both GROUP_END.now))

  groups_alike : (look : Look) (bands : List Lanes) (columns : List Column) (at : ℕ) (marks : List Mark)
      → Alike (groups_text look bands n rows columns at marks) (groups_text look bands n renamed columns at marks)
  groups_alike look bands columns at [] = both []
  groups_alike look bands columns at (m ∷ marks) =
      joined (group_alike look bands (column_at columns at) at m) (groups_alike look bands columns (at + 1) marks)

titled_alike : (before title other after : List ℕ) → Alike (titled before title after) (titled before other after)
unfolding titled
titled_alike before title other after = joined (joined (both before) (texts title other)) (both after)

head_alike : (title other : List ℕ) (width height n count : ℕ)
    → Alike (page_head title width height n count) (page_head other width height n count)
unfolding page_head
head_alike title other width height n count =
    joined (joined (both (page_size width height)) (titled_alike TITLE.now title other PAGE_TITLE_END.now)) (both (two_numbers ABOUT.now count MARKS_OF_PROCESSES.now n ABOUT_END.now))

heading_alike : (title other : List ℕ) → Alike (heading title) (heading other)
unfolding heading
heading_alike title other =
    joined (both (SHEET.now ++ BACKDROP.now)) (titled_alike SEEN_TITLE.now title other TEXT_END.now)

never_titled : (b : Broken) (text : List ℕ) → Alike (never_title b) (never_title (reworded text b))
unfolding never_title
never_titled b text =
    joined (joined (joined (joined (both (NEVER_MARK.now ++ moment_text b.steps ++ codes ": ")) (texts b.text text)) (both MUST_NEVER_HOLD.now)) (both (value_text b.value))) (both TITLE_END.now)

behind_alike : (bands : List Lanes) (c : Column) (b : Broken) (text : List ℕ) → Alike (never_behind bands c b) (never_behind bands c (reworded text b))
unfolding never_behind
behind_alike bands c b text =
    joined (joined (never_titled b text) (both (dashed_line (behind_x c) (band_top bands c.band) (band_foot bands c.band)))) (both (never_label (behind_x c) (above_y bands c.band) b.number))

never_alike : (bands : List Lanes) (columns : List Column) (marks : List Mark) (broken : Option Broken) (text : List ℕ)
    → Alike (never_text bands columns marks broken) (never_text bands columns marks (option_map (reworded text) broken))
never_alike bands columns marks None text = both []
never_alike bands columns marks (Some b) text = behind_alike bands (column_behind columns (marks_within b.steps marks)) b text

picture_alike : (bands : List Lanes) (columns : List Column) (title other : List ℕ) (look : Look) (n : ℕ) (rows renamed : List (List ℕ)) (marks : List Mark) (broken : Option Broken) (text : List ℕ)
    → length rows ≡ length renamed
    → Alike (picture_in bands columns title look n rows marks broken) (picture_in bands columns other look n renamed marks (option_map (reworded text) broken))
unfolding picture_in
picture_alike bands columns title other look n rows renamed marks broken text e =
    let last = (last_column columns).band in
    let width = page_width look.width columns in
    joined (joined (joined (joined (joined (joined (head_alike title other width (page_height bands last width) n (chosen_count look marks)) (heading_alike title other)) (both (heads_text width bands columns))) (never_alike bands columns marks broken text)) (both (under_text look bands n columns marks))) (groups_alike n rows renamed e look bands columns 0 marks)) (both (legend_text bands last width))

pub markup_law : MarkupLaw
markup_law bands columns title other look n rows renamed marks broken text e = (picture_alike bands columns title other look n rows renamed marks broken text e).same

pub renamed_law : RenamedLaw
unfolding picture
renamed_law title other look n rows renamed parts marks broken text e same =
    let like = columns look n renamed parts marks in
    ap (λ (cs : List Column). openings (picture_with cs title look n rows marks broken)) same
    ∙ markup_law (bands look n like marks) like title other look n rows renamed marks broken text e
