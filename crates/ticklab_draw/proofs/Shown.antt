-- A band has the lanes of the processes of whose marks it shows one, and no others (`lanes_law`). Bands stand one below the other
-- (`stack_law`).
-- The idea. Bands are made mark by mark. The last one has the lanes that it has so far, and gets those of further marks
-- (`some_band`). That a mark stands in the band of the one before or in the one below, and in none above, is what columns keep
-- (`StepsUp`).
use Rattle.std.proofs.Common.{◌≡◌, ◌∙◌, ap, subst, sym, refl, arith, ℕ, zero, suc, ◌+◌, ◌<◌, ◌≤◌, Bool, true, false, if◌then◌else◌, List, [], ◌∷◌, ◌++◌, length, ◌⊎◌, inl, inr, Option, Some, None}
use Rattle.std.specs.Prelude.{◌-◌, ◌*◌, ◌==◌, ◌&&◌, ◌||◌, nat_lt, slice_get, slice_set}
use Rattle.std.proofs.Math.ListN.{length-set}
use Rattle.std.proofs.lemmas.Bool.Decides.{nat_tests}
use borrow.Author.Tests.{eqb-true, eqb-false, ne_eqb, le-ltb}
use Rattle.ticklab_draw.specs.declared.bands.Lanes.{Lanes}
use Rattle.ticklab_draw.specs.declared.columns.Column.{Column}
use Rattle.ticklab_draw.specs.declared.look.Look.{Look}
use Rattle.ticklab_draw.specs.declared.mark.Mark.{Mark}
use Rattle.ticklab_trace.specs.declared.parts.Part.{Part}
use Rattle.ticklab_trace.specs.declared.parts.Parts.{Parts}
use Rattle.ticklab_trace.specs.Parts.{is_same, part_at}
use Rattle.ticklab_draw.specs.declared.columns.Band.{Band}
use Rattle.ticklab_draw.specs.Bands.{bands, first_lanes, lanes_below, lanes_from, with_mark}
use Rattle.ticklab_draw.specs.Chosen.{chosen_count, is_chosen}
use Rattle.ticklab_draw.specs.Columns.{column_of, columns, columns_behind, half_of}
use Rattle.ticklab_draw.specs.LaneLaws.{AreStacked, HaveLanes, LanesLaw, StackLaw, shows}
use Rattle.ticklab_draw.specs.LaneSets.{all_lanes, is_lane, lane_count, lanes_or, no_lanes}
use Rattle.ticklab_draw.specs.Layout.{band_below, band_end, column_at, edge, first_column, headed, next_column, right_x}

or_false : (t : Bool) → (t || false) ≡ t
or_false true = refl
or_false false = refl

or_true : (t : Bool) → (t || true) ≡ true
or_true true = refl
or_true false = refl

next_same : (q p : ℕ) → (suc q == suc p) ≡ (q == p)
next_same q p = grind (arith, nat_tests)

none_there : (p : ℕ) → is_lane no_lanes p ≡ false
none_there zero = refl
none_there (suc zero) = refl
none_there (suc (suc zero)) = refl
none_there (suc (suc (suc zero))) = refl
none_there (suc (suc (suc (suc zero)))) = refl
none_there (suc (suc (suc (suc (suc zero))))) = refl
none_there (suc (suc (suc (suc (suc (suc p)))))) = refl

none_before : (p : ℕ) → (0 == suc p) ≡ false
none_before p = ne_eqb 0 (suc p) (λ e. omega (arith, e))

none_behind : (q : ℕ) → (suc q == 0) ≡ false
none_behind q = ne_eqb (suc q) 0 (λ e. omega (arith, e))

-- a lane more
with_lane : (has : List Bool) (q p : ℕ) → p < length has → is_lane (slice_set has q true) p ≡ (is_lane has p || (q == p))
with_lane [] q p low = absurd (omega arith)
with_lane (lane ∷ has) zero zero low = sym (or_true lane)
with_lane (lane ∷ has) zero (suc p) low = sym (ap (λ t. is_lane has p || t) (none_before p) ∙ or_false (is_lane has p))
with_lane (lane ∷ has) (suc q) zero low = sym (ap (λ t. lane || t) (none_behind q) ∙ or_false lane)
with_lane (lane ∷ has) (suc q) (suc p) low = with_lane has q p (omega arith) ∙ sym (ap (λ t. is_lane has p || t) (next_same q p))

one_below : (p n : ℕ) → (nat_lt p n || (n == p)) ≡ nat_lt p (suc n)
one_below p n = grind (arith, nat_tests)

length_all : (n : ℕ) → length (all_lanes n) ≡ 6
length_all zero = refl
length_all (suc p) = length-set (all_lanes p) p true ∙ length_all p

all_there : (n p : ℕ) → p < 6 → is_lane (all_lanes n) p ≡ nat_lt p n
all_there zero p low = none_there p ∙ sym (le-ltb p 0 (omega arith))
all_there (suc n) p low =
    with_lane (all_lanes n) n p (omega (arith, length_all n)) ∙ ap (λ t. t || (n == p)) (all_there n p low) ∙ one_below p n

-- Each of these marks, the first of which has this place among all, stands in the band of the one before, which has this number,
-- or in the one below.
abbrev pub StepsUp : List Column → ℕ → ℕ → List Mark → Type 0
StepsUp columns number at [] = Unit {0}
StepsUp columns number at (m ∷ marks) =
    (((column_at columns at).band.number ≡ number) ⊎ ((column_at columns at).band.number ≡ number + 1))
    × StepsUp columns (column_at columns at).band.number (at + 1) marks

-- with a mark that is shown, and with one that isn't
marked : (look : Look) (m : Mark) (lanes : Lanes) (p : ℕ) (t : Bool) → length lanes.has ≡ 6 → p < 6
    → is_lane (if t then record { above = lanes.above; has = slice_set lanes.has m.process true } else lanes).has p ≡ (is_lane lanes.has p || (t && (m.process == p)))
marked look m lanes p true six low = with_lane lanes.has m.process p (omega (arith, six))
marked look m lanes p false six low = sym (or_false (is_lane lanes.has p))

marked_six : (m : Mark) (lanes : Lanes) (t : Bool) → length lanes.has ≡ 6
    → length (if t then record { above = lanes.above; has = slice_set lanes.has m.process true } else lanes).has ≡ 6
marked_six m lanes true six = length-set lanes.has m.process true ∙ six
marked_six m lanes false six = six

and_false : (t : Bool) → (t && false) ≡ false
and_false true = refl
and_false false = refl

-- no mark stands in a band that is over
over_by : (look : Look) (columns : List Column) (number p at : ℕ) (m : Mark) (marks : List Mark) → number < (column_at columns at).band.number
    → shows look columns number p (at + 1) marks ≡ false → shows look columns number p at (m ∷ marks) ≡ false
over_by look columns number p at m marks past rest =
    ap (λ t. (is_chosen look m && t && (m.process == p)) || shows look columns number p (at + 1) marks)
    (ne_eqb (column_at columns at).band.number number (λ e. omega (arith, e)))
    ∙ ap (λ t. (t && (m.process == p)) || shows look columns number p (at + 1) marks) (and_false (is_chosen look m))
    ∙ rest

over_none : (look : Look) (columns : List Column) (number next p at : ℕ) (marks : List Mark) → number < next → StepsUp columns next at marks
    → shows look columns number p at marks ≡ false
over_none look columns number next p at [] past up = refl
over_none look columns number next p at (m ∷ marks) past up =
    let here = (column_at columns at).band.number in
    let further : number < here = elim up.0 as (λ w. number < here) [ inl e ↦ omega (arith, e, past) | inr e ↦ omega (arith, e, past) ] in
    over_by look columns number p at m marks further (over_none look columns number here p (at + 1) marks further up.1)

-- whether the next mark stands in the band of this number, or in one further below
same_place : (a k : ℕ) → (a == a + k) ≡ (k == 0)
same_place a k = grind (arith, nat_tests)

-- how the tests of a mark and of those behind it go together
in_band : (first lane chosen own rest : Bool) → ((first && (lane || (chosen && own))) || rest) ≡ ((first && lane) || ((chosen && first && own) || rest))
in_band true true chosen own rest = refl
in_band true false true own rest = refl
in_band true false false own rest = refl
in_band false lane true own rest = refl
in_band false lane false own rest = refl

-- the band that has so many of these bands above it
abbrev has_of : List Lanes → ℕ → ℕ → Bool
has_of bands k p = is_lane (lanes_or (slice_get bands k)).has p

abbrev Told : Look → List Column → ℕ → Lanes → ℕ → List Mark → ℕ → Type 0
Told look columns number lanes at marks p =
    (k : ℕ) → has_of (lanes_from look columns number lanes at marks) k p ≡ (((k == 0) && is_lane lanes.has p) || shows look columns (number + k) p at marks)

module _ (look : Look) (columns : List Column) (p : ℕ) (low : p < 6) where
  abbrev further : ℕ → ℕ → List Mark → Bool
  further number at marks = shows look columns number p (at + 1) marks

  -- the next mark stands in the same band
  same_band : (number next at : ℕ) (lanes : Lanes) (m : Mark) (marks : List Mark) → next ≡ number → length lanes.has ≡ 6
      → Told look columns next (with_mark look m lanes) (at + 1) marks p → (k : ℕ)
      → has_of (lanes_from look columns next (with_mark look m lanes) (at + 1) marks) k p
      ≡ (((k == 0) && is_lane lanes.has p) || ((is_chosen look m && (next == number + k) && (m.process == p)) || further (number + k) at marks))
  same_band number next at lanes m marks same six told k =
      let place : (next == number + k) ≡ (k == 0) = ap (λ j. next == j + k) (sym same) ∙ same_place next k in
      told k
      ∙ ap (λ t. ((k == 0) && t) || further (next + k) at marks) (marked look m lanes p (is_chosen look m) six low)
      ∙ in_band (k == 0) (is_lane lanes.has p) (is_chosen look m) (m.process == p) (further (next + k) at marks)
      ∙ sym (ap (λ t. ((k == 0) && is_lane lanes.has p) || ((is_chosen look m && t && (m.process == p)) || further (next + k) at marks)) place)
      ∙ ap (λ j. ((k == 0) && is_lane lanes.has p) || ((is_chosen look m && (next == number + k) && (m.process == p)) || further (j + k) at marks)) same

  -- or it stands in the band below
  next_band : (number next at : ℕ) (lanes : Lanes) (m : Mark) (marks : List Mark) → next ≡ number + 1 → StepsUp columns next (at + 1) marks
      → Told look columns next (with_mark look m (lanes_below lanes)) (at + 1) marks p → (k : ℕ)
      → has_of (lanes ∷ lanes_from look columns next (with_mark look m (lanes_below lanes)) (at + 1) marks) k p
      ≡ (((k == 0) && is_lane lanes.has p) || ((is_chosen look m && (next == number + k) && (m.process == p)) || further (number + k) at marks))
  next_band number next at lanes m marks is up told zero =
      let past : (next == number + 0) ≡ false = ne_eqb next (number + 0) (λ e. omega (arith, e, is)) in
      sym (ap (λ t. is_lane lanes.has p || ((is_chosen look m && t && (m.process == p)) || further (number + 0) at marks)) past
      ∙ ap (λ t. is_lane lanes.has p || ((t && (m.process == p)) || further (number + 0) at marks)) (and_false (is_chosen look m))
      ∙ ap (λ t. is_lane lanes.has p || t) (over_none look columns (number + 0) next p (at + 1) marks (omega (arith, is)) up)
      ∙ or_false (is_lane lanes.has p))
  next_band number next at lanes m marks is up told (suc k) =
      let behind : number + suc k ≡ next + k = omega (arith, is) in
      let own : Bool = m.process == p in
      let chosen : Bool = is_chosen look m in
      told k
      ∙ ap (λ t. ((k == 0) && t) || further (next + k) at marks)
      (marked look m (lanes_below lanes) p chosen refl low ∙ ap (λ t. t || (chosen && own)) (none_there p))
      ∙ in_band (k == 0) false chosen own (further (next + k) at marks)
      ∙ ap (λ t. t || ((chosen && (k == 0) && own) || further (next + k) at marks)) (and_false (k == 0))
      ∙ sym (ap (λ t. (chosen && t && own) || further (next + k) at marks) (same_place next k))
      ∙ sym (ap (λ j. (chosen && (next == j) && own) || further j at marks) behind)
      ∙ sym (ap (λ t. (t && is_lane lanes.has p) || ((chosen && (next == number + suc k) && own) || further (number + suc k) at marks)) (none_behind k))

  by_test : (number at : ℕ) (lanes : Lanes) (m : Mark) (marks : List Mark) (t : Bool) → (number == (column_at columns at).band.number) ≡ t
      → length lanes.has ≡ 6 → StepsUp columns number at (m ∷ marks)
      → Told look columns (column_at columns at).band.number (with_mark look m lanes) (at + 1) marks p
      → Told look columns (column_at columns at).band.number (with_mark look m (lanes_below lanes)) (at + 1) marks p → (k : ℕ)
      → has_of ((if t then [] else lanes ∷ []) ++ lanes_from look columns (column_at columns at).band.number (with_mark look m (if t then lanes else lanes_below lanes)) (at + 1) marks) k p
      ≡ (((k == 0) && is_lane lanes.has p) || shows look columns (number + k) p at (m ∷ marks))
  by_test number at lanes m marks true is six up same below k =
      same_band number (column_at columns at).band.number at lanes m marks (sym (eqb-true number (column_at columns at).band.number is)) six same k
  by_test number at lanes m marks false is six up same below k =
      let next : (column_at columns at).band.number ≡ number + 1 =
      elim up.0 as (λ w. (column_at columns at).band.number ≡ number + 1)
      [ inl e ↦ absurd (eqb-false number (column_at columns at).band.number is (sym e)) | inr e ↦ e ] in
      next_band number (column_at columns at).band.number at lanes m marks next up.1 below k

  some_band : (number at : ℕ) (lanes : Lanes) (marks : List Mark) → length lanes.has ≡ 6 → StepsUp columns number at marks
      → Told look columns number lanes at marks p
  some_band number at lanes [] six up zero = sym (or_false (is_lane lanes.has p))
  some_band number at lanes [] six up (suc k) = none_there p ∙ sym (ap (λ t. (t && is_lane lanes.has p) || false) (none_behind k))
  some_band number at lanes (m ∷ marks) six up k =
      let next = (column_at columns at).band.number in
      by_test number at lanes m marks (number == next) refl six up
      (some_band next (at + 1) (with_mark look m lanes) marks (marked_six m lanes (is_chosen look m) six) up.1)
      (some_band next (at + 1) (with_mark look m (lanes_below lanes)) marks (marked_six m (lanes_below lanes) (is_chosen look m) refl) up.1) k

  first_has : (n : ℕ) (t : Bool) → is_lane (if t then all_lanes n else no_lanes) p ≡ (t && nat_lt p n)
  first_has n true = all_there n p low
  first_has n false = none_there p

first_six : (n : ℕ) (t : Bool) → length (if t then all_lanes n else no_lanes) ≡ 6
first_six n true = length_all n
first_six n false = refl

have_lanes : (look : Look) (n : ℕ) (columns : List Column) (marks : List Mark) → StepsUp columns 0 0 marks
    → HaveLanes look n columns marks (bands look n columns marks)
have_lanes look n columns marks up band p low =
    let none = chosen_count look marks == 0 in
    let same : 0 + band.number ≡ band.number = omega arith in
    some_band look columns p low 0 0 (first_lanes look n marks) marks (first_six n none) up band.number
    ∙ ap (λ t. ((band.number == 0) && t) || shows look columns (0 + band.number) p 0 marks) (first_has look columns p low n none)
    ∙ ap (λ j. ((band.number == 0) && (none && nat_lt p n)) || shows look columns j p 0 marks) same

-- how many lanes stand above
same_above : (look : Look) (m : Mark) (lanes : Lanes) (t : Bool)
    → (if t then record { above = lanes.above; has = slice_set lanes.has m.process true } else lanes).above ≡ lanes.above
same_above look m lanes true = refl
same_above look m lanes false = refl

module _ (look : Look) (columns : List Column) where
  first_by : (number at : ℕ) (lanes : Lanes) (m : Mark) (marks : List Mark) (t : Bool)
      → ((more : Lanes) → (lanes_or (slice_get (lanes_from look columns (column_at columns at).band.number more (at + 1) marks) 0)).above ≡ more.above)
      → (lanes_or (slice_get ((if t then [] else lanes ∷ []) ++ lanes_from look columns (column_at columns at).band.number
      (with_mark look m (if t then lanes else lanes_below lanes)) (at + 1) marks) 0)).above ≡ lanes.above
  first_by number at lanes m marks true rest = rest (with_mark look m lanes) ∙ same_above look m lanes (is_chosen look m)
  first_by number at lanes m marks false rest = refl

  first_above : (number at : ℕ) (lanes : Lanes) (marks : List Mark)
      → (lanes_or (slice_get (lanes_from look columns number lanes at marks) 0)).above ≡ lanes.above
  first_above number at lanes [] = refl
  first_above number at lanes (m ∷ marks) =
      first_by number at lanes m marks (number == (column_at columns at).band.number)
      (λ more. first_above (column_at columns at).band.number (at + 1) more marks)

  abbrev Stacks : List Lanes → ℕ → Type 0
  Stacks bands k = suc k < length bands
      → (lanes_or (slice_get bands (suc k))).above ≡ (lanes_or (slice_get bands k)).above + lane_count (lanes_or (slice_get bands k)).has

  stacked_by : (number at : ℕ) (lanes : Lanes) (m : Mark) (marks : List Mark) (t : Bool)
      → ((more : Lanes) (k : ℕ) → Stacks (lanes_from look columns (column_at columns at).band.number more (at + 1) marks) k)
      → (k : ℕ) → Stacks ((if t then [] else lanes ∷ []) ++ lanes_from look columns (column_at columns at).band.number
      (with_mark look m (if t then lanes else lanes_below lanes)) (at + 1) marks) k
  stacked_by number at lanes m marks true rest k within = rest (with_mark look m lanes) k within
  stacked_by number at lanes m marks false rest zero within =
      first_above (column_at columns at).band.number (at + 1) (with_mark look m (lanes_below lanes)) marks
      ∙ same_above look m (lanes_below lanes) (is_chosen look m)
  stacked_by number at lanes m marks false rest (suc k) within = rest (with_mark look m (lanes_below lanes)) k (omega (arith, within))

  stacked : (number at : ℕ) (lanes : Lanes) (marks : List Mark) (k : ℕ) → Stacks (lanes_from look columns number lanes at marks) k
  stacked number at lanes [] k within = absurd (omega (arith, within))
  stacked number at lanes (m ∷ marks) k within =
      stacked_by number at lanes m marks (number == (column_at columns at).band.number)
      (λ more j. stacked (column_at columns at).band.number (at + 1) more marks j) k within

pub stack_law : StackLaw
stack_law look n columns marks =
    let all = bands look n columns marks in (
      λ first is. ap (λ k. (lanes_or (slice_get all k)).above) is ∙ first_above look columns 0 0 (first_lanes look n marks) marks,
      λ band next is within.
          let after : next.number ≡ suc band.number = omega (arith, is) in
          ap (λ k. (lanes_or (slice_get all k)).above) after
          ∙ stacked look columns 0 0 (first_lanes look n marks) marks band.number (omega (arith, after, within)),
    )

-- the column of a mark stands in the band of the one before, or in the one below
abbrev IsNext : ℕ → ℕ → Type 0
IsNext number next = (next ≡ number) ⊎ (next ≡ number + 1)

below_next : (band : Band) (t : Bool) → IsNext band.number (if t then record { number = band.number + 1; heads = band.heads } else band).number
below_next band true = inr refl
below_next band false = inl refl

next_up : (p half : ℕ) (part : Part) (c other : Column) (same long : Bool) → other.band.number ≡ c.band.number
    → IsNext c.band.number
    (if same then (if long then first_column (band_below c) p part half else other) else first_column (headed (band_below c)) p part half).band.number
next_up p half part c other true true is = below_next c.band (nat_lt 50 (right_x c))
next_up p half part c other true false is = inl is
next_up p half part c other false long is = below_next c.band (nat_lt 50 (right_x c))

module _ (look : Look) (n : ℕ) (rows : List (List ℕ)) (parts : Option Parts) where
  shown_up : (c : Column) (m : Mark) (t : Bool)
      → IsNext c.band.number (if t then next_column (band_end look.width) m.process (part_at parts (m.step - 1)) c (half_of n rows m) else c).band.number
  shown_up c m true =
      let half = half_of n rows m in
      let part = part_at parts (m.step - 1) in
      next_up m.process half part c (record { band = c.band; x = right_x c + 14 + half; half = half; process = m.process; part = part }) (is_same part c.part)
      (nat_lt 50 (right_x c) && nat_lt (band_end look.width) (right_x c + 14 + 2 * half)) refl
  shown_up c m false = inl refl

  steps_up : (c : Column) (all : List Column) (at : ℕ) (marks : List Mark)
      → ((i : ℕ) → column_at all (at + i) ≡ column_at (columns_behind look n rows parts c marks) i) → StepsUp all c.band.number at marks
  steps_up c all at [] is = tt
  steps_up c all at (m ∷ marks) is =
      let next = column_of look n rows parts c m in
      let none : at ≡ at + 0 = omega arith in
      let here : column_at all at ≡ next = ap (column_at all) none ∙ is 0 in (
        subst (λ (d : Column). IsNext c.band.number d.band.number) (sym here) (shown_up c m (is_chosen look m)),
        subst (λ (d : Column). StepsUp all d.band.number (at + 1) marks) (sym here)
            (steps_up next all (at + 1) marks (λ i. let more : at + 1 + i ≡ at + suc i = omega arith in ap (column_at all) more ∙ is (suc i))),
      )

pub lanes_law : LanesLaw
lanes_law look n rows parts marks =
    have_lanes look n (columns look n rows parts marks) marks
    (steps_up look n rows parts edge (columns look n rows parts marks) 0 marks
    (λ i. let same : 0 + i ≡ i = omega arith in ap (column_at (columns look n rows parts marks)) same))
