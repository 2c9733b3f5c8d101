-- Lines one after another: what was found so far, and what the lines from `start` on add, make what all lines ask
-- (`HasLinesTo`). A line feed ends a line, which adds something (`line_added`) or has the first fault (`line_faulty`);
-- another byte keeps what is known (`line_goes_on`). Where the text ends, so does the last line (`last_added`,
-- `last_faulty`).
use Rattle.std.proofs.Common.{◌≡◌, ◌==◌, ◌∙◌, ℕ, ◌+◌, ◌<◌, ◌≤◌, Bool, true, false, cond, List, [], ◌∷◌, drop, get_or, length, take, Ok, Err, ap, arith, sym}
use Rattle.std.proofs.Math.ListN.{drop_of_length-le}
use Rattle.std.proofs.lemmas.List.{drop_more}
use Rattle.base.specs.Plain.{Name, WholeProgram}
use Rattle.base.specs.Refusing.{◌>>=◌}
use Rattle.language_questions.specs.Lines.{Asked, line_ends, no_questions, questions_in, with_line, with_lines}
use Rattle.language_questions.specs.declared.fault.QuestionFault.{QuestionFault}

module _ (p : WholeProgram Name) (text : List ℕ) where
  pub record HasLinesTo (asked : Asked) (start place : ℕ) : Type 0 where
    pub order : start ≤ place
    pub same : with_lines p text asked start (line_ends place (drop place text)) ≡ with_lines p text no_questions 0 (line_ends 0 text)

  -- the ends from a place with a byte on
  ends_at : (place : ℕ) (feed : Bool) → place < length text → (get_or text place 0 == 10) ≡ feed
      → line_ends place (drop place text) ≡ cond feed (place ∷ line_ends (place + 1) (drop (place + 1) text)) (line_ends (place + 1) (drop (place + 1) text))
  ends_at place feed within is =
      ap (line_ends place) (drop_more text place 0 within)
      ∙ ap (λ b. cond b (place ∷ line_ends (place + 1) (drop (place + 1) text)) (line_ends (place + 1) (drop (place + 1) text))) is

  pub line_goes_on : (asked : Asked) (start place : ℕ) → HasLinesTo asked start place → place < length text
      → (get_or text place 0 == 10) ≡ false → HasLinesTo asked start (place + 1)
  line_goes_on asked start place has within is = record {
    order = let ordered : start ≤ place = has.order in omega arith;
    same = ap (with_lines p text asked start) (sym (ends_at place false within is)) ∙ has.same;
  }

  pub line_added : (asked more : Asked) (start place : ℕ) → HasLinesTo asked start place → place < length text
      → (get_or text place 0 == 10) ≡ true → with_line p (take place text) asked start ≡ Ok more → HasLinesTo more (place + 1) (place + 1)
  line_added asked more start place has within is adds = record {
    order = omega arith;
    same =
        ap (λ r. r >>= λ m. with_lines p text m (place + 1) (line_ends (place + 1) (drop (place + 1) text))) (sym adds)
        ∙ ap (with_lines p text asked start) (sym (ends_at place true within is)) ∙ has.same;
  }

  pub line_faulty : (asked : Asked) (start place : ℕ) (fault : QuestionFault) → HasLinesTo asked start place → place < length text
      → (get_or text place 0 == 10) ≡ true → with_line p (take place text) asked start ≡ Err fault → questions_in p text ≡ Err fault
  unfolding questions_in
  line_faulty asked start place fault has within is fails =
      sym has.same ∙ ap (with_lines p text asked start) (ends_at place true within is)
      ∙ ap (λ r. r >>= λ m. with_lines p text m (place + 1) (line_ends (place + 1) (drop (place + 1) text))) fails

  no_more : (place : ℕ) → length text ≤ place → line_ends place (drop place text) ≡ place ∷ []
  no_more place past = ap (line_ends place) (drop_of_length-le text past)

  pub last_added : (asked more : Asked) (start place : ℕ) → HasLinesTo asked start place → length text ≤ place
      → with_line p (take place text) asked start ≡ Ok more → questions_in p text ≡ Ok more
  unfolding questions_in
  last_added asked more start place has past adds =
      sym has.same ∙ ap (with_lines p text asked start) (no_more place past) ∙ ap (λ r. r >>= λ m. Ok m) adds

  pub last_faulty : (asked : Asked) (start place : ℕ) (fault : QuestionFault) → HasLinesTo asked start place → length text ≤ place
      → with_line p (take place text) asked start ≡ Err fault → questions_in p text ≡ Err fault
  unfolding questions_in
  last_faulty asked start place fault has past fails =
      sym has.same ∙ ap (with_lines p text asked start) (no_more place past) ∙ ap (λ r. r >>= λ m. Ok m) fails
