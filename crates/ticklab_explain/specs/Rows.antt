-- The rows of the tables of hints, wherever their words are kept.
use Rattle.std.specs.Prelude.{ℕ, List, map}
use Rattle.std.specs.Borrow.{Bor}
use Rattle.ticklab_explain.specs.declared.condition.Ask.{Ask}
use Rattle.ticklab_explain.specs.declared.hint.OtherPlace.{OtherPlace}
use Rattle.ticklab_explain.specs.declared.piece.Quote.{Quote}

-- what is asked, and the words that it speaks of
abbrev pub Condition : Type 0
Condition = Ask × List (List ℕ)

-- the pieces of a hint, and the other place that it speaks of
abbrev pub Help : Type 0
Help = List (Quote × List ℕ) × OtherPlace

abbrev pub Row : Type 0
Row = List Condition × Help

-- of questions: letters, and the hint where they stand
abbrev pub Slip : Type 0
Slip = List (List ℕ) × List ℕ

-- of what code has lent

abbrev pub words_of : List (Bor (List ℕ)) → List (List ℕ)
words_of words = map (λ word. word.now) words

abbrev pub conditions_of : List (Ask × Bor (List (Bor (List ℕ)))) → List Condition
conditions_of conditions = map (λ one. (one.0, words_of one.1.now)) conditions

abbrev pub pieces_of : List (Quote × Bor (List ℕ)) → List (Quote × List ℕ)
pieces_of pieces = map (λ piece. (piece.0, piece.1.now)) pieces

abbrev pub help_of : Bor (List (Quote × Bor (List ℕ))) × OtherPlace → Help
help_of hint = (pieces_of hint.0.now, hint.1)

abbrev pub rows_of : List (Bor (List (Ask × Bor (List (Bor (List ℕ))))) × (Bor (List (Quote × Bor (List ℕ))) × OtherPlace)) → List Row
rows_of rows = map (λ row. (conditions_of row.0.now, help_of row.1)) rows

abbrev pub slips_of : List (Bor (List (Bor (List ℕ))) × Bor (List ℕ)) → List Slip
slips_of slips = map (λ slip. (words_of slip.0.now, slip.1.now)) slips

-- the same of constants: what a reference in a constant is
abbrev pub Kept : Type 0 → Type 0
Kept A = record { now : A }

abbrev pub conditions_kept : List (Ask × Kept (List (Kept (List ℕ)))) → List Condition
conditions_kept conditions = map (λ one. (one.0, map (λ word. word.now) one.1.now)) conditions

abbrev pub pieces_kept : List (Quote × Kept (List ℕ)) → List (Quote × List ℕ)
pieces_kept pieces = map (λ piece. (piece.0, piece.1.now)) pieces

abbrev pub table : List (Kept (List (Ask × Kept (List (Kept (List ℕ))))) × (Kept (List (Quote × Kept (List ℕ))) × OtherPlace)) → List Row
table rows = map (λ row. (conditions_kept row.0.now, (pieces_kept row.1.0.now, row.1.1))) rows

abbrev pub slips_in : List (Kept (List (Kept (List ℕ))) × Kept (List ℕ)) → List Slip
slips_in slips = map (λ slip. (map (λ word. word.now) slip.0.now, slip.1.now)) slips
