-- What holds of every history, and of every legal one.
use Rattle.std.specs.Prelude.{◌≡◌, ◌≤◌, ◌↔◌, ℕ, List, [], ◌∷◌, ◌++◌}
use Rattle.word_core.specs.Stamps.{Labels}
use Rattle.word_core.specs.Packed.{AreLabels, word}
use Rattle.word_core.specs.Agreement.{StandsFor}
use Rattle.word_core.specs.History.{memory_of, after, AreRows, MayFollow, IsLegal, ticketed, tickets_of}
use Rattle.word_core.specs.declared.history.Shared.{Shared}

-- the labels that a history gives stand for the tickets that it gives
abbrev pub HistoryStandsLaw : Type 0
HistoryStandsLaw = (n rows : ℕ) (history : List Shared)
    → StandsFor n (tickets_of n history) (memory_of n rows history).labels

-- labels of at most six processes that are read off the word of a history stand for its tickets,
-- however often that word has come back
abbrev pub WordStandsLaw : Type 0
WordStandsLaw = (n rows : ℕ) → n ≤ 6 → (history : List Shared) (labels : Labels) → AreLabels n labels
    → word labels ≡ word (memory_of n rows history).labels → StandsFor n (tickets_of n history) labels

-- a beginning of a legal history is legal
abbrev pub BeginningLaw : Type 0
BeginningLaw = (n rows : ℕ) (front rest : List Shared) → IsLegal n rows (front ++ rest) → IsLegal n rows front

-- a history with one more step is legal exactly where it was and the step can come next
abbrev pub NextStepLaw : Type 0
NextStepLaw = (n rows : ℕ) (history : List Shared) (s : Shared)
    → IsLegal n rows (history ++ s ∷ []) ↔ (IsLegal n rows history × MayFollow n rows (memory_of n rows history) s)

-- what one more step adds: to what is shared, and to the tickets
abbrev pub OneStepLaw : Type 0
OneStepLaw = (n rows : ℕ) (history : List Shared) (s : Shared)
    → (memory_of n rows (history ++ s ∷ []) ≡ after (memory_of n rows history) s)
    × (tickets_of n (history ++ s ∷ []) ≡ ticketed s.process s.act (tickets_of n history))

-- the registers that a legal history gives are as many as at the start, of 32 bits each
abbrev pub RowsLaw : Type 0
RowsLaw = (n rows : ℕ) (history : List Shared) → IsLegal n rows history → AreRows n rows (memory_of n rows history).rows
