-- Histories: the steps of all processes on what they share, in one order, each with its answer.
use Rattle.std.specs.Prelude.{◌≡◌, ◌≢◌, ℕ, ◌^◌, ◌<◌, List, [], ◌∷◌, length, All}
use Rattle.base.specs.RegisterRows.{start_rows}
use Rattle.ticket_core.specs.Tickets.{start_tickets, stamp_ticket, clear_ticket}
pub use Rattle.base.specs.RegisterRows.{register_at, register_set}
use Rattle.word_core.specs.Stamps.{Labels, start_labels, stamped, cleared}
use Rattle.word_core.specs.Packed.{word}
use Rattle.word_core.specs.declared.history.Shared.{Shared}
use Rattle.word_core.specs.declared.history.SharedAct.{SharedAct}
use Rattle.word_core.specs.declared.history.SharedAct.TheVariants.{Load, Won, Lost, Read, Write, Clear}

-- what processes share: a label for each, and register rows with a number for each
pub record Memory : Type 0 where
  pub labels : Labels
  pub rows : List (List ℕ)

-- at the start nobody is present, and each register is 0
abbrev pub start_memory : ℕ → ℕ → Memory
start_memory n rows = record { labels = start_labels n; rows = start_rows rows n }

-- what an act of process `p` leaves: one that won is a stamp, a clear gives its label up, a write changes
-- its own register, and all others change nothing
abbrev pub acted : ℕ → SharedAct → Memory → Memory
acted p (Load found) m = m
acted p (Won old new) m = record { labels = stamped p m.labels; rows = m.rows }
acted p (Lost old found) m = m
acted p (Read r i v) m = m
acted p (Write r v) m = record { labels = m.labels; rows = register_set m.rows r p v }
acted p (Clear old) m = record { labels = cleared p m.labels; rows = m.rows }

abbrev pub after : Memory → Shared → Memory
after m s = acted s.process s.act m

-- what a list of steps leaves
abbrev pub memory_after : Memory → List Shared → Memory
memory_after m [] = m
memory_after m (s ∷ steps) = memory_after (after m s) steps

abbrev pub memory_of : ℕ → ℕ → List Shared → Memory
memory_of n rows history = memory_after (start_memory n rows) history

-- a row with a register of 32 bits for each of `n` processes
pub record IsRow (n : ℕ) (row : List ℕ) : Type 0 where
  pub count : length row ≡ n
  pub each : All (λ value. value < 2 ^ 32) row

-- `count` such rows
pub record AreRows (n count : ℕ) (rows : List (List ℕ)) : Type 0 where
  pub rows_count : length rows ≡ count
  pub each : All (IsRow n) rows

-- the answers that an act of process `p`, one of `n`, can have beside `rows` register rows
abbrev pub Answers : ℕ → ℕ → Memory → ℕ → SharedAct → Type 0
Answers n rows m p (Load found) = found ≡ word m.labels
Answers n rows m p (Won old new) = (old ≡ word m.labels) × (new ≡ word (stamped p m.labels))
Answers n rows m p (Lost old found) = (found ≡ word m.labels) × (found ≢ old)
Answers n rows m p (Read r i v) = (r < rows) × (i < n) × (v ≡ register_at m.rows r i)
Answers n rows m p (Write r v) = (r < rows) × (v < 2 ^ 32)
Answers n rows m p (Clear old) = old ≡ word m.labels

-- the step can come next
abbrev pub MayFollow : ℕ → ℕ → Memory → Shared → Type 0
MayFollow n rows m s = (s.process < n) × Answers n rows m s.process s.act

-- each step can come next after those before it
abbrev pub IsLegalFrom : ℕ → ℕ → Memory → List Shared → Type 0
IsLegalFrom n rows m [] = Unit {0}
IsLegalFrom n rows m (s ∷ steps) = MayFollow n rows m s × IsLegalFrom n rows (after m s) steps

abbrev pub IsLegal : ℕ → ℕ → List Shared → Type 0
IsLegal n rows history = IsLegalFrom n rows (start_memory n rows) history

-- the tickets after an act of process `p`: an exchange that won is a stamp
abbrev pub ticketed : ℕ → SharedAct → List ℕ → List ℕ
ticketed p (Load found) tickets = tickets
ticketed p (Won old new) tickets = stamp_ticket p tickets
ticketed p (Lost old found) tickets = tickets
ticketed p (Read r i v) tickets = tickets
ticketed p (Write r v) tickets = tickets
ticketed p (Clear old) tickets = clear_ticket p tickets

abbrev pub tickets_from : List ℕ → List Shared → List ℕ
tickets_from tickets [] = tickets
tickets_from tickets (s ∷ steps) = tickets_from (ticketed s.process s.act tickets) steps

abbrev pub tickets_of : ℕ → List Shared → List ℕ
tickets_of n history = tickets_from (start_tickets n) history
