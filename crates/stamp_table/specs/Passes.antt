-- A pass holds some of the processes of a table, and has seen a beginning of its history.
use Rattle.std.specs.Prelude.{◌≡◌, ◌↔◌, ℕ, ◌==◌, nat_lt, Bool, true, false, ◌||◌, if◌then◌else◌, List, [], ◌∷◌, ◌++◌, length, slice_index_or, All, Any}
use Rattle.std.specs.List.{filter}
use Rattle.atomic_table.specs.Seated.{TableId}
use Rattle.word_core.specs.History.{Memory, memory_of, IsLegal}
use Rattle.word_core.specs.declared.history.Shared.{Shared}
use Rattle.word_core.specs.declared.history.SharedAct.{SharedAct}

-- process `p` is held; each of six processes has an entry
abbrev pub Holds : List Bool → ℕ → Type 0
Holds held p = slice_index_or held p false ≡ true

abbrev pub none_held : List Bool
none_held = false ∷ false ∷ false ∷ false ∷ false ∷ false ∷ []

-- the first `n` processes are held
abbrev pub first_held : ℕ → List Bool
first_held n = nat_lt 0 n ∷ nat_lt 1 n ∷ nat_lt 2 n ∷ nat_lt 3 n ∷ nat_lt 4 n ∷ nat_lt 5 n ∷ []

-- what either holds is held
abbrev pub together : List Bool → List Bool → List Bool
together [] others = others
together (here ∷ held) [] = here ∷ held
together (here ∷ held) (there ∷ others) = (here || there) ∷ together held others

abbrev pub by : ℕ → SharedAct → Shared
by p act = record { process = p; act = act }

-- the steps of process `p`, in their order
abbrev pub mine : ℕ → List Shared → List Shared
mine p steps = filter (λ (s : Shared). s.process == p) steps

abbrev pub StartsWith : List Shared → List Shared → Type 0
StartsWith steps front = (rest : List Shared) × (steps ≡ front ++ rest)

-- the longer of two lists of steps
abbrev pub longer : List Shared → List Shared → List Shared
longer steps others = if nat_lt (length steps) (length others) then others else steps

-- a table, its number of processes and its number of register rows
pub record TableView : Type 0 where
  pub id : TableId
  pub n : ℕ
  pub rows : ℕ

-- the table that a pass is of, which processes it holds, and the steps that it has seen, all from the
-- start on
pub record PassView : Type 0 where
  pub table : TableView
  pub held : List Bool
  pub seen : List Shared

-- Step `s` came last in a legal history that begins with the steps seen before. What stands between is
-- of processes that are not held.
pub record Extends (n rows : ℕ) (held : List Bool) (before : List Shared) (s : Shared) (after : List Shared) : Type 0 where
  pub between : List Shared
  pub is : after ≡ (before ++ between) ++ s ∷ []
  pub others : (p : ℕ) → Holds held p → mine p between ≡ []
  pub legal : IsLegal n rows after

-- what a step makes of the pass that it was made with
pub record Appends (old : PassView) (s : Shared) (new : PassView) : Type 0 where
  pub table : new.table ≡ old.table
  pub held : new.held ≡ old.held
  pub extends : Extends old.table.n old.table.rows old.held old.seen s new.seen

-- Two passes met: the new one holds what either held, and has seen the longer list, which begins with
-- the shorter. The steps of each process that it holds are what they were.
pub record Meets (first second met : PassView) : Type 0 where
  pub table : met.table ≡ first.table
  pub held : met.held ≡ together first.held second.held
  pub seen : met.seen ≡ longer first.seen second.seen
  pub first_front : StartsWith met.seen first.seen
  pub second_front : StartsWith met.seen second.seen
  pub first_mine : (p : ℕ) → Holds first.held p → mine p met.seen ≡ mine p first.seen
  pub second_mine : (p : ℕ) → Holds second.held p → mine p met.seen ≡ mine p second.seen
  pub legal : IsLegal first.table.n first.table.rows met.seen

-- Any number of passes of a table met: the new one holds what any of them held, and has seen the longest
-- of their lists, which begins with each. The steps of each process that it holds are what they were in
-- the pass that held it. The list is a legal history.
pub record AllMeet (t : TableView) (passes : List PassView) (met : PassView) : Type 0 where
  pub table : met.table ≡ t
  pub held : (p : ℕ) → Holds met.held p ↔ Any (λ (pass : PassView). Holds pass.held p) passes
  pub seen : Any (λ (pass : PassView). met.seen ≡ pass.seen) passes
  pub fronts : All (λ (pass : PassView). StartsWith met.seen pass.seen) passes
  pub all_mine : All (λ (pass : PassView). (p : ℕ) → Holds pass.held p → mine p met.seen ≡ mine p pass.seen) passes
  pub legal : IsLegal t.n t.rows met.seen

-- the pass of all processes of a table that has seen nothing yet
abbrev pub whole : TableView → PassView
whole t = record { table = t; held = first_held t.n; seen = [] }

-- the pass with these processes that has seen as much
abbrev pub part : PassView → List Bool → PassView
part pass held = record { table = pass.table; held = held; seen = pass.seen }

-- what the steps that a pass has seen leave in the shared memory
abbrev pub memory_seen : PassView → Memory
memory_seen pass = memory_of pass.table.n pass.table.rows pass.seen
