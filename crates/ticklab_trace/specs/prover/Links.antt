-- The table of a program: for each statement the number of what comes next.
use Rattle.std.specs.Prelude.{◌≡◌, ℕ, suc, ◌+◌, ◌==◌, Bool, false, if◌then◌else◌, List, [], ◌∷◌, ◌++◌, length, slice_get, slice_index_or, Option, Some, None, Result, Ok, Err}
use Rattle.base.specs.declared.status.Trap.{Trap}
use Rattle.base.specs.declared.status.Status.{Status}
use Rattle.base.specs.declared.status.Status.TheVariants.{Running}
use Rattle.base.specs.Plain.{Statement, branch, repeat, Block, nil, cons, onto}
use Rattle.tick_kinds.specs.Resolved.{resolved_statement}
use Rattle.tick_source.specs.Values.{value}
use Rattle.tick_source.specs.Source.{SourceProcess}
use Rattle.ticklab_trace.specs.declared.links.Link.{Link}
use Rattle.ticklab_trace.specs.declared.steps.Scanned.{Scanned}
use Rattle.ticklab_trace.specs.StatementSteps.{taken_by, target}
use Rattle.ticklab_trace.specs.Numbers.{size, size_of, remains, inside}

-- what remains after a statement, and where its test is 0
abbrev pub rest_next : Statement ℕ → Block ℕ → Block ℕ
rest_next (branch e a b) rest = onto a rest
rest_next (repeat e a) rest = onto a (cons (repeat e a) rest)
rest_next _ rest = rest

abbrev pub rest_past : Statement ℕ → Block ℕ → Block ℕ
rest_past (branch e a b) rest = onto b rest
rest_past _ rest = rest

-- At number `k` the statement of a link is the next, and its numbers are those of what may come then.
-- `R` says what remains at each number.
pub record IsLinked (R : ℕ → Block ℕ) (k : ℕ) (link : Link) : Type 0 where
  pub rest : Block ℕ
  pub here : R k ≡ cons (resolved_statement link.statement.now) rest
  pub next : R link.next ≡ rest_next (resolved_statement link.statement.now) rest
  pub past : R link.past ≡ rest_past (resolved_statement link.statement.now) rest

abbrev pub AreLinked : (ℕ → Block ℕ) → ℕ → List Link → Type 0
AreLinked R k [] = Unit {0}
AreLinked R k (link ∷ links) = IsLinked R k link × AreLinked R (suc k) links

-- from number `k` on this remains
abbrev pub AreAt : (ℕ → Block ℕ) → ℕ → List (Block ℕ) → Type 0
AreAt R k [] = Unit {0}
AreAt R k (rest ∷ rests) = (R k ≡ rest) × AreAt R (suc k) rests

-- where a block begins, of which `first` would be the number: past it, where it is empty
abbrev pub Begins : Block ℕ → ℕ → ℕ → ℕ → Type 0
Begins nil first after begin = begin ≡ after
Begins (cons s b) first after begin = begin ≡ first

-- The links of a block after which a process goes on at `after`.
pub record Adds (block : Block ℕ) (after : ℕ) (old new : List Link) : Type 0 where
  pub links : List Link
  pub list : new ≡ old ++ links
  pub count : length links ≡ size block
  pub linked : (R : ℕ → Block ℕ) → AreAt R (length old) (remains block (R after)) → AreLinked R (length old) links

-- The links of a statement, and of those in its blocks, where a process goes on at `after`.
pub record AddsOne (s : Statement ℕ) (after : ℕ) (old new : List Link) : Type 0 where
  pub links : List Link
  pub list : new ≡ old ++ links
  pub count : length links ≡ size_of s
  pub linked : (R : ℕ → Block ℕ) → R (length old) ≡ cons s (R after) → AreAt R (suc (length old)) (inside s (R after))
      → AreLinked R (length old) links

-- The links of a block of which `rest` is still to be done.
pub record Adding (block rest : Block ℕ) (after : ℕ) (old new : List Link) : Type 0 where
  pub links : List Link
  pub list : new ≡ old ++ links
  pub count : length links + size rest ≡ size block
  pub linked : (R : ℕ → Block ℕ) → AreAt R (length old) (remains block (R after))
      → AreLinked R (length old) links × AreAt R (length new) (remains rest (R after))

-- a statement without blocks
abbrev pub IsPlain : Statement ℕ → Type 0
IsPlain (branch e a b) = ⊥
IsPlain (repeat e a) = ⊥
IsPlain _ = Unit {0}

-- what remains of a program at a number; past the last statement nothing
abbrev pub rest_at : Block ℕ → ℕ → Block ℕ
rest_at body k = slice_index_or (remains body nil) k nil

pub record IsTable (body : Block ℕ) (links : List Link) : Type 0 where
  pub count : length links ≡ length (remains body nil)
  pub each : (k : ℕ) (link : Link) → slice_get links k ≡ Some link → IsLinked (rest_at body) k link

-- whether the test of a statement is 0
abbrev pub is_zero : Result ℕ Trap → Bool
is_zero (Ok v) = v == 0
is_zero (Err t) = false

abbrev pub is_past : ℕ → ℕ → List ℕ → Statement ℕ → Bool
is_past n p variables (branch e a b) = is_zero (value n p variables e)
is_past n p variables (repeat e a) = is_zero (value n p variables e)
is_past n p variables _ = false

-- the number after that of a link
abbrev pub went : ℕ → ℕ → List ℕ → ℕ → Option Link → ℕ
went n p variables k None = k
went n p variables k (Some link) = if is_past n p variables (resolved_statement link.statement.now) then link.past else link.next

-- the link of a number, where the process runs
abbrev pub link_at : List Link → ℕ → Status → Option Link
link_at links k Running = slice_get links k
link_at links k _ = None

-- the variable that its statement writes
abbrev pub linked_target : Option Link → Option ℕ
linked_target None = None
linked_target (Some link) = target (resolved_statement link.statement.now)

-- and the scan that it takes or copies
abbrev pub linked_taken : Option Link → Option Scanned
linked_taken None = None
linked_taken (Some link) = taken_by (resolved_statement link.statement.now)

-- A process that runs has come to this number.
abbrev pub HasCome : Block ℕ → ℕ → Option SourceProcess → Type 0
HasCome body k None = Unit {0}
HasCome body k (Some q) = rest_at body k ≡ q.rest
