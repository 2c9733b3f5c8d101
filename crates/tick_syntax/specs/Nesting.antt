-- How many brackets are open in a list of tokens. `Grammar` says how deeply those of a tree are nested.
use Rattle.std.specs.Prelude.{ℕ, suc, ◌-◌, ◌≤◌, List, [], ◌∷◌}
use Rattle.tick_syntax.specs.declared.terminals.Terminal.TheVariants as T
use Rattle.tick_syntax.specs.Lexeme.{Lexeme, a_terminal}

-- an opening `(` or `{`
abbrev pub IsOpening : Lexeme → Type 0
IsOpening (a_terminal T.Open) = Unit {0}
IsOpening (a_terminal T.OpenBrace) = Unit {0}
IsOpening _ = ⊥

-- how many brackets are open after a token, where so many were before
abbrev pub open_by : Lexeme → ℕ → ℕ
open_by (a_terminal T.Open) depth = suc depth
open_by (a_terminal T.OpenBrace) depth = suc depth
open_by (a_terminal T.Close) depth = depth - 1
open_by (a_terminal T.CloseBrace) depth = depth - 1
open_by _ depth = depth

abbrev pub open_after : List Lexeme → ℕ → ℕ
open_after [] depth = depth
open_after (t ∷ ts) depth = open_after ts (open_by t depth)

-- no more than 64 are open at once
abbrev pub IsShallow : List Lexeme → ℕ → Type 0
IsShallow [] depth = Unit {0}
IsShallow (t ∷ ts) depth = (open_by t depth ≤ 64) × IsShallow ts (open_by t depth)
