-- How many tokens a section has; the heads of one statement and of those in its blocks, and where they stand.
use Rattle.std.specs.Prelude.{◌≡◌, ℕ, zero, suc, ◌+◌, ◌*◌, ◌<◌, ◌≤◌, List, ◌∷◌, drop, length, take}
use Rattle.std.specs.Str.{IsCharBoundary}
use Rattle.base.specs.declared.span.Span.{Span}
use Rattle.tick_syntax.specs.declared.token.Token.{Token}
use Rattle.base.specs.Plain.{Name, Statement}
use Rattle.ticklab_trace.specs.Places.{extent, first_place, head_tokens, inner_heads, place_after}
use Rattle.ticklab_trace.specs.declared.spots.Passed.{Passed}

-- a section of so many names, which is left out where it has none
abbrev pub names_count : ℕ → ℕ
names_count zero = 0
names_count (suc k) = 2 * suc k + 1

abbrev pub whole_heads : List Token → Statement Name → List Span
whole_heads tokens s =
    extent (take (length (head_tokens s)) tokens) ∷ inner_heads (drop (length (head_tokens s)) tokens) s

-- where it has bytes, a text can be cut where it begins and where it ends
abbrev pub IsCut : List ℕ → Span → Type 0
IsCut text span = span.start < span.end → IsCharBoundary text span.start × IsCharBoundary text span.end

-- so many bytes of a text were passed
pub record HasPassed (bytes : List ℕ) (passed : Passed) : Type 0 where
  pub within : passed.at ≤ length bytes
  pub place : passed.place ≡ place_after first_place (take passed.at bytes)
  pub line : passed.place.line ≤ 1 + passed.at
  pub column : passed.place.column ≤ 1 + passed.at
