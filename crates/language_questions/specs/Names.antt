-- The names that a question can have: those that its quantifiers bind, and the register rows of the program.
use Rattle.std.specs.Prelude.{ℕ, Bool, true, false, ◌||◌, is_some, if◌then◌else◌, List, map, take, Option, Some, None, Result, Ok, Err}
use Rattle.std.specs.List.{position}
use Rattle.std.specs.Str.{bytes_eq}
use Rattle.base.specs.declared.span.Span.{Span}
use Rattle.tick_kinds.specs.declared.kind.Kind.{Kind}
use Rattle.tick_kinds.specs.declared.kind.Kind.TheVariants as K
use Rattle.tick_kinds.specs.Declarations.{Slot}
use Rattle.language_questions.specs.declared.fault.QuestionFault.{QuestionFault}
use Rattle.language_questions.specs.declared.fault.QuestionFault.TheVariants as F
use Rattle.language_questions.specs.declared.scope.Scope.{Scope}

abbrev pub is_register : Kind → Bool
is_register K.Register = true
is_register _ = false

-- whether a name is declared as a register row
abbrev pub is_row : Option Slot → Bool
is_row None = false
is_row (Some slot) = is_register slot.0

-- the row of the name that stands here
abbrev pub row_by : Option Slot → Span → Result ℕ QuestionFault
row_by None span = Err (F.Unknown span)
row_by (Some slot) span = if is_register slot.0 then Ok slot.1 else Err (F.NotShared span)

-- the names that the quantifiers bind which a part of a question stands in, the outermost first
abbrev pub names_of : Scope → List (List ℕ)
names_of scope = map (λ name. name.now) (take scope.count scope.names)

-- the number of the quantifier that binds these letters
abbrev pub bound_number : List (List ℕ) → List ℕ → Option ℕ
bound_number names letters = position (λ name. bytes_eq name letters) names

-- whether these letters mean something already
abbrev pub is_taken : List (List ℕ) → Option Slot → List ℕ → Bool
is_taken names slot letters = is_some (bound_number names letters) || is_row slot
