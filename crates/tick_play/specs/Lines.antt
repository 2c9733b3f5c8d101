-- The lines that the texts of every kind of run have: a row of values, and how a process stands.
use Rattle.std.specs.Prelude.{ℕ, ◌+◌, List, [], ◌∷◌, ◌++◌, codes, map}
use Rattle.std.specs.Fmt.{decimal}
use Rattle.base.specs.Lines.{line_end, spaced}
use Rattle.base.specs.declared.status.Trap.{Trap}
use Rattle.base.specs.declared.status.Trap.TheVariants as T
use Rattle.base.specs.declared.status.Status.{Status}
use Rattle.base.specs.declared.status.Status.TheVariants as S

-- what the row is, its number, and its values
abbrev pub row_line : List ℕ → ℕ → List ℕ → List ℕ
row_line name number values = name ++ codes " " ++ decimal number ++ spaced (map decimal values) ++ line_end

-- rows from this number on
abbrev pub row_lines : List ℕ → ℕ → List (List ℕ) → List ℕ
row_lines name number [] = []
row_lines name number (values ∷ rows) = row_line name number values ++ row_lines name (number + 1) rows

abbrev pub register_lines : List (List ℕ) → List ℕ
register_lines rows = row_lines (codes "reg") 0 rows

abbrev pub trap_text : Trap → List ℕ
trap_text T.Overflow = codes "Overflow"
trap_text T.Below = codes "Below"
trap_text T.Zero = codes "Zero"
trap_text T.Index = codes "Index"

abbrev pub status_text : Status → List ℕ
status_text S.Running = codes "running"
status_text S.Ended = codes "ended"
status_text (S.Trapped t) = codes "trapped " ++ trap_text t

abbrev pub status_line : ℕ → List ℕ → List ℕ
status_line p text = codes "status " ++ decimal p ++ codes " " ++ text ++ line_end

-- processes from number `p` on
abbrev pub status_lines : ℕ → List (List ℕ) → List ℕ
status_lines p [] = []
status_lines p (text ∷ texts) = status_line p text ++ status_lines (p + 1) texts
