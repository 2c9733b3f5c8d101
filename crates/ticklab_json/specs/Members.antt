-- The parts of objects, and objects in lines.
use Rattle.std.specs.Prelude.{ℕ, List, [], ◌∷◌, ◌++◌, Option, Some, None, codes}
use Rattle.base.specs.Lines.{line_end}
use Rattle.serde_json.specs.Data.{Data, number, string, unsigned, Members, no_members, member, put}
use Rattle.serde_json.specs.Written.{compact_text}

abbrev pub count : ℕ → Data
count n = number (unsigned n)

-- these members, with this one where its key belongs, if there is one
abbrev pub with_member : List ℕ → Option Data → Members → Members
with_member key None members = members
with_member key (Some value) members = put key value members

-- the answer on the file of this name
abbrev pub answer_members : List ℕ → List ℕ → Members
answer_members answer name = member (codes "answer") (string answer) (member (codes "file") (string name) no_members)

-- a line for each
abbrev pub lines : List Data → List ℕ
lines [] = []
lines (value ∷ rest) = compact_text value ++ line_end ++ lines rest
