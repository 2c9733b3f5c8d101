-- What is wrong with a file, as an object.
use Rattle.std.specs.Prelude.{List, ℕ, Option, Some, None, String, codes, option_map, string_bytes}
use Rattle.std.specs.Global.{Global}
use Rattle.serde_json.specs.Data.{Data, string, object, Members, no_members, member, put}
use Rattle.ticklab_explain.specs.declared.explanation.Explanation.{Explanation}
use Rattle.ticklab_explain.specs.declared.place.Place.{Place}
use Rattle.ticklab_json.specs.Members.{answer_members, count, with_member}

-- that nothing is
abbrev pub fine_data : List ℕ → Data
fine_data name = object (answer_members (codes "fine") name)

abbrev pub text_data : String Global → Data
text_data text = string (string_bytes text)

abbrev pub with_line : Option Place → Members → Members
with_line None members = members
with_line (Some place) members = put (codes "line") (count place.line) (put (codes "column") (count place.column) members)

-- the fault of the file of this name: where it is, what is wrong, what may help, and the line of `ticketc`
abbrev pub explanation_members : List ℕ → Explanation → Members
explanation_members name e =
    with_member (codes "ticketc") (option_map text_data e.ticketc)
    (with_member (codes "hint") (option_map text_data e.hint)
    (with_line e.place
    (member (codes "answer") (string (codes "refused")) (member (codes "file") (string name)
    (member (codes "message") (text_data e.message) no_members)))))

abbrev pub explanation_data : List ℕ → Explanation → Data
explanation_data name e = object (explanation_members name e)
