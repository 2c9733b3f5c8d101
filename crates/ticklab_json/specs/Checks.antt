-- What files come to, as an object.
use Rattle.std.specs.Prelude.{ℕ, true, List, codes, map, Option, Some, None, string_bytes}
use Rattle.std.specs.List.{zip}
use Rattle.std.specs.Str.Lossy.{utf8_lossy}
use Rattle.serde_json.specs.Data.{Data, boolean, string, array, object, Members, no_members, member, put}
use Rattle.serde_json.specs.View.{items_of}
use Rattle.ticklab_check.specs.Comparing.{comparison_of}
use Rattle.ticklab_check.specs.Wording.{expected_text}
use Rattle.ticklab_check.specs.Words.{found_word, states_of}
use Rattle.ticklab_check.specs.declared.checked.Checked.{Checked}
use Rattle.ticklab_check.specs.declared.checked.Checked.TheVariants as C
use Rattle.ticklab_check.specs.declared.checked.Timed.{Timed}
use Rattle.ticklab_check.specs.declared.checked.Comparison.{Comparison}
use Rattle.ticklab_check.specs.declared.checked.Comparison.TheVariants as V
use Rattle.ticklab_check.specs.declared.reporting.Findings.{Findings}
use Rattle.ticklab_check.specs.declared.source.Source.{Source}
use Rattle.ticklab_json.specs.Members.{count}

abbrev pub checked_word : Checked → List ℕ
checked_word (C.Refused report) = codes "refused"
checked_word (C.Searched found expected lines) = found_word found

abbrev pub verdict_word : Comparison → List ℕ
verdict_word V.AsExpected = codes "as-expected"
verdict_word V.Otherwise = codes "otherwise"
verdict_word V.Limit = codes "limit"

-- how many merged states there are, where that is known
abbrev pub with_states : Option ℕ → Members → Members
with_states None members = members
with_states (Some states) members = put (codes "states") (count states) (put (codes "merged") (boolean true) members)

-- the report of a file that is refused, whose bytes that are no UTF-8 are told as U+FFFD; of any other what was expected,
-- its states, and how many of its lines ask something
abbrev pub with_checked : Checked → Members → Members
with_checked (C.Refused report) members = put (codes "report") (string (utf8_lossy report.items)) members
with_checked (C.Searched found expected lines) members =
    put (codes "lines") (count lines)
    (with_states (states_of found) (put (codes "expected") (string (expected_text expected)) members))

-- what every file has
abbrev pub file_members : Source → Timed → Members
file_members source timed =
    member (codes "answer") (string (checked_word timed.checked)) (member (codes "file") (string (string_bytes source.name))
    (member (codes "hundredths") (count timed.hundredths) (member (codes "verdict") (string (verdict_word (comparison_of timed.checked))) no_members)))

abbrev pub file_data : Source → Timed → Data
file_data source timed = object (with_checked timed.checked (file_members source timed))

-- an object for each file, in order
abbrev pub file_list : List Source → List Timed → List Data
file_list sources timed = map (λ file. file_data file.0 file.1) (zip sources timed)

-- with how many files there are of each verdict
abbrev pub findings_members : List Data → Findings → Members
findings_members files f =
    member (codes "as_expected") (count f.tally.as_expected) (member (codes "files") (array (items_of files))
    (member (codes "limit") (count f.tally.limit) (member (codes "otherwise") (count f.tally.otherwise) no_members)))

abbrev pub findings_data : List Source → Findings → Data
findings_data sources f = object (findings_members (file_list sources f.files.items) f)
