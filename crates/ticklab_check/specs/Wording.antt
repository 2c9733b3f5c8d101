-- What is told of files, line by line, and the exit status.
use Rattle.std.specs.Prelude.{◌≡◌, ◌+◌, ◌/◌, ◌%◌, ◌==◌, ◌++◌, ℕ, List, [], ◌∷◌, Option, Some, None, codes, if◌then◌else◌, map, string_bytes}
use Rattle.std.specs.List.{AllZip, zip}
use Rattle.std.specs.Fmt.{decimal}
use Rattle.language_questions.specs.declared.questions.Expected.{Expected}
use Rattle.language_questions.specs.declared.questions.Expected.TheVariants as X
use Rattle.searches_states.specs.declared.limits.Limits.{Limits}
use Rattle.ticklab_check.specs.Checking.{SourceComesTo}
use Rattle.ticklab_check.specs.Comparing.{compared, comparison_of}
use Rattle.ticklab_check.specs.Words.{found_word, states_of}
use Rattle.ticklab_check.specs.declared.checked.Checked.{Checked}
use Rattle.ticklab_check.specs.declared.checked.Checked.TheVariants as C
use Rattle.ticklab_check.specs.declared.checked.Timed.{Timed}
use Rattle.ticklab_check.specs.declared.checked.Comparison.{Comparison}
use Rattle.ticklab_check.specs.declared.checked.Comparison.TheVariants as V
use Rattle.ticklab_check.specs.declared.found.Found.{Found}
use Rattle.ticklab_check.specs.declared.found.Found.TheVariants as F
use Rattle.ticklab_check.specs.declared.reporting.Findings.{Findings}
use Rattle.ticklab_check.specs.declared.source.Source.{Source}
use Rattle.ticklab_check.specs.declared.tally.Tally.{Tally}

-- its word, and more where that alone says little
abbrev pub found_text : Found → List ℕ
found_text F.Never = codes "broken #! never line"
found_text (F.NotWaitFree states) = codes "not wait-free"
found_text (F.NotAlone states) = codes "not alone"
found_text found = found_word found

-- the word behind `#! expect`
abbrev pub expected_text : Expected → List ℕ
expected_text X.Safe = codes "safe"
expected_text X.Trap = codes "trap"
expected_text X.Never = codes "never"
expected_text X.Stuck = codes "stuck"
expected_text X.NotWaitFree = codes "not_wait_free"
expected_text X.NotAlone = codes "not_alone"

-- how it compares with what was expected: of a safe program that was expected to be safe nothing is said
abbrev pub verdict_text : Comparison → Expected → List ℕ
verdict_text V.AsExpected X.Safe = []
verdict_text V.AsExpected expected = codes ", as expected"
verdict_text V.Otherwise expected = codes ", but " ++ expected_text expected ++ codes " was expected"
verdict_text V.Limit expected = []

abbrev pub merged_text : ℕ → List ℕ
merged_text states = decimal states ++ (if states == 1 then codes " merged state" else codes " merged states")

-- how many there are, behind a comma
abbrev pub behind_text : Option ℕ → List ℕ
behind_text None = []
behind_text (Some states) = codes ", " ++ merged_text states

-- that there are more than so many, behind a comma
abbrev pub more_text : ℕ → List ℕ
more_text states = codes ", more than " ++ merged_text states

-- how many states there are, where that is known
abbrev pub states_text : Found → List ℕ
states_text (F.Limit states) = more_text states
states_text found = behind_text (states_of found)

-- how many lines of a file ask something, behind a comma
abbrev pub lines_text : ℕ → List ℕ
lines_text lines =
    if lines == 0 then codes ", no line asked"
    else (codes ", " ++ decimal lines ++ (if lines == 1 then codes " line" else codes " lines"))

-- hundredths of a second, as seconds
abbrev pub seconds_text : ℕ → List ℕ
seconds_text hundredths =
    decimal (hundredths / 100) ++ codes "." ++ decimal (hundredths / 10 % 10) ++ decimal (hundredths % 10) ++ codes " s\n"

abbrev pub searched_line : Found → Expected → ℕ → ℕ → List ℕ
searched_line found expected lines hundredths =
    found_text found ++ verdict_text (compared found expected) expected ++ states_text found ++ lines_text lines ++ codes ", "
    ++ seconds_text hundredths

-- behind the name of a file; the report of a refused one stands below it
abbrev pub checked_text : Checked → ℕ → List ℕ
checked_text (C.Refused report) hundredths = codes ": refused\n" ++ report.items
checked_text (C.Searched found expected lines) hundredths = codes ": " ++ searched_line found expected lines hundredths

abbrev pub file_text : Source → Timed → List ℕ
file_text source timed = string_bytes source.name ++ checked_text timed.checked timed.hundredths

-- those of all files, in order
abbrev pub files_lines : List Source → List Timed → List (List ℕ)
files_lines sources timed = map (λ file. file_text file.0 file.1) (zip sources timed)

-- how many files there are of each verdict
abbrev pub counted : Comparison → Tally → Tally
counted V.AsExpected t = record t { as_expected = t.as_expected + 1 }
counted V.Otherwise t = record t { otherwise = t.otherwise + 1 }
counted V.Limit t = record t { limit = t.limit + 1 }

-- with these after others
unfoldable pub tallied : Tally → List Timed → Tally
tallied t [] = t
tallied t (timed ∷ more) = tallied (counted (comparison_of timed.checked) t) more

abbrev pub tally_of : List Timed → Tally
tally_of files = tallied (record { as_expected = 0; otherwise = 0; limit = 0 }) files

abbrev pub tally_text : Tally → List ℕ
tally_text t =
    decimal t.as_expected ++ codes " as expected, " ++ decimal t.otherwise ++ codes " not, " ++ decimal t.limit ++ codes " at the limit\n"

-- what isn't as expected counts more than the limit
abbrev pub status_of : Tally → ℕ
status_of t = if t.otherwise == 0 then (if t.limit == 0 then 0 else 6) else 5

-- Each file comes to what is found, in the order of the files, after however long a time; and so many there are of each
-- verdict.
pub record AreFindings (limits : Limits) (sources : List Source) (f : Findings) : Type 0 where
  pub come : AllZip (λ source timed. SourceComesTo limits source timed.checked) sources f.files.items
  pub tally : f.tally ≡ tally_of f.files.items
