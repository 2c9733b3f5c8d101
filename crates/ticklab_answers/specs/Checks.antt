-- What `check` answers: which files paths stand for, and what is told of them.
use Rattle.std.specs.Prelude.{◌≡◌, ◌⊎◌, ◌++◌, ◌<◌, ℕ, Bool, true, false, List, [], ◌∷◌, Option, Some, None, String, codes, eqb, if◌then◌else◌, length, map, string_bytes, string_cmp}
use Rattle.std.specs.Global.{Global}
use Rattle.std.specs.List.{ends_with, filter}
use Rattle.std.specs.List.Sorted.{IsPermutation, IsSorted}
use Rattle.searches_states.specs.declared.limits.Limits.{Limits}
use Rattle.ticklab_check.specs.Listening.{shared_limits}
use Rattle.ticklab_check.specs.Wording.{AreFindings, files_lines, status_of, tally_text}
use Rattle.ticklab_check.specs.declared.reporting.Findings.{Findings}
use Rattle.ticklab_check.specs.declared.source.Source.{Source}
use Rattle.ticklab_json.specs.Checks.{findings_data}
use Rattle.ticklab_json.specs.Members.{lines}
use Rattle.ticklab_files.specs.Reading.{IsRead, ListsOf, ReadsOf, ReadsInputOf, is_input, is_tick}
use Rattle.ticklab_files.specs.Responses.{Gives}
use Rattle.ticklab_files.specs.declared.form.Form.{Form}
use Rattle.ticklab_files.specs.declared.form.Form.TheVariants.{Text, Json}
use Rattle.ticklab_files.specs.declared.response.Response.{Response}

abbrev pub slash_after : List ℕ → List ℕ
slash_after folder = if ends_with eqb folder (codes "/") then [] else codes "/"

-- the name of a file in a folder: a slash stands between, unless the folder's name ends in one
abbrev pub name_in : List ℕ → List ℕ → List ℕ
name_in folder file = folder ++ slash_after folder ++ file

-- the names of the `.tick` files among what is in a folder, in byte order, of which there is at least one
pub record AreIn (folder : List ℕ) (entries : List (String Global)) (names : List (List ℕ)) : Type 0 where
  pub files : List (String Global)
  pub all : IsPermutation (filter (λ entry. is_tick (string_bytes entry)) entries) files
  pub in_order : IsSorted string_cmp files
  pub some : 0 < length files
  pub named : names ≡ map (λ file. name_in folder (string_bytes file)) files

-- the files that a path stands for: itself, or what is in the folder of this name
abbrev pub StandsFor : List ℕ → Option (List (String Global)) → List (List ℕ) → Type 0
StandsFor path None names = names ≡ path ∷ []
StandsFor path (Some entries) names = AreIn path entries names

-- a file that a path may stand for
abbrev pub IsUnder : List ℕ → List ℕ → Type 0
IsUnder name path = (name ≡ path) ⊎ ((file : List ℕ) × (name ≡ name_in path file))

abbrev pub IsUnderOne : List (List ℕ) → List ℕ → Type 0
IsUnderOne [] name = ⊥
IsUnderOne (path ∷ paths) name = IsUnder name path ⊎ IsUnderOne paths name

-- this name is one of these
abbrev pub IsAmong : List (List ℕ) → List ℕ → Type 0
IsAmong [] name = ⊥
IsAmong (one ∷ names) name = (name ≡ one) ⊎ IsAmong names name

module _ {F : Type 0} (Lists : ListsOf F) where
  -- standard input is no folder
  abbrev pub IsNamedBy : Bool → F → List ℕ → List (List ℕ) → F → Type 0
  IsNamedBy true before path names after = (names ≡ path ∷ []) × (after ≡ before)
  IsNamedBy false before path names after = (found : Option (List (String Global))) × Lists before path found after × StandsFor path found names

  abbrev pub IsNamed : F → List ℕ → List (List ℕ) → F → Type 0
  IsNamed before path names after = IsNamedBy (is_input path) before path names after

  -- the files that paths stand for, in the order of the paths
  abbrev pub AreNamed : F → List (List ℕ) → List (List ℕ) → F → Type 0
  AreNamed before [] names after = (names ≡ []) × (after ≡ before)
  AreNamed before (path ∷ paths) names after =
      (first more : List (List ℕ)) × (between : F) × IsNamed before path first between × AreNamed between paths more after × (names ≡ first ++ more)

module _ {F : Type 0} (Reads : ReadsOf F) (ReadsInput : ReadsInputOf F) where
  -- each file is read, one after the other
  abbrev pub AreRead : F → List (List ℕ) → List Source → F → Type 0
  AreRead before [] sources after = (sources ≡ []) × (after ≡ before)
  AreRead before (name ∷ names) [] after = ⊥
  AreRead before (name ∷ names) (source ∷ sources) after =
      (between : F) × IsRead Reads ReadsInput before name source.bytes.items between × (string_bytes source.name ≡ name)
      × AreRead between names sources after

-- for people the last line, or all of it as JSON
abbrev pub findings_in : Form → List Source → Findings → List ℕ
findings_in Text sources f = tally_text f.tally
findings_in Json sources f = lines (findings_data sources f ∷ [])

-- what is written before that: for people the lines of each file
abbrev pub written_before : Form → List Source → Findings → List (List ℕ)
written_before Text sources f = files_lines sources f.files.items
written_before Json sources f = []

-- These files are checked, at most so many at once, and what they come to is told.
pub record TellsFindings (limits : Limits) (at_once : ℕ) (sources : List Source) (form : Form) (written : List (List ℕ)) (response : Response) : Type 0 where
  pub findings : Findings
  pub are : AreFindings (shared_limits at_once (length sources) limits) sources findings
  pub before : written ≡ written_before form sources findings
  pub gives : Gives (status_of findings.tally) (λ out. out ≡ findings_in form sources findings) response

-- All folders are listed, then all files are read, and then they are checked. Before the answer these texts are written.
pub record ChecksAll {F : Type 0} (Reads : ReadsOf F) (ReadsInput : ReadsInputOf F) (Lists : ListsOf F) (before after : F) (paths : List (List ℕ)) (limits : Limits)
    (at_once : ℕ) (form : Form) (written : List (List ℕ)) (response : Response) : Type 0 where
  pub names : List (List ℕ)
  pub listed : F
  pub named : AreNamed Lists before paths names listed
  pub sources : List Source
  pub read : AreRead Reads ReadsInput listed names sources after
  pub told : TellsFindings limits at_once sources form written response
