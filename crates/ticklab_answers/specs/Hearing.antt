-- What files come to is written to standard output.
use Rattle.std.specs.Prelude.{◌≡◌, ⊤, ℕ, List, length, string_bytes}
use Rattle.searches_states.specs.declared.limits.Limits.{Limits}
use Rattle.ticklab_check.specs.Listening.{Hears, shared_limits}
use Rattle.ticklab_check.specs.Wording.{AreFindings, file_text, status_of}
use Rattle.ticklab_check.specs.declared.checked.Timed.{Timed}
use Rattle.ticklab_check.specs.declared.fault.CheckFault.{CheckFault}
use Rattle.ticklab_check.specs.declared.fault.CheckFault.TheVariants.{Unheard, NoMemory}
use Rattle.ticklab_check.specs.declared.reporting.Findings.{Findings}
use Rattle.ticklab_check.specs.declared.source.Source.{Source}
use Rattle.ticklab_answers.specs.Checks.{findings_in}
use Rattle.ticklab_answers.specs.Colours.{shown_as}
use Rattle.ticklab_answers.specs.Serving.{Grows, Known, all_shown}
use Rattle.ticklab_answers.specs.declared.host.Host.{Host}
use Rattle.ticklab_files.specs.Faults.{Causes, IsOfMemory, IsSaid}
use Rattle.ticklab_files.specs.declared.fault.LabFault.{LabFault}
use Rattle.ticklab_files.specs.declared.fault.LabFault.TheVariants.{Words, Unread, Unwritten, Answer}
use Rattle.ticklab_files.specs.declared.form.Form.{Form}
use Rattle.ticklab_files.specs.declared.form.Form.TheVariants.{Text, Json}
use Rattle.ticklab_files.specs.Responses.{Gives}
use Rattle.ticklab_files.specs.declared.response.Response.{Response}

-- The lines of a file are written to standard output, with its colours; all else of the host is as before.
pub record WritesFile {F O T : Type 0} (contents : O → Known) (before : Host F O T) (source : Source) (timed : Timed) (after : Host F O T) : Type 0 where
  pub version : after.version ≡ before.version
  pub files : after.files ≡ before.files
  pub err : after.err ≡ before.err
  pub colours : after.colours ≡ before.colours
  pub out : Grows (contents before.out) (contents after.out) (shown_as before.colours.out (file_text source timed))

-- memory or a thread was refused, or something can't be written, which R says may be
abbrev pub IsUnwritten : Type 0 → LabFault → Type 0
IsUnwritten R (Words cause) = ⊥
IsUnwritten R (Unread name cause) = ⊥
IsUnwritten R (Unwritten cause) = R
IsUnwritten R (Answer fault) = ⊤

-- what is told of why files aren't checked to the last
abbrev pub IsFaultOf : CheckFault → LabFault → Type 0
IsFaultOf (Unheard error) fault = IsSaid error fault
IsFaultOf NoMemory fault = IsOfMemory fault

-- These texts are written to standard output, each with its colours, and files may have been read; all else of the host is as
-- before.
pub record WritesAll {F O T : Type 0} (contents : O → Known) (before after : Host F O T) (written : List (List ℕ)) : Type 0 where
  pub version : after.version ≡ before.version
  pub err : after.err ≡ before.err
  pub colours : after.colours ≡ before.colours
  pub out : Grows (contents before.out) (contents after.out) (all_shown before.colours.out written)

abbrev pub IsText : Form → Type 0
IsText Text = ⊤
IsText Json = ⊥

-- Memory or a thread was refused, a file can't be read of whose name P holds, or the lines of files can't be written. The
-- causes say why a file can't be read.
abbrev pub IsOfCheck : Causes → (List ℕ → Type 0) → Form → LabFault → Type 0
IsOfCheck U P form (Words cause) = ⊥
IsOfCheck U P form (Unread name cause) = P (string_bytes name) × U (string_bytes name) cause
IsOfCheck U P form (Unwritten cause) = IsText form
IsOfCheck U P form (Answer fault) = ⊤

-- These files are checked, at most so many at once, the listener hears of them, and this is the answer in the end.
pub record IsToldOf {L : Type 0} (hears : L → Source → Timed → L → Type 0) (before after : L) (at_once : ℕ) (sources : List Source) (limits : Limits)
    (form : Form) (response : Response) : Type 0 where
  pub findings : Findings
  pub are : AreFindings (shared_limits at_once (length sources) limits) sources findings
  pub heard : Hears hears before sources findings.files.items after
  pub gives : Gives (status_of findings.tally) (λ out. out ≡ findings_in form sources findings) response
