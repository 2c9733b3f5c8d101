-- What the whole program does: what it reads, runs and writes, and its exit status.
use Rattle.std.specs.Prelude.{◌≡◌, ◌++◌, ◌⊎◌, ℕ, Bool, IfErr, IfOk, List, [], Option, Result, Ok, Err}
use Rattle.std.specs.List.{flat_map}
use Rattle.std.specs.Io.KnownBytes.{Appends}
use Rattle.std.specs.declared.io.Error.{Error}
use Rattle.ticklab_answers.specs.Answers.{AsksLine, GivenWords, IsOfWordsOrFile, RespondsTo, is_data}
use Rattle.ticklab_files.specs.Reading.{ListsOf}
use Rattle.ticklab_answers.specs.Colours.{colours_for, shown_as}
use Rattle.ticklab_verdicts.specs.Hearing.{HearsOf}
use Rattle.ticklab_files.specs.Faults.{Causes, IsOfOutput, status_of}
use Rattle.ticklab_files.specs.Reading.{ReadsOf, ReadsInputOf}
use Rattle.ticklab_verdicts.specs.Tallies.{RunsOf}
use Rattle.ticklab_answers.specs.declared.colours.Colours.{Colours}
use Rattle.ticklab_files.specs.declared.fault.LabFault.{LabFault}
use Rattle.ticklab_files.specs.declared.response.Response.{Response}

-- what an output holds, where that is known
abbrev pub Known : Type 0
Known = Option (List ℕ)

-- what both outputs hold
pub record Outputs : Type 0 where
  pub out : Known
  pub err : Known

-- an output grows by these bytes, and is left alone where there are none
pub record Grows (old new : Known) (bytes : List ℕ) : Type 0 where
  pub appended : Appends old new bytes
  pub untouched : bytes ≡ [] → new ≡ old

-- these texts one behind the other, each shown by itself
abbrev pub all_shown : Bool → List (List ℕ) → List ℕ
all_shown has_colours texts = flat_map (shown_as has_colours) texts

-- The status is that of a response. What is written before it is written, and then all of it, with these colours.
pub record IsWritten (colours : Colours) (old new : Outputs) (written : List (List ℕ)) (response : Response) (status : ℕ) : Type 0 where
  pub same : status ≡ response.status
  pub out : Grows old.out new.out (all_shown colours.out written ++ shown_as colours.out response.out.items)
  pub err : Grows old.err new.err (shown_as colours.err response.told.items)

-- The words ask for a line, and this is the response to it; JSON, SVG and HTML have no colours.
module _ {F M W : Type 0} (Reads : ReadsOf F) (ReadsInput : ReadsInputOf F) (Lists : ListsOf F) (Ran : RunsOf M) (hears : HearsOf W)
    (files read : F) (rested ran : M) (quiet heard : W) where
  abbrev pub Shows : List ℕ → Colours → Result GivenWords Error → (Colours → List (List ℕ) → Response → Type 0) → Type 0
  Shows version colours given P = AsksLine version given (λ l. (written : List (List ℕ)) × (response : Response)
      × RespondsTo Reads ReadsInput Lists Ran hears files read rested ran quiet heard l written response
      × P (colours_for colours (is_data l)) written response)

  -- What the words come to in a program of this version, over files, a runner, a watch and outputs as they are before and
  -- after, with these colours.
  abbrev pub Ends : Outputs → Outputs → List ℕ → Colours → Result GivenWords Error → ℕ → Type 0
  Ends old new version colours given status = Shows version colours given (λ shown written response. IsWritten shown old new written response status)

  -- Why the words come to no end: there is no answer, or not all of it can be written. The causes say why a file can't be read.
  abbrev pub Fails : Causes → List ℕ → Colours → Result GivenWords Error → LabFault → Type 0
  Fails U version colours given fault =
      IsOfWordsOrFile U version given fault
      ⊎ Shows version colours given
      (λ shown written response. IsOfOutput (shown_as shown.out response.out.items ++ shown_as shown.err response.told.items) fault)

abbrev pub exit_of : Result ℕ LabFault → ℕ
exit_of (Ok status) = status
exit_of (Err fault) = status_of fault

-- The status is that of what came of it: of an end of which P holds, or of a fault of which Q holds.
abbrev pub Exits : (ℕ → Type 0) → (LabFault → Type 0) → ℕ → Type 0
Exits P Q status = (outcome : Result ℕ LabFault) × IfOk outcome P × IfErr outcome Q × (status ≡ exit_of outcome)
