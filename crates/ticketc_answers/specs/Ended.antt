-- What the whole program does to its reader and its writer, and its exit status.
use Rattle.std.specs.Prelude.{◌≡◌, ℕ, List, Option, Result, Ok, Err, String, false, map, string_bytes}
use Rattle.std.specs.Global.{Global}
use Rattle.std.specs.Process.{exit_status}
use Rattle.std.specs.Vec.Iter.{into_iter_items}
use Rattle.std.specs.declared.io.Error.{Error}
use Rattle.std.specs.declared.process.ExitCode.{ExitCode}
use Rattle.std.specs.declared.vec.IntoIter.{IntoIter}
use Rattle.ticketc_line.specs.Asked.{Asked}
use Rattle.ticketc_line.specs.Line.{asked_in}
use Rattle.ticketc_line.specs.declared.command.Request.TheVariants.{Run}
use Rattle.ticketc_io.specs.declared.counts.Counts.{Counts}
use Rattle.ticketc_answers.specs.Commands.{asks_run}
use Rattle.ticketc_answers.specs.Serving.{Serves}
use Rattle.ticketc_answers.specs.declared.fault.EngineFault.{EngineFault}
use Rattle.ticketc_answers.specs.declared.heard.Heard.{Heard}
use Rattle.ticketc_answers.specs.declared.heard.Heard.TheVariants as heard
use Rattle.ticketc_answers.specs.Exit.{exit_of}

-- the words that the host gave
abbrev pub Words : Type 0
Words = IntoIter (String Global) Global

-- what they ask for
abbrev pub asked_by : Words → Asked
asked_by words = asked_in (map string_bytes (into_iter_items words))

-- what was asked for was served, and the status is that of what came of it
pub record EndsServed {R W : Type 0} (asked : Asked) (remaining : R → Option (List ℕ)) (reads : R → Counts)
    (written : W → Option (List ℕ)) (writes : W → Counts) (reader_old reader_new : R) (writer_old writer_new : W)
    (status : ℕ) : Type 0 where
  pub outcome : Result ℕ EngineFault
  pub serves : Serves asked remaining reads written writes reader_old reader_new writer_old writer_new outcome
  pub status_is : status ≡ exit_of outcome

-- where the words couldn't be had, nothing is read or written
abbrev pub Ends : {R W : Type 0} → Result Words Error → (R → Option (List ℕ)) → (R → Counts) → (W → Option (List ℕ)) → (W → Counts)
    → R → R → W → W → ℕ → Type 0
Ends (Ok words) remaining reads written writes reader_old reader_new writer_old writer_new status =
    EndsServed (asked_by words) remaining reads written writes reader_old reader_new writer_old writer_new status
Ends (Err error) remaining reads written writes reader_old reader_new writer_old writer_new status =
    (status ≡ 4) × (reader_new ≡ reader_old) × (writer_new ≡ writer_old)

-- the words ask for a run of so many turns
abbrev pub AsksRun : Result Words Error → ℕ → Type 0
AsksRun (Ok words) turns = asked_by words ≡ Ok (Run turns)
AsksRun (Err error) turns = ⊥

-- The program ends with this status, without threads; or the words ask for a run, and nothing was read or written yet.
abbrev pub EndsOrRuns : {R W : Type 0} → Result Words Error → (R → Option (List ℕ)) → (R → Counts) → (W → Option (List ℕ)) → (W → Counts)
    → R → R → W → W → Heard ExitCode → Type 0
EndsOrRuns given remaining reads written writes reader_old reader_new writer_old writer_new (heard.Served code) =
    Ends given remaining reads written writes reader_old reader_new writer_old writer_new (exit_status code)
EndsOrRuns given remaining reads written writes reader_old reader_new writer_old writer_new (heard.Run turns) =
    AsksRun given turns × (reader_new ≡ reader_old) × (writer_new ≡ writer_old)

-- the same of an outcome, with its exit status
abbrev pub IsExitOf : Result (Heard ℕ) EngineFault → Heard ExitCode → Type 0
IsExitOf (Ok (heard.Run turns)) told = told ≡ heard.Run turns
IsExitOf (Ok (heard.Served status)) (heard.Served code) = exit_status code ≡ status
IsExitOf (Ok (heard.Served status)) (heard.Run turns) = ⊥
IsExitOf (Err fault) (heard.Served code) = exit_status code ≡ exit_of (Err fault)
IsExitOf (Err fault) (heard.Run turns) = ⊥

-- Where the words ask for a run, and that run is then served with the same reader and writer, the words came to what they
-- come to.
abbrev pub WholeLaw : {R W : Type 0} → (R → Option (List ℕ)) → (R → Counts) → (W → Option (List ℕ)) → (W → Counts) → Type 0
WholeLaw {R} {W} remaining reads written writes =
    (given : Result Words Error) (turns : ℕ) (reader_old reader_between reader_new : R) (writer_old writer_between writer_new : W) (status : ℕ)
    → EndsOrRuns given remaining reads written writes reader_old reader_between writer_old writer_between (heard.Run turns)
    → EndsServed (Ok (Run turns)) remaining reads written writes reader_between reader_new writer_between writer_new status
    → Ends given remaining reads written writes reader_old reader_new writer_old writer_new status
