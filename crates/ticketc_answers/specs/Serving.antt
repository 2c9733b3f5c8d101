-- What serving a command line does to the reader and the writer.
use Rattle.std.specs.Prelude.{◌≡◌, ℕ, ◌+◌, ◌≤◌, Bool, true, false, List, Option, IfSome, Result, Ok, Err}
use Rattle.std.specs.Io.KnownBytes.{Appends}
use Rattle.ticketc_io.specs.Reading.{CountsReads, TakesFew}
use Rattle.ticketc_io.specs.Writing.{CountsWrites, WritesPrefix}
use Rattle.ticketc_io.specs.declared.counts.Counts.{Counts}
use Rattle.ticketc_line.specs.Asked.{Asked}
use Rattle.ticketc_line.specs.declared.command.Request.TheVariants.{Run}
use Rattle.ticketc_answers.specs.Answer.{Answer}
use Rattle.ticketc_answers.specs.Commands.{Answers, asks_run, wants_input}
use Rattle.ticketc_answers.specs.Faults.{end_fault_in}
use Rattle.ticketc_answers.specs.declared.fault.EngineFault.{EngineFault}
use Rattle.ticketc_answers.specs.declared.fault.EngineFault.TheVariants.{Read, Write, Memory, Thread}
use Rattle.ticketc_answers.specs.declared.heard.Heard.{Heard}
use Rattle.ticketc_answers.specs.declared.heard.Heard.TheVariants as heard

-- P of some input, which is the one that is still to come where that is known
pub record OnInput (known : Option (List ℕ)) (P : List ℕ → Type 0) : Type 0 where
  pub input : List ℕ
  pub is_known : IfSome known (λ bytes. input ≡ bytes)
  pub holds : P input

-- the status is that of an answer of these, and its text was written
pub record Writes (old new : Option (List ℕ)) (status : ℕ) (allowed : Answer → Type 0) : Type 0 where
  pub answer : Answer
  pub is_allowed : allowed answer
  pub status_is : status ≡ answer.status
  pub written : Appends old new answer.text

-- some of the text of an answer of these was written, from its front
pub record WritesSome (old new : Option (List ℕ)) (allowed : Answer → Type 0) : Type 0 where
  pub answer : Answer
  pub is_allowed : allowed answer
  pub written : WritesPrefix old new answer.text

-- A failed write leaves some of the answer's text; any other fault leaves the writer as it was. Threads
-- are wanted by a run alone.
abbrev pub Leaves : {W : Type 0} → (W → Option (List ℕ)) → W → W → Bool → Result ℕ EngineFault → (Answer → Type 0) → Type 0
Leaves written old new run (Ok status) allowed = Writes (written old) (written new) status allowed
Leaves written old new run (Err Write) allowed = WritesSome (written old) (written new) allowed
Leaves written old new run (Err Read) allowed = new ≡ old
Leaves written old new run (Err Memory) allowed = new ≡ old
Leaves written old new run (Err Thread) allowed = (run ≡ true) × (new ≡ old)

-- A command line was served: `remaining` and `reads` are what is known of the reader, its bytes and its
-- counts, and `written` and `writes` what is known of the writer.
pub record Serves {R W : Type 0} (asked : Asked) (remaining : R → Option (List ℕ)) (reads : R → Counts)
    (written : W → Option (List ℕ)) (writes : W → Counts) (reader_old reader_new : R) (writer_old writer_new : W)
    (result : Result ℕ EngineFault) : Type 0 where
  pub answers : OnInput (remaining reader_old) (λ input. Leaves written writer_old writer_new (asks_run asked) result (Answers asked input))
  pub unread : wants_input asked ≡ false → reader_new ≡ reader_old
  pub few : TakesFew (remaining reader_old) (remaining reader_new)
  pub calls : (reads reader_new).calls ≤ (reads reader_old).calls + 2000000
  pub reads_counted : CountsReads (end_fault_in result) (reads reader_old) (reads reader_new)
  pub writes_counted : CountsWrites (end_fault_in result) (writes writer_old) (writes writer_new)

-- A command line was served without threads; or it asks for a run, and nothing was read or written yet.
abbrev pub ServesOrRuns : {R W : Type 0} → Asked → (R → Option (List ℕ)) → (R → Counts) → (W → Option (List ℕ)) → (W → Counts)
    → R → R → W → W → Result (Heard ℕ) EngineFault → Type 0
ServesOrRuns asked remaining reads written writes reader_old reader_new writer_old writer_new (Ok (heard.Served status)) =
    (asks_run asked ≡ false) × Serves asked remaining reads written writes reader_old reader_new writer_old writer_new (Ok status)
ServesOrRuns asked remaining reads written writes reader_old reader_new writer_old writer_new (Ok (heard.Run turns)) =
    (asked ≡ Ok (Run turns)) × (reader_new ≡ reader_old) × (writer_new ≡ writer_old)
ServesOrRuns asked remaining reads written writes reader_old reader_new writer_old writer_new (Err fault) =
    Serves asked remaining reads written writes reader_old reader_new writer_old writer_new (Err fault)
