-- From what serving words came to, to how the program ends.
use Rattle.std.proofs.Common.{◌≡◌, ℕ, List, Option, Result, Ok, Err, subst, sym}
use Rattle.std.specs.declared.process.ExitCode.{ExitCode}
use Rattle.ticketc_io.specs.declared.counts.Counts.{Counts}
use Rattle.ticketc_answers.specs.Ended.{EndsOrRuns, IsExitOf, Words, asked_by}
use Rattle.ticketc_answers.specs.Serving.{ServesOrRuns}
use Rattle.ticketc_answers.specs.declared.fault.EngineFault.{EngineFault}
use Rattle.ticketc_answers.specs.declared.heard.Heard.{Heard}
use Rattle.ticketc_answers.specs.declared.heard.Heard.TheVariants as heard

module _ {R W : Type 0} (words : Words) (remaining : R → Option (List ℕ)) (reads : R → Counts)
    (written : W → Option (List ℕ)) (writes : W → Counts) (reader_old reader_new : R) (writer_old writer_new : W) where
  abbrev Ended : Heard ExitCode → Type 0
  Ended = EndsOrRuns (Ok words) remaining reads written writes reader_old reader_new writer_old writer_new

  pub ended_of : (outcome : Result (Heard ℕ) EngineFault) (told : Heard ExitCode)
      → ServesOrRuns (asked_by words) remaining reads written writes reader_old reader_new writer_old writer_new outcome
      → IsExitOf outcome told → Ended told
  ended_of (Ok (heard.Served status)) (heard.Served code) serves is = record { outcome = Ok status; serves = serves.1; status_is = is }
  ended_of (Ok (heard.Served status)) (heard.Run turns) serves is = absurd is
  ended_of (Ok (heard.Run turns)) told serves is = subst Ended (sym is) serves
  ended_of (Err fault) (heard.Served code) serves is = record { outcome = Err fault; serves = serves; status_is = is }
  ended_of (Err fault) (heard.Run turns) serves is = absurd is
