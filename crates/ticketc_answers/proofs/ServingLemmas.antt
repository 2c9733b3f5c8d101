-- From an input that was read to a response, and from a response to what is written.
--
-- The first is `answered_on_read`: a response to what was read is a response to the whole input. The
-- difficulty is that at most 1,000,001 bytes are read. If 1,000,000 or fewer came, they are the whole input.
-- If more came, both they and the whole input are too long, and have the same answer (`both_too_long`).
-- The second is `gave_response`: a command whose response was written is served (`Serves`). It is a
-- case split on how writing ended (`left`): all of the text was written, or the write failed after a prefix
-- of it.
-- `unanswered` and `gave_up_reading` are for commands without a response.
-- Read `on_read` first, then `left`.
use Rattle.std.proofs.Common.{◌≡◌, ℕ, ◌+◌, ◌<◌, ◌≤◌, ◌++◌, ◌⊎◌, Bool, false, inl, inr, List, [], length, Option, Some, None, Result, Ok, Err, IfErr, IfOk, OnErr, OnOk, append-nil, arith, ap, refl, string_bytes, subst, sym, ◌∙◌}
use Rattle.std.proofs.Math.ListN.{length-append}
use Rattle.std.proofs.lemmas.Bool.Decides.{leb_tells}
use Rattle.std.specs.Io.KnownBytes.{Appends, Consumes}
use Rattle.ticketc_io.specs.Reading.{CountsReads, IsRead, TakesFew}
use Rattle.ticketc_io.specs.Writing.{CountsWrites, WritesPrefix}
use Rattle.ticketc_io.specs.declared.counts.Counts.{Counts}
use Rattle.ticketc_io.specs.declared.fault.EndFault.{EndFault}
use Rattle.ticketc_io.specs.declared.fault.EndFault.TheVariants as end
use Rattle.ticketc_line.specs.Asked.{Asked, PlainRequest}
use Rattle.ticketc_line.specs.declared.command.LineFault.{LineFault}
use Rattle.ticketc_answers.specs.Answer.{Answer}
use Rattle.ticketc_answers.specs.Commands.{Answers, InputAnswers, asks_run, line_answer, wants_input}
use Rattle.ticketc_answers.specs.Faults.{end_fault_in}
use Rattle.ticketc_answers.specs.Serving.{Leaves, OnInput, Serves}
use Rattle.ticketc_answers.specs.Stop.{IfTold}
use Rattle.ticketc_answers.specs.declared.fault.EngineFault.{EngineFault}
use Rattle.ticketc_answers.specs.declared.fault.EngineFault.TheVariants.{Read, Write, Memory, Thread}
use Rattle.ticketc_answers.specs.declared.response.StatusText.{StatusText}
use Rattle.ticketc_answers.specs.declared.stop.Stop.{Stop}
use Rattle.ticketc_answers.specs.declared.stop.Stop.TheVariants as stop
use Rattle.ticketc_answers.specs.prover.Faults.{end_fault}
use Rattle.ticketc_answers.specs.prover.Responses.{IsAnswered, IsFaultOf, IsResponse, IsUnanswered, Says, SaysStop}
use Rattle.ticketc_answers.proofs.Determined.{both_too_long}

Consumes-nil : (a : Option (List ℕ)) → Consumes a a []
Consumes-nil None = tt
Consumes-nil (Some bytes) = refl

module _ (request : PlainRequest) (response : StatusText) where
  abbrev By : List ℕ → Type 0
  By input = IsResponse (InputAnswers request input) response

  -- what was read has the answers of the whole input
  pub on_read : (known left : Option (List ℕ)) (read : List ℕ) → IsRead known left read → By read → OnInput known By
  on_read None left read is answered = record { input = read; is_known = tt; holds = answered }
  on_read (Some all) None read is answered = absurd is.taken
  on_read (Some all) (Some rest) read is answered = record {
    input = all;
    is_known = refl;
    holds = elim (leb_tells (length read) 1000000) [
      | inl short ↦
          let none : rest ≡ [] = is.whole short.1 in
          let same : read ≡ all = sym (is.taken ∙ ap (λ (l : List ℕ). read ++ l) none ∙ append-nil read) in
          subst By same answered
      | inr long ↦
          let longer : 1000000 < length all = omega (arith, long.1, ap length is.taken, length-append read rest) in
          record {
            answer = answered.answer;
            is_allowed = both_too_long request read all long.1 longer answered.answer answered.is_allowed;
            says = answered.says;
          }
    ];
  }

-- the response to a command, by the input
pub answered_on_read : (request : PlainRequest) (known left : Option (List ℕ)) (read slice : List ℕ) (response : StatusText)
    → slice ≡ read → IsRead known left read → IsResponse (InputAnswers request slice) response
    → OnInput known (λ input. IsResponse (Answers (Ok request) input) response)
answered_on_read request known left read slice response same reads answered =
    on_read request response known left read reads (subst (λ (l : List ℕ). IsResponse (InputAnswers request l) response) same answered)

-- a response that no input changes is one on the known input
pub on_any : (known : Option (List ℕ)) (P : List ℕ → Type 0) → ((input : List ℕ) → P input) → OnInput known P
on_any None P is = record { input = []; is_known = tt; holds = is [] }
on_any (Some all) P is = record { input = all; is_known = refl; holds = is all }

pub takes_none : (known : Option (List ℕ)) → TakesFew known known
takes_none known = record { bytes = []; taken = Consumes-nil known; few = omega arith }

-- a response that was written is an answer that was
left : {W : Type 0} (written : W → Option (List ℕ)) (before after : W) (run : Bool) (allowed : Answer → Type 0) (response : StatusText)
    (result : Result ℕ EngineFault)
    → IsResponse allowed response
    → IfOk result (λ status. status ≡ response.status)
    → OnOk result (Appends (written before) (written after) (string_bytes response.text))
    → OnErr result (WritesPrefix (written before) (written after) (string_bytes response.text))
    → IfErr result (λ fault. fault ≡ Write)
    → Leaves written before after run result allowed
left written before after run allowed response (Ok status) gave is all some fault = record {
  answer = gave.answer;
  is_allowed = gave.is_allowed;
  status_is = is ∙ gave.says.status;
  written = subst (λ (text : List ℕ). Appends (written before) (written after) text) gave.says.text all;
}
left written before after run allowed response (Err Write) gave is all some fault = record {
  answer = gave.answer;
  is_allowed = gave.is_allowed;
  written = subst (λ (text : List ℕ). WritesPrefix (written before) (written after) text) gave.says.text some;
}
left written before after run allowed response (Err Read) gave is all some fault = absurd (cc)
left written before after run allowed response (Err Memory) gave is all some fault = absurd (cc)
left written before after run allowed response (Err Thread) gave is all some fault = absurd (cc)

-- where no more than a write failed, no read did
read_all : (result : Result ℕ EngineFault) → IfErr result (λ fault. fault ≡ Write) → (old new : Counts) → new.failures ≡ old.failures
    → CountsReads (end_fault_in result) old new
read_all (Ok status) fault old new none_failed = none_failed
read_all (Err Write) fault old new none_failed = none_failed
read_all (Err Read) fault old new none_failed = absurd (cc)
read_all (Err Memory) fault old new none_failed = absurd (cc)
read_all (Err Thread) fault old new none_failed = absurd (cc)

module _ {R W : Type 0} (asked : Asked) (remaining : R → Option (List ℕ)) (reads : R → Counts)
    (written : W → Option (List ℕ)) (writes : W → Counts) (old new : R)
    (unread : wants_input asked ≡ false → new ≡ old)
    (few : TakesFew (remaining old) (remaining new))
    (calls : (reads new).calls ≤ (reads old).calls + 2000000) where
  served : (before after : W) (result : Result ℕ EngineFault)
      → OnInput (remaining old) (λ input. Leaves written before after (asks_run asked) result (Answers asked input))
      → CountsReads (end_fault_in result) (reads old) (reads new) → CountsWrites (end_fault_in result) (writes before) (writes after)
      → Serves asked remaining reads written writes old new before after result
  served before after result answers reads_counted writes_counted =
      record { answers = answers; unread = unread; few = few; calls = calls; reads_counted = reads_counted; writes_counted = writes_counted }

  -- where there is no response, nothing is written
  pub unanswered : (fault : EngineFault) → IsUnanswered (asks_run asked) fault → (writer : W) → (reads new).failures ≡ (reads old).failures
      → Serves asked remaining reads written writes old new writer writer (Err fault)
  unanswered Memory why writer counted = served writer writer (Err Memory) (on_any (remaining old) _ (λ input. refl)) counted refl
  unanswered Thread why writer counted = served writer writer (Err Thread) (on_any (remaining old) _ (λ input. (why, refl))) counted refl
  unanswered Read why writer counted = absurd why
  unanswered Write why writer counted = absurd why

  -- nor where reading ends it
  pub gave_up_reading : (fault : EndFault) → (fault ≡ end.Read) ⊎ (fault ≡ end.Memory) → (writer : W) → CountsReads (Some fault) (reads old) (reads new)
      → Serves asked remaining reads written writes old new writer writer (Err (end_fault fault))
  gave_up_reading end.Read why writer counted = served writer writer (Err Read) (on_any (remaining old) _ (λ input. refl)) counted refl
  gave_up_reading end.Memory why writer counted = unanswered Memory tt writer counted
  gave_up_reading end.Write why writer counted = absurd (elim why [ inl read ↦ cc | inr memory ↦ cc ])

  -- a response that was written is an answer that was
  pub gave_response : (response : StatusText) (before after : W) (result : Result ℕ EngineFault)
      → OnInput (remaining old) (λ input. IsResponse (Answers asked input) response)
      → (reads new).failures ≡ (reads old).failures
      → IfOk result (λ status. status ≡ response.status)
      → OnOk result (Appends (written before) (written after) (string_bytes response.text))
      → OnErr result (WritesPrefix (written before) (written after) (string_bytes response.text))
      → IfErr result (λ fault. fault ≡ Write)
      → CountsWrites (end_fault_in result) (writes before) (writes after)
      → Serves asked remaining reads written writes old new before after result
  gave_response response before after result is_response none_failed is all some fault counted =
      let answers : OnInput (remaining old) (λ input. Leaves written before after (asks_run asked) result (Answers asked input)) = record {
        input = is_response.input;
        is_known = is_response.is_known;
        holds = left written before after (asks_run asked) (Answers asked is_response.input) response result is_response.holds is all some fault;
      } in
      served before after result answers (read_all result fault (reads old) (reads new) none_failed) counted

-- the response to words that are refused
pub on_line : (fault : LineFault) (known : Option (List ℕ)) (response : StatusText) → Says response (line_answer fault)
    → OnInput known (λ input. IsResponse (Answers (Err fault) input) response)
on_line fault known response told = on_any known _ (λ input. record { answer = line_answer fault; is_allowed = refl; says = told })

-- where the words ask for the same
pub asking : {R W : Type 0} (asked other : Asked) (remaining : R → Option (List ℕ)) (reads : R → Counts) (written : W → Option (List ℕ))
    (writes : W → Counts) (old new : R) (before after : W) (result : Result ℕ EngineFault)
    → asked ≡ other → Serves asked remaining reads written writes old new before after result
    → Serves other remaining reads written writes old new before after result
asking asked other remaining reads written writes old new before after result same served =
    subst (λ (these : Asked). Serves these remaining reads written writes old new before after result) same served

stop_says : (is_run : Bool) (allowed : Answer → Type 0) (response : StatusText) (stop : Stop) → SaysStop response stop
    → IfTold is_run allowed stop → IsResponse allowed response
stop_says is_run allowed response (stop.Refused refusal) told held = record { answer = _; is_allowed = held; says = told }
stop_says is_run allowed response stop.TooLong told held = record { answer = _; is_allowed = held; says = told }
stop_says is_run allowed response stop.Memory told held = absurd told
stop_says is_run allowed response stop.Thread told held = absurd told

fault_told : (is_run : Bool) (allowed : Answer → Type 0) (stop : Stop) (fault : EngineFault) → IsFaultOf stop fault
    → IfTold is_run allowed stop → IsUnanswered is_run fault
fault_told is_run allowed stop Memory is held = tt
fault_told is_run allowed stop Thread is held = rw is at held
fault_told is_run allowed stop Read is held = absurd is
fault_told is_run allowed stop Write is held = absurd is

-- the response to what stopped a command, or what keeps it away
pub stop_answered : (request : PlainRequest) (input : List ℕ) (stop : Stop) (result : Result StatusText EngineFault)
    → IfOk result (λ response. SaysStop response stop) → IfErr result (IsFaultOf stop)
    → IfTold (asks_run (Ok request)) (InputAnswers request input) stop → IsAnswered request input result
stop_answered request input stop (Ok response) told fault held = stop_says _ (InputAnswers request input) response stop told held
stop_answered request input stop (Err e) told fault held = fault_told _ (InputAnswers request input) stop e fault held
