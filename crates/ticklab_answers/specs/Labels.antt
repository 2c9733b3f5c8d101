-- What `labels` answers: a picture of the labels under the stamps and clears that a text spells.
use Rattle.std.specs.Prelude.{◌≡◌, ◌≤◌, ◌<◌, ℕ, List, length, Ok, Err}
use Rattle.ticket_core.specs.declared.moves.Move.{Move}
use Rattle.language_schedules.specs.Moves.{moves_of}
use Rattle.language_schedules.specs.declared.schedule.ScheduleFault.{ScheduleFault}
use Rattle.ticklab_draw.specs.labels.Frames.{frames_of}
use Rattle.ticklab_draw.specs.labels.Pictures.{picture}
use Rattle.ticklab_answers.specs.Lines.{many_line, number_line}
use Rattle.ticklab_files.specs.Lines.{IsMisspelled}
use Rattle.ticklab_files.specs.Responses.{Gives, Refuses}
use Rattle.ticklab_files.specs.declared.response.Response.{Response}

-- of 1 to 6 processes and at most 400 moves
pub record AreDrawn (n : ℕ) (text out : List ℕ) : Type 0 where
  pub some : 1 ≤ n
  pub most : n ≤ 6
  pub moves : List Move
  pub spelled : moves_of n text ≡ Ok moves
  pub few : length moves ≤ 400
  pub drawn : out ≡ picture n (frames_of n moves)

-- The report of labels that aren't drawn: the number of processes, the text or the number of moves, in this order.
pub data AreUndrawn (n : ℕ) (text report : List ℕ) : Type 0 where
  no_number : ((1 ≤ n) → (n ≤ 6) → ⊥) → report ≡ number_line → AreUndrawn n text report
  misspelled : 1 ≤ n → n ≤ 6 → (fault : ScheduleFault) → moves_of n text ≡ Err fault → IsMisspelled n text fault report → AreUndrawn n text report
  too_many : 1 ≤ n → n ≤ 6 → (moves : List Move) → moves_of n text ≡ Ok moves → 400 < length moves
      → report ≡ many_line (length moves) → AreUndrawn n text report

pub data DrawsLabels (n : ℕ) (text : List ℕ) (response : Response) : Type 0 where
  drawn : Gives 0 (AreDrawn n text) response → DrawsLabels n text response
  undrawn : Refuses 1 (AreUndrawn n text) response → DrawsLabels n text response
