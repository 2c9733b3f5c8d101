-- What holds of the line that the words make holds of the words.
use Rattle.std.proofs.Common.{◌≡◌, ℕ, List, Result, Ok, Err, map, string_bytes, subst}
use Rattle.std.specs.Prelude.{String, Vec}
use Rattle.std.specs.Global.{Global}
use Rattle.std.specs.declared.io.Error.{Error}
use Rattle.ticklab_line.specs.Lines.{Answers}
use Rattle.ticklab_line.specs.declared.asking.Line.{Line}
use Rattle.ticklab_answers.specs.Answers.{AsksLine, GivenWords, GivesWords, IsOfLine, IsOfWordsOrFile, NamesOfLine, WritesBefore}
use Rattle.ticklab_files.specs.Faults.{Causes, IsOfWords}
use Rattle.ticklab_files.specs.declared.fault.LabFault.{LabFault}
use Rattle.ticklab_files.specs.declared.fault.LabFault.TheVariants.{Words, Unread, Unwritten, Answer}

-- the words ask for this line
module _ (version : List ℕ) (words : Vec (String Global) Global) (slice : List (String Global)) (l : Line)
    (same : slice ≡ words.items) (answers : Answers version (map string_bytes slice) l) where
  pub asks_line : (P : Line → Type 0) (given : Result GivenWords Error) → GivesWords given words → P l → AsksLine version given P
  asks_line P (Ok given) gives held = (
    l,
    subst (λ (ws : List (String Global)). Answers version (map string_bytes ws) l) gives (subst (λ (ws : List (String Global)). Answers version (map string_bytes ws) l) same answers),
    held,
  )
  asks_line P (Err error) gives held = absurd gives

  -- a fault of the line is one of the words
  pub of_line : (U : Causes) (given : Result GivenWords Error) → GivesWords given words → (fault : LabFault)
      → IsOfLine U l fault → IsOfWordsOrFile U version given fault
  of_line U given gives (Words cause) h = absurd h
  of_line U given gives (Unread name cause) h = (asks_line (λ m. NamesOfLine m (string_bytes name)) given gives h.0, h.1)
  of_line U given gives (Unwritten cause) h = asks_line WritesBefore given gives h
  of_line U given gives (Answer fault) h = tt

-- the words can't be had
pub of_words : (U : Causes) (version : List ℕ) (given : Result GivenWords Error) (fault : LabFault)
    → IsOfWords given fault → IsOfWordsOrFile U version given fault
of_words U version given (Words cause) h = h
of_words U version given (Unread name cause) h = absurd h
of_words U version given (Unwritten cause) h = absurd h
of_words U version given (Answer fault) h = tt
