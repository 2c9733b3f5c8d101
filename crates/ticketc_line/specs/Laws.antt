-- What command lines ask for, computed from the description of the command line alone.
use Rattle.std.specs.Prelude.{◌≡◌, ℕ, List, [], ◌∷◌, Ok, Err, codes}
use Rattle.clap.specs.Walk.{Text}
use Rattle.ticketc_line.specs.Line.{asked_in}
use Rattle.ticketc_line.specs.Asked.{Asked, processes_of, turns_of, with_number}
use Rattle.ticketc_line.specs.declared.command.Command.TheVariants.{Order, Check, Emit, Source, Code, Lift, Drop}
use Rattle.ticketc_line.specs.declared.command.Request.TheVariants.{Alone, Run}
use Rattle.ticketc_line.specs.declared.command.LineFault.TheVariants.{Usage}

-- the words after the program's name ask for this
abbrev pub Asks : List Text → Asked → Type 0
Asks words asked = asked_in (codes "ticketc" ∷ words) ≡ asked

pub record BareCommandsLaw : Type 0 where
  pub check : Asks (codes "check" ∷ []) (Ok (Alone Check))
  pub emit : Asks (codes "emit" ∷ []) (Ok (Alone Emit))
  pub text_after_check : Asks (codes "check" ∷ codes "2" ∷ []) (Err Usage)
  pub text_after_emit : Asks (codes "emit" ∷ codes "2" ∷ []) (Err Usage)

-- a text with this first byte, whatever follows it
abbrev pub TakesFrom : Text → (Text → Asked) → ℕ → Type 0
TakesFrom name asking byte = (rest : Text) → Asks (name ∷ (byte ∷ rest) ∷ []) (asking (byte ∷ rest))

abbrev pub TakesFromEach : Text → (Text → Asked) → List ℕ → Type 0
TakesFromEach name asking [] = Unit {0}
TakesFromEach name asking (byte ∷ bytes) = TakesFrom name asking byte × TakesFromEach name asking bytes

-- the command wants a text, and takes an empty one and each that begins with a digit, a space or a plus
pub record TakesText (name : Text) (asking : Text → Asked) : Type 0 where
  pub empty : Asks (name ∷ [] ∷ []) (asking [])
  pub begun : TakesFromEach name asking (codes "0123456789 +")
  pub absent : Asks (name ∷ []) (Err Usage)
  pub two : Asks (name ∷ codes "2" ∷ codes "3" ∷ []) (Err Usage)
  pub flag : Asks (name ∷ codes "-1" ∷ []) (Err Usage)

pub record CommandsWithTextLaw : Type 0 where
  pub order : TakesText (codes "order") (λ text. with_number (λ n. Alone (Order n)) (processes_of text))
  pub source : TakesText (codes "source") (λ text. Ok (Alone (Source text)))
  pub code : TakesText (codes "code") (λ text. Ok (Alone (Code text)))
  pub lift : TakesText (codes "lift") (λ text. Ok (Alone (Lift text)))
  pub drop : TakesText (codes "drop") (λ text. Ok (Alone (Drop text)))
  pub run : TakesText (codes "run") (λ text. with_number Run (turns_of text))

pub record OtherLinesLaw : Type 0 where
  pub nothing : Asks [] (Err Usage)
  pub no_words : asked_in [] ≡ Err Usage
  pub help : Asks (codes "help" ∷ []) (Err Usage)
  pub help_flag : Asks (codes "--help" ∷ []) (Err Usage)
  pub order_help : Asks (codes "order" ∷ codes "-h" ∷ []) (Err Usage)
  pub version : Asks (codes "--version" ∷ []) (Err Usage)
  pub unknown : Asks (codes "sort" ∷ []) (Err Usage)
