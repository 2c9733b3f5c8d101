-- From what `clap` found, or told, to what the words ask for.
use Rattle.std.proofs.Common.{◌≡◌, ◌&&◌, List, [], ◌∷◌, Bool, true, false, Option, refl, subst, sym, inl, inr}
use Rattle.std.specs.Prelude.{◌≢◌}
use Rattle.clap.specs.Walk.{Row, Text}
use Rattle.clap.specs.Simple.{App, HasMatchesOf, is_simple, subcommand_of, subcommand_rows_of}
use Rattle.clap.specs.Faults.{fault_of, is_simple_and_free}
use Rattle.clap.specs.Kinds.{HasKind, IsAmong, Kinds}
use Rattle.clap.specs.Values.{kind_of}
use Rattle.clap.specs.declared.error.Error.{Error}
use Rattle.clap.specs.declared.error.kind.ErrorKind.{ErrorKind}
use Rattle.clap.specs.declared.error.kind.ErrorKind.TheVariants as kind
use Rattle.clap.specs.declared.parser.matches.ArgMatches.{ArgMatches}
use Rattle.clap.proofs.OnLiterals.{clap_on_literals}
use Rattle.ticklab_line.specs.Commands.{ticklab}
use Rattle.ticklab_line.specs.Lines.{Answers, AnswersBy, IsFound, IsToldBy, command_in, faults}
use Rattle.ticklab_line.specs.declared.asking.Line.{Line}
use Rattle.ticklab_line.specs.declared.asking.Line.TheVariants as line

-- `clap`'s promises hold of the command line
ticklab_is_free : is_simple_and_free ticklab ≡ true
unfolding clap_on_literals
ticklab_is_free = refl

first_of_both : (a b : Bool) → (a && b) ≡ true → a ≡ true
first_of_both true b both = refl
first_of_both false b both = both

ticklab_is_simple : is_simple ticklab ≡ true
ticklab_is_simple = first_of_both _ _ ticklab_is_free

pub found_answers : (app : App) (version : Text) (words : List Text) (matches : ArgMatches) (l : Line)
    → app ≡ ticklab
    → (is_simple_and_free app ≡ true → fault_of app words ≡ [])
    → HasMatchesOf app words matches
    → IsFound (subcommand_rows_of matches) l
    → Answers version words l
unfolding faults command_in
found_answers app version words matches l is_line faultless has_matches found =
    let P : App → Type 0 = λ a. is_simple_and_free a ≡ true → fault_of a words ≡ [] in
    let Q : App → Type 0 = λ a. HasMatchesOf a words matches in
    let none : fault_of ticklab words ≡ [] = subst P is_line faultless ticklab_is_free in
    let rows : subcommand_rows_of matches ≡ subcommand_of ticklab words = (subst Q is_line has_matches ticklab_is_simple).1 in
    subst (λ (kinds : Kinds). AnswersBy version words kinds (subcommand_of ticklab words) l) (sym none)
    (subst (λ (rows : Option (Text × List Row)). IsFound rows l) rows found)

one_told : (version : Text) (words : List Text) (kinds : Kinds) (k : ErrorKind) (found : Option (Text × List Row)) (l : Line)
    → IsAmong k kinds → IsToldBy version words k l → AnswersBy version words kinds found l
one_told version words [] k found l among told = absurd among
one_told version words (first ∷ kinds) k found (line.Help text) among told =
    subst (λ (a : ErrorKind). IsAmong a (first ∷ kinds)) told among
one_told version words (first ∷ kinds) k found (line.Version text) among told =
    (subst (λ (a : ErrorKind). IsAmong a (first ∷ kinds)) told.0 among, told.1)
one_told version words (first ∷ kinds) k found (line.Refused text) among told = ((k, told.0, told.1, among), told.2)
one_told version words (first ∷ kinds) k found (line.Request request output) among told = absurd told

pub told_answers : (app : App) (version : Text) (words : List Text) (error : Error) (l : Line)
    → app ≡ ticklab
    → (is_simple_and_free app ≡ true → HasKind (fault_of app words) error)
    → kind_of error ≢ kind.OutOfMemory
    → IsToldBy version words (kind_of error) l
    → Answers version words l
unfolding faults
told_answers app version words error l is_line fails has_memory told =
    let P : App → Type 0 = λ a. is_simple_and_free a ≡ true → HasKind (fault_of a words) error in
    elim (subst P is_line fails ticklab_is_free) [
      | inl memory ↦ absurd (has_memory memory)
      | inr among ↦ one_told version words (fault_of ticklab words) (kind_of error) (command_in words) l among told
    ]
