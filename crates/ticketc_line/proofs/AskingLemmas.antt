-- From what `clap` says of a command and its matches to the command line that is described.
use Rattle.std.proofs.Common.{◌≡◌, ◌∙◌, ◌<◌, ◌+◌, ℕ, Bool, ◌∷◌, List, get_or, length, map, sym, take, [], Option, Some, None, Err, true, false, ap, ap₂, codes, option_map, Box, refl, subst, inl, inr}
use Rattle.std.proofs.lemmas.Bool.{and_parts}
use Rattle.std.proofs.lemmas.List.{map_more}
use Rattle.std.proofs.lemmas.List.Sums.{fold-append}
use Rattle.std.specs.Borrow.{Bor}
use Rattle.std.specs.Box.{box_value}
use Rattle.clap.specs.Walk.{Row, Text, first_of, rows_of}
use Rattle.clap.specs.Words.{AddsSubcommand}
use Rattle.clap.specs.Simple.{App, HasMatchesOf, Shape, app_of, is_simple, shape_of}
use Rattle.clap.specs.Simple.{subcommand_of, subcommand_rows, subcommand_rows_of, with_subcommand}
use Rattle.clap.specs.Faults.{fault_of, is_simple_and_free}
use Rattle.clap.specs.Kinds.{HasKind, Kinds}
use Rattle.clap.specs.Matches.{found_of}
use Rattle.clap.specs.Values.{kind_of}
use Rattle.clap.specs.declared.error.Error.{Error}
use Rattle.clap.specs.declared.error.kind.ErrorKind.TheVariants as kind
use Rattle.clap.specs.declared.parser.matches.ArgMatches.{ArgMatches}
use Rattle.clap.proofs.OnLiterals.{clap_on_literals}
use Rattle.clap.specs.declared.builder.command.Command.{Command}
use Rattle.clap.specs.declared.builder.command.Command.TheViews.{out-Command}
use Rattle.clap.specs.declared.parser.matches.SubCommand.{SubCommand}
use Rattle.clap.specs.declared.parser.matches.ArgMatches.TheViews.{out-SubCommand}
use Rattle.ticketc_line.specs.Asked.{named}
use Rattle.ticketc_line.specs.Line.{command_in, command_shape, plain_row, with_commands, is_faultless, is_taken, asked_in, asked_in_rows, ticketc}
use Rattle.ticketc_line.specs.declared.command.LineFault.TheVariants.{Usage}

pub with_one_more : (old sub new : Command) (app : App) (shape : Shape)
    → AddsSubcommand old sub new
    → (shape_of sub ≡ shape) × ((out-Command sub).has_globals ≡ false)
    → app_of old ≡ app
    → app_of new ≡ with_subcommand app shape
with_one_more old sub new app shape adds is_part is_line = adds.shape is_part.1 ∙ ap₂ with_subcommand is_line is_part.0

-- the line with the commands before one, and then that one
pub one_more_of : (app : App) (items : List (Bor Text × Bool)) (i : ℕ) (d : Bor Text × Bool)
    → i < length items
    → with_subcommand (with_commands app (map plain_row (take i items))) (command_shape (plain_row (get_or items i d)))
    ≡ with_commands app (map plain_row (take (i + 1) items))
one_more_of app items i d within =
    sym (ap (with_commands app) (map_more plain_row items i d within)
    ∙ fold-append (λ (a : App) (command : Text × Bool). with_subcommand a (command_shape command)) app (map plain_row (take i items)) (plain_row (get_or items i d) ∷ []))

pub named-rows : {Z : Type 0} (o : Option (Box SubCommand Z)) (name : Text) (rows : List Row)
    → Some name ≡ option_map (λ b. (out-SubCommand (box_value b)).name.now) o
    → Some rows ≡ option_map (λ p. p.1) (subcommand_rows o)
    → named name (first_of (codes "value") rows) ≡ asked_in_rows (subcommand_rows o)
named-rows None name rows is_name are_rows = cc
named-rows (Some b) name rows is_name are_rows =
    let found = out-SubCommand (box_value b) in
    let same_name : name ≡ found.name.now = cc in
    let same_rows : rows ≡ rows_of (found_of found.matches) = cc in
    ap₂ (λ (n : Text) (r : List Row). named n (first_of (codes "value") r)) same_name same_rows

-- `clap`'s promises hold of the command line
ticketc_is_free : is_simple_and_free ticketc ≡ true
unfolding clap_on_literals
ticketc_is_free = refl

ticketc_is_simple : is_simple ticketc ≡ true
ticketc_is_simple = (and_parts _ _ ticketc_is_free).0

pub asked_in-taken : (app : App) (words : List Text) (matches : ArgMatches)
    → app ≡ ticketc
    → (is_simple_and_free app ≡ true → fault_of app words ≡ [])
    → HasMatchesOf app words matches
    → asked_in_rows (subcommand_rows_of matches) ≡ asked_in words
unfolding is_taken command_in
asked_in-taken app words matches is_line faultless has_matches =
    let P : App → Type 0 = λ a. is_simple_and_free a ≡ true → fault_of a words ≡ [] in
    let Q : App → Type 0 = λ a. HasMatchesOf a words matches in
    let none : fault_of ticketc words ≡ [] = subst P is_line faultless ticketc_is_free in
    let rows : subcommand_rows_of matches ≡ subcommand_of ticketc words = (subst Q is_line has_matches ticketc_is_simple).1 in
    rw (none, rows) refl

not_taken : (kinds : Kinds) (e : Error) → HasKind kinds e → (kind_of e ≡ kind.OutOfMemory → ⊥) → is_faultless kinds ≡ false
not_taken [] e has_kind has_memory = elim has_kind [ inl memory ↦ absurd (has_memory memory) | inr among ↦ absurd among ]
not_taken (k ∷ ks) e has_kind has_memory = refl

pub asked_in-refused : (app : App) (words : List Text) (error : Error)
    → app ≡ ticketc
    → (is_simple_and_free app ≡ true → HasKind (fault_of app words) error)
    → (kind_of error ≡ kind.OutOfMemory → ⊥)
    → Err Usage ≡ asked_in words
unfolding is_taken
asked_in-refused app words error is_line fails has_memory =
    let P : App → Type 0 = λ a. is_simple_and_free a ≡ true → HasKind (fault_of a words) error in
    let refused : is_faultless (fault_of ticketc words) ≡ false = not_taken _ error (subst P is_line fails ticketc_is_free) has_memory in
    rw refused refl
