-- What may help where the words of a command line are refused: slips that show in the words. A hint stands behind what
-- `clap` tells, in a line of its own.
use Rattle.std.specs.Prelude.{ℕ, Bool, false, not, List, [], ◌∷◌, ◌++◌, ◌&&◌, ◌||◌, Option, Some, None, bytes_eq, codes, eqb, if◌then◌else◌, is_some, length, nat_le, option_and_then, take}
use Rattle.std.specs.List.{list_any, starts_with}
use Rattle.std.specs.Option.{option_map_or}
use Rattle.clap.specs.Walk.{Text}
use Rattle.ticklab_line.specs.Found.{number_of}

abbrev pub is_option : Text → Bool
is_option word = starts_with eqb word (codes "-")

-- neither an option nor a number
abbrev pub is_text : Text → Bool
is_text word = not (is_option word) && not (is_some (number_of 64 word))

-- An option of this name is followed by a word that is neither an option nor a number: among the words, behind one that
-- may be this option.
unfoldable pub lacks_behind : Bool → Text → List Text → Bool
lacks_behind is_behind name [] = false
lacks_behind is_behind name (word ∷ words) = (is_behind && is_text word) || lacks_behind (bytes_eq word name) name words

abbrev pub lacks_number : Text → List Text → Bool
lacks_number name words = lacks_behind false name words

-- the first so many words, of which none is an option
abbrev pub begins_plain : ℕ → List Text → Bool
begins_plain count words = nat_le count (length words) && not (list_any is_option (take count words))

-- the options that want a number
abbrev pub lacks_a_number : List Text → Bool
lacks_a_number words =
    lacks_number (codes "--limit") words || (lacks_number (codes "--memory") words || (lacks_number (codes "--jobs") words
    || (lacks_number (codes "--seed") words || (lacks_number (codes "--runs") words || (lacks_number (codes "--from") words
    || (lacks_number (codes "--to") words || (lacks_number (codes "--steps") words || (lacks_number (codes "--width") words
    || lacks_number (codes "--threads") words))))))))

abbrev pub one_file : Text
one_file = codes "it takes one file; `ticklab check` takes several, and folders"

abbrev pub one_word : Text
one_word = codes "a schedule is one word: put it in quotes, as \"0 1*3 0\""

-- how many words are one too many for a command, and what may help
abbrev pub crowd_of : Text → Option (ℕ × Text)
crowd_of command =
    if bytes_eq command (codes "explore") || bytes_eq command (codes "hunt") then Some (2, one_file)
    else if bytes_eq command (codes "trace") || (bytes_eq command (codes "draw") || (bytes_eq command (codes "page")
    || (bytes_eq command (codes "explain") || bytes_eq command (codes "labels")))) then Some (3, one_word)
    else if bytes_eq command (codes "lasso") then Some (4, one_word)
    else None

-- so many plain words have the hint
abbrev pub hint_of_crowd : List Text → ℕ × Text → Option Text
hint_of_crowd words crowd = if begins_plain crowd.0 words then Some crowd.1 else None

abbrev pub file_first : Text
file_first = codes "behind --ends stands a process or nothing: write the file first, as in `ticklab explore lock.tick --ends`"

-- the hint for the words behind a command
abbrev pub hint_behind : Text → List Text → Option Text
hint_behind command words =
    if lacks_number (codes "--ends") words then Some file_first
    else if lacks_a_number words then Some (codes "a number is written in digits alone, as 1000000")
    else option_and_then (hint_of_crowd words) (crowd_of command)

-- The hint for all words, of which the first is the program's name, and the second a command's.
abbrev pub hint_for : List Text → Option Text
hint_for [] = None
hint_for (program ∷ []) = None
hint_for (program ∷ command ∷ words) = hint_behind command words

-- the line of a hint, nothing where there is none
abbrev pub hint_line : Option Text → Text
hint_line hint = option_map_or (λ hint. codes "hint: " ++ hint ++ codes "\n") hint []
