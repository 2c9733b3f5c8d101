-- What is read: the bytes of a file or of standard input, and the way that a command line gives.
use Rattle.std.specs.Prelude.{◌≡◌, ◌<◌, ◌&&◌, ℕ, Bool, true, false, List, [], ◌∷◌, Option, Some, None, codes, bytes_eq, eqb, length, if◌then◌else◌, String}
use Rattle.std.specs.List.{ends_with}
use Rattle.std.specs.Global.{Global}
use Rattle.ticklab_files.specs.Ways.{Texts, alone, texts_in}

-- the name that follows an @
abbrev pub after_at : List ℕ → Option (List ℕ)
after_at [] = None
after_at (byte ∷ name) = if eqb byte 64 then Some name else None

-- the file that has the schedule, where the command line does not give it itself; it is standard input where the name
-- is `-`
abbrev pub schedule_file : List ℕ → Option (List ℕ)
schedule_file given = if bytes_eq given (codes "-") then Some given else after_at given

-- whether standard input is read for the file of this name, and for the schedule
abbrev pub is_input : List ℕ → Bool
is_input name = bytes_eq name (codes "-")

abbrev pub is_input_or_none : Option (List ℕ) → Bool
is_input_or_none None = false
is_input_or_none (Some name) = is_input name

abbrev pub reads_input : List ℕ → Bool
reads_input given = is_input_or_none (schedule_file given)

-- what files are before one of a name is read, how many of its bytes are read at most, these, and what files are after
abbrev pub ReadsOf : Type 0 → Type 1
ReadsOf F = F → List ℕ → ℕ → List ℕ → F → Type 0

-- the same of standard input
abbrev pub ReadsInputOf : Type 0 → Type 1
ReadsInputOf F = F → ℕ → List ℕ → F → Type 0

module _ {F : Type 0} (Reads : ReadsOf F) (ReadsInput : ReadsInputOf F) where
  -- one file is read, once: standard input, or the one of this name
  abbrev pub IsReadOnce : Bool → F → List ℕ → List ℕ → F → Type 0
  IsReadOnce true before name bytes after = ReadsInput before 67108864 bytes after
  IsReadOnce false before name bytes after = Reads before name 67108864 bytes after

  -- The file of this name is read, or standard input where that is `-`. These are all of its bytes, since they are fewer
  -- than were asked for.
  abbrev pub IsRead : F → List ℕ → List ℕ → F → Type 0
  IsRead before name bytes after = (length bytes < 67108864) × IsReadOnce (bytes_eq name (codes "-")) before name bytes after

  -- What is given is a schedule itself, or says which file has the texts of a way. Standard input is not read where it was
  -- read before. A refusal names where they are from.
  pub data AreTexts (is_input_read : Bool) (before after : F) (given from : List ℕ) (texts : Texts) : Type 0 where
    itself : schedule_file given ≡ None → after ≡ before → from ≡ codes "SCHEDULE" → texts ≡ alone given
        → AreTexts is_input_read before after given from texts
    in_file : (bytes : List ℕ) → schedule_file given ≡ Some from → (is_input_read && is_input from) ≡ false → IsRead before from bytes after
        → texts ≡ texts_in bytes → AreTexts is_input_read before after given from texts

  -- the schedule alone
  abbrev pub IsSchedule : Bool → F → F → List ℕ → List ℕ → List ℕ → Type 0
  IsSchedule is_input_read before after given from text =
      (texts : Texts) × AreTexts is_input_read before after given from texts × (text ≡ texts.schedule)

  -- the bytes of a file have P, and nothing else is read
  abbrev pub AfterFile : F → F → List ℕ → (List ℕ → Type 0) → Type 0
  AfterFile before after file P = (input : List ℕ) × IsRead before file input after × P input

  -- the bytes of a file, and after it a schedule and where it is from
  abbrev pub AfterBoth : F → F → List ℕ → List ℕ → (List ℕ → List ℕ → List ℕ → Type 0) → Type 0
  AfterBoth before after file schedule P =
      (input : List ℕ) × (between : F) × IsRead before file input between
      × (from : List ℕ) × (text : List ℕ) × IsSchedule (is_input file) between after schedule from text × P input from text

  -- the bytes of a file, and after it the texts of a way
  abbrev pub AfterTexts : F → F → List ℕ → List ℕ → (List ℕ → List ℕ → Texts → Type 0) → Type 0
  AfterTexts before after file schedule P =
      (input : List ℕ) × (between : F) × IsRead before file input between
      × (from : List ℕ) × (texts : Texts) × AreTexts (is_input file) between after schedule from texts × P input from texts

-- What files are before a folder of a name is listed, the names of what is in it, unless it is no folder, and what files
-- are after.
abbrev pub ListsOf : Type 0 → Type 1
ListsOf F = F → List ℕ → Option (List (String Global)) → F → Type 0

abbrev pub is_tick : List ℕ → Bool
is_tick name = ends_with eqb name (codes ".tick")
