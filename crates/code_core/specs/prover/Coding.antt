-- What is known of the words of a code.
use Rattle.std.specs.Prelude.{◌≡◌, ℕ, ◌/◌, ◌%◌, ◌≤◌, ◌<◌, All, List, ◌++◌, length, take, drop}
use Rattle.code_core.specs.declared.instr.Instr.{Instr}
use Rattle.code_core.specs.declared.instr.Instr.TheVariants as I
use Rattle.code_core.specs.Words.{constants_of, words_from, words_of}

-- the slots and the place of an instruction have their bits
abbrev pub SlotsFit : Instr → Type 0
SlotsFit (I.Load x) = x < 256
SlotsFit (I.Store x) = x < 256
SlotsFit (I.Get r x) = (r < 256) × (x < 256)
SlotsFit (I.Put r) = r < 256
SlotsFit (I.Exchange l) = l < 65536
SlotsFit (I.Scan s) = s < 256
SlotsFit (I.Copy s t) = (s < 256) × (t < 256)
SlotsFit (I.Older s x) = (s < 256) × (x < 256)
SlotsFit (I.Held s x) = (s < 256) × (x < 256)
SlotsFit (I.JumpZero l) = l < 65536
SlotsFit (I.Jump l) = l < 65536
SlotsFit _ = Unit {0}

-- there is the kind, the sign of an operator, and the constant, of which there are this many
pub record IsWord (constants word : ℕ) : Type 0 where
  pub known : word / 16777216 ≤ 19
  pub constant : word / 16777216 ≡ 0 → word % 65536 < constants
  pub sign : word / 16777216 ≡ 4 → word % 256 ≤ 8

pub record AreCoded (code : List Instr) (words constants : List ℕ) : Type 0 where
  pub words_are : words ≡ words_of code
  pub constants_are : constants ≡ constants_of code
  pub each : All (IsWord (length constants)) words

-- after `k` instructions
pub record Coding (code : List Instr) (k : ℕ) (words constants : List ℕ) : Type 0 where
  pub words_are : words ++ words_from (length constants) (drop k code) ≡ words_of code
  pub constants_are : constants ++ constants_of (drop k code) ≡ constants_of code
  pub slots : All SlotsFit (take k code)
  pub few : length constants ≤ k
