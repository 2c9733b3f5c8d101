-- Files that were listed and read so far, with all that may follow.
use Rattle.std.proofs.Common.{◌++◌, ℕ, Bool, Bor, true, false, List, [], ◌∷◌, map, string_bytes, refl, subst, sym, inl, inr, Some, None}
use Rattle.std.proofs.lemmas.List.{append-nil, append_assoc}
use Rattle.std.specs.Prelude.{String}
use Rattle.std.specs.Global.{Global}
use Rattle.ticklab_check.specs.declared.source.Source.{Source}
use Rattle.ticklab_answers.specs.Checks.{AreNamed, AreRead, IsAmong, IsNamed, IsNamedBy, IsUnder, IsUnderOne, name_in}
use Rattle.ticklab_files.specs.Reading.{ListsOf}
use Rattle.ticklab_files.specs.Reading.{IsRead, ReadsOf, ReadsInputOf, is_input}

-- a text that stands where there is none
abbrev pub nothing : Bor (List ℕ)
nothing = record { ref_ptr = (0, 0); now = [] }

module _ {F : Type 0} (Lists : ListsOf F) (start : F) (paths : List (List ℕ)) where
  -- these files were named when these paths were left
  abbrev pub AreNamedSoFar : F → List (List ℕ) → List (List ℕ) → Type 0
  AreNamedSoFar now left names = (more : List (List ℕ)) (after : F) → AreNamed Lists now left more after → AreNamed Lists start paths (names ++ more) after

  pub none_named : AreNamedSoFar start paths []
  none_named = λ more after named. named

  pub more_named : (now next : F) (path : List ℕ) (left names first : List (List ℕ)) → IsNamed Lists now path first next
      → AreNamedSoFar now (path ∷ left) names → AreNamedSoFar next left (names ++ first)
  more_named now next path left names first is so_far = λ more after named.
      subst (λ (all : List (List ℕ)). AreNamed Lists start paths all after) (sym (append_assoc names first more))
      (so_far (first ++ more) after (first, more, next, is, named, refl))

  pub all_named : (now : F) (names : List (List ℕ)) → AreNamedSoFar now [] names → AreNamed Lists start paths names now
  all_named now names so_far = subst (λ (all : List (List ℕ)). AreNamed Lists start paths all now) (append-nil names) (so_far [] now (refl, refl))

module _ {F : Type 0} (Reads : ReadsOf F) (ReadsInput : ReadsInputOf F) (start : F) (names : List (List ℕ)) where
  -- these files were read when these names were left
  abbrev pub AreReadSoFar : F → List (List ℕ) → List Source → Type 0
  AreReadSoFar now left sources = (more : List Source) (after : F) → AreRead Reads ReadsInput now left more after → AreRead Reads ReadsInput start names (sources ++ more) after

  pub none_read : AreReadSoFar start names []
  none_read = λ more after read. read

  pub one_read : (now next : F) (left : List (List ℕ)) (sources : List Source) (source : Source)
      → IsRead Reads ReadsInput now (string_bytes source.name) source.bytes.items next
      → AreReadSoFar now (string_bytes source.name ∷ left) sources → AreReadSoFar next left (sources ++ source ∷ [])
  one_read now next left sources source is so_far = λ more after read.
      subst (λ (all : List Source). AreRead Reads ReadsInput start names all after) (sym (append_assoc sources (source ∷ []) more))
      (so_far (source ∷ more) after (next, is, refl, read))

  pub all_read : (now : F) (sources : List Source) → AreReadSoFar now [] sources → AreRead Reads ReadsInput start names sources now
  all_read now sources so_far = subst (λ (all : List Source). AreRead Reads ReadsInput start names all now) (append-nil sources) (so_far [] now (refl, refl))

in_either : (name : List ℕ) (first more : List (List ℕ)) (P : Type 0) → (IsAmong first name → P) → (IsAmong more name → P) → IsAmong (first ++ more) name → P
in_either name [] more P f g is = g is
in_either name (one ∷ first) more P f g is = elim is [
  | inl here ↦ f (inl here)
  | inr there ↦ in_either name first more P (λ later. f (inr later)) g there
]

in_folder : (name folder : List ℕ) (files : List (String Global)) → IsAmong (map (λ file. name_in folder (string_bytes file)) files) name → IsUnder name folder
in_folder name folder [] is = absurd is
in_folder name folder (file ∷ files) is = elim is [
  | inl here ↦ inr (string_bytes file, here)
  | inr there ↦ in_folder name folder files there
]

module _ {F : Type 0} (Lists : ListsOf F) where
  under_by : (b : Bool) (now next : F) (path : List ℕ) (first : List (List ℕ)) → IsNamedBy Lists b now path first next → (name : List ℕ) → IsAmong first name
      → IsUnder name path
  under_by true now next path first named name is = elim (subst (λ (names : List (List ℕ)). IsAmong names name) named.0 is) [
    | inl here ↦ inl here
    | inr never ↦ absurd never
  ]
  under_by false now next path first (None, lists, named) name is = elim (subst (λ (names : List (List ℕ)). IsAmong names name) named is) [
    | inl here ↦ inl here
    | inr never ↦ absurd never
  ]
  under_by false now next path first (Some entries, lists, named) name is = in_folder name path named.files (subst (λ (names : List (List ℕ)). IsAmong names name) named.named is)

  -- a file that is named is one that a path may stand for
  pub all_under : (now after : F) (paths names : List (List ℕ)) → AreNamed Lists now paths names after → (name : List ℕ) → IsAmong names name → IsUnderOne paths name
  all_under now after [] names named name is = absurd (subst (λ (names : List (List ℕ)). IsAmong names name) named.0 is)
  all_under now after (path ∷ paths) names (first, more, between, one, rest, whole) name is =
      in_either name first more (IsUnderOne (path ∷ paths) name) (λ here. inl (under_by (is_input path) now between path first one name here))
      (λ there. inr (all_under between after paths more rest name there)) (subst (λ (names : List (List ℕ)). IsAmong names name) whole is)
