-- The page of a run, of which each part is what it is said to be.
use Rattle.std.proofs.Common.{◌≡◌, ◌∙◌, ap, refl, ℕ, Bool, List, [], ◌∷◌, map, string_bytes, Option}
use Rattle.base.specs.View.{name_of}
use Rattle.base.specs.declared.tree.Named.{Named}
use Rattle.ticklab_trace.specs.declared.folds.Row.{Row}
use Rattle.ticklab_trace.specs.declared.parts.Parts.{Parts}
use Rattle.ticklab_draw.specs.Never.{Broken}
use Rattle.ticklab_draw.specs.Words.{names}
use Rattle.ticklab_page.specs.Pages.{letters, page_text}
use Rattle.ticklab_page.specs.Runs.{ShownRun}

-- the names of a section, as a tree has them
pub named : (section : List Named) → names section ≡ letters (map name_of section)
named [] = refl
named (x ∷ section) = ap (λ (more : List (List ℕ)). string_bytes x.name ∷ more) (named section)

abbrev made : List ℕ → ℕ → Bool → List (List ℕ) → List (List ℕ) → List (List ℕ) → List (List ℕ) → Option Parts → List Row → List ℕ → ℕ → Option ℕ → List ℕ → List ℕ → ShownRun
made title n is_code rows scans variables listing parts folds trace count trap changes drawn = record {
  title = title;
  processes = n;
  is_code = is_code;
  rows = rows;
  scans = scans;
  variables = variables;
  listing = listing;
  parts = parts;
  folds = folds;
  trace = trace;
  count = count;
  trap = trap;
  changes = changes;
  drawn = drawn;
}

module _ (title : List ℕ) (is_code : Bool) (parts : Option Parts) (count : ℕ) (drawn : List ℕ) (broken : Option Broken) where
  abbrev page : ℕ → List (List ℕ) → List (List ℕ) → List (List ℕ) → List (List ℕ) → List Row → List ℕ → Option ℕ → List ℕ → List ℕ
  page n rows scans variables listing folds trace trap changes =
      page_text (made title n is_code rows scans variables listing parts folds trace count trap changes drawn) broken

  pub same_page : (n m : ℕ) (rows others scans copies variables more listing lines : List (List ℕ)) (folds folded : List Row) (trace told : List ℕ) (trap first : Option ℕ) (changes left : List ℕ)
      → n ≡ m → rows ≡ others → scans ≡ copies → variables ≡ more → listing ≡ lines → folds ≡ folded → trace ≡ told → trap ≡ first → changes ≡ left
      → page n rows scans variables listing folds trace trap changes ≡ page m others copies more lines folded told first left
  same_page n m rows others scans copies variables more listing lines folds folded trace told trap first changes left e_n e_rows e_scans e_variables e_listing e_folds e_trace e_trap e_changes =
      ap (λ (x : ℕ). page x rows scans variables listing folds trace trap changes) e_n
      ∙ ap (λ (x : List (List ℕ)). page m x scans variables listing folds trace trap changes) e_rows
      ∙ ap (λ (x : List (List ℕ)). page m others x variables listing folds trace trap changes) e_scans
      ∙ ap (λ (x : List (List ℕ)). page m others copies x listing folds trace trap changes) e_variables
      ∙ ap (λ (x : List (List ℕ)). page m others copies more x folds trace trap changes) e_listing
      ∙ ap (λ (x : List Row). page m others copies more lines x trace trap changes) e_folds
      ∙ ap (λ (x : List ℕ). page m others copies more lines folded x trap changes) e_trace
      ∙ ap (λ (x : Option ℕ). page m others copies more lines folded told x changes) e_trap
      ∙ ap (λ (x : List ℕ). page m others copies more lines folded told first x) e_changes
