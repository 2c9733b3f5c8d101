-- What must never hold: the lines of a file, of which the code holds properties and places apart, and the texts of a
-- command line.
use Rattle.std.proofs.Common.{◌≡◌, ◌∙◌, ◌++◌, ◌<◌, ◌+◌, ℕ, List, [], ◌∷◌, length, map, drop, get_or, refl, ap, sym, arith, drop-cons, add-one, Some}
use Rattle.std.specs.Prelude.{slice_get}
use Rattle.std.specs.Borrow.{Bor}
use Rattle.std.proofs.lemmas.List.{get_or-map, length-map}
use Rattle.std.proofs.lemmas.Option.{slice_get-get_or}
use Rattle.base.specs.Plain.{Name, WholeProgram}
use Rattle.base.specs.declared.span.Span.{Span}
use Rattle.language_properties.specs.Properties.{Formula, formula_of}
use Rattle.language_questions.specs.declared.questions.NeverLine.{NeverLine}
use Rattle.ticklab_files.specs.Asking.{TellsOption, TellsText, TextPlace, option_then, options_after, place_of, text_place, texts_of}
use Rattle.ticklab_files.specs.declared.asking.PropertyPlace.{PropertyPlace}

-- what is taken apart are the lines
pub lines_kept : (lines : List NeverLine)
    → map formula_of (map (λ line. line.property) lines) ≡ map (λ (line : Formula × Span). line.0) (map (λ line. (formula_of line.property, line.span)) lines)
lines_kept [] = refl
lines_kept (line ∷ lines) = ap (λ (rest : List Formula). formula_of line.property ∷ rest) (lines_kept lines)

pub places_kept : (name input : List ℕ) (lines : List NeverLine)
    → map (λ line. text_place name input line.span) lines
    ≡ map (λ (line : Formula × Span). text_place name input line.1) (map (λ line. (formula_of line.property, line.span)) lines)
places_kept name input [] = refl
places_kept name input (line ∷ lines) = ap (λ (rest : List TextPlace). text_place name input line.span ∷ rest) (places_kept name input lines)

-- the place of the line of this number
pub place_there : (places : List PropertyPlace) (at : ℕ) (one : PropertyPlace) → at < length places → one ≡ get_or places at one
    → slice_get (map place_of places) at ≡ Some (place_of one)
place_there places at one inside is =
    slice_get-get_or (map place_of places) at (place_of one) (omega (arith, inside, length-map places place_of))
    ∙ ap Some (get_or-map place_of places at one (place_of one) inside ∙ ap place_of (sym is))

-- the next text of a command line
pub next_text : (texts : List (Bor (List ℕ))) (i : ℕ) (d : Bor (List ℕ)) → i < length texts
    → texts_of (drop i texts) ≡ (get_or texts i d).now ∷ texts_of (drop (i + 1) texts)
next_text texts i d inside =
    ap texts_of (drop-cons texts i d inside)
    ∙ ap (λ (k : ℕ). (get_or texts i d).now ∷ texts_of (drop k texts)) (sym (add-one i))

-- the first that is none
pub none_read : (a : WholeProgram Name) (lines start : List Formula) (text : List ℕ) (rest before texts : List (List ℕ))
    → before ≡ text ∷ rest → options_after a lines before ≡ options_after a start texts
    → (report : List ℕ) → TellsText a text report → TellsOption a start texts report
none_read a lines start text rest before texts next so_far report told = record {
  text = text;
  fault = told.fault;
  had = sym so_far ∙ ap (options_after a lines) next ∙ ap (option_then text (λ (more : Formula). options_after a (lines ++ more ∷ []) rest)) told.had;
  told = told.told;
}
