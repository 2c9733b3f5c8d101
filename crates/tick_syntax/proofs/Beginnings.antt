-- How the text of a program begins: its first token is a keyword, so no name stands before it.
use Rattle.std.proofs.Common.{◌≡◌, ℕ, ◌==◌, false, List, [], ◌∷◌, ◌++◌, take, drop, refl, sym, ap, ◌∙◌, subst, arith, codes}
use Rattle.std.specs.List.{starts_with}
use Rattle.std.proofs.lemmas.Bool.{false_from_ne_true}
use Rattle.std.proofs.lemmas.List.{take-append-drop}
use Rattle.std.proofs.lemmas.Slice.Eq.{bytes_eq-Decides}
use Rattle.tick_syntax.specs.declared.token.Sort.TheVariants as K
use Rattle.tick_syntax.specs.declared.token.Token.{Token}
use Rattle.tick_syntax.specs.Grammar.{program_tokens}
use Rattle.tick_syntax.specs.Lexeme.{lexemes}
use Rattle.base.specs.Plain.{Name, WholeProgram}
use Rattle.tick_syntax.specs.RoundTrip.{IsTextOf}
use Rattle.tick_syntax.specs.Spelling.{Spells, TokenAt}
use Rattle.tick_syntax.proofs.FirstToken.{same_token}

-- a program's first token says a terminal
no_name_first : (text : List ℕ) (token : Token) (tokens : List Token) (p : WholeProgram Name) → token.sort ≡ K.Name
    → lexemes text (token ∷ tokens) ≡ program_tokens p → ⊥
no_name_first text token tokens p name says = absurd (cc)

no_token_first : (p : WholeProgram Name) → [] ≡ program_tokens p → ⊥
no_token_first p says = absurd (cc)

-- a text that begins with `tickcode` and a space has that name first
begins_by_name : (rest : List ℕ) (tokens : List Token) (p : WholeProgram Name)
    → Spells (codes "tickcode " ++ rest) tokens → lexemes (codes "tickcode " ++ rest) tokens ≡ program_tokens p → ⊥
begins_by_name rest [] p spells says = no_token_first p says
begins_by_name rest (token ∷ tokens) p spells says =
    let text : List ℕ = codes "tickcode " ++ rest in
    let name : Token = record { sort = K.Name; span = record { start = 0; end = 8 } } in
    let here : TokenAt 0 text name (32 ∷ rest) =
    record { piece = codes "tickcode"; split = refl; kind = (record { word = refl; longest = refl }, refl, omega arith); place = refl } in
    let same = same_token 0 text token name spells.0 (32 ∷ rest) spells.1 here in
    no_name_first text token tokens p (ap (λ (t : Token). t.sort) same.0) says

-- a text of a program does not begin as a code does
pub program_text_begins : (text : List ℕ) (p : WholeProgram Name) → IsTextOf text p
    → starts_with (λ a b. a == b) text (codes "tickcode ") ≡ false
program_text_begins text p is = false_from_ne_true _ (λ begins.
    let front : codes "tickcode " ≡ take 9 text = (bytes_eq-Decides (codes "tickcode ") (take 9 text)).0 begins in
    let split : text ≡ codes "tickcode " ++ drop 9 text = sym (take-append-drop 9 text) ∙ ap (λ z. z ++ drop 9 text) (sym front) in
    begins_by_name (drop 9 text) is.0 p (subst (λ z. Spells z is.0) split is.1) (subst (λ z. lexemes z is.0 ≡ program_tokens p) split is.2.0))
