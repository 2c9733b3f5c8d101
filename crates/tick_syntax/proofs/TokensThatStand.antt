-- Which tokens a text can have: what each token of a spelled text says (`all_stand`), and that a token that
-- says it is spelled again where it is printed (`written`).
--
-- The idea. Both are a case split, on the sort of the token and on what it says. A name or a number is a
-- token by the conditions that `CanStand` has. The difficulty is in keywords and signs: a text has bytes that
-- pass a test (`is_keyword`, `is_sign`), and what they say is looked up by their spelling (`spelled_among`).
-- `is_keyword` and the lookup go through one list (`keyword_found`). `is_sign` looks at one byte at a time,
-- so the lookup is computed for each byte that passes (`sign_found`). Back, each terminal is found by its own
-- spelling (`terminal_told`). Read `sort_stands` first, then `Written`.
use Rattle.std.proofs.Common.{cond, sym, false, ◌||◌, ◌≡◌, ℕ, Bool, true, ◌==◌, ◌⊎◌, inl, inr, Option, Some, None, List, [], ◌∷◌, ◌++◌, refl, ap, ◌∙◌, drop, slice_range}
use Rattle.std.proofs.lemmas.Bool.{and_parts, eqb-true, false≢true}
use Rattle.std.specs.Fmt.{decimal}
use Rattle.std.specs.List.{find, list_all, list_any}
use Rattle.std.specs.Str.{bytes_eq}
use Rattle.std.specs.Option.{is_some}
use Rattle.base.specs.declared.span.Span.{Span}
use Rattle.tick_syntax.specs.declared.token.Sort.{Sort}
use Rattle.tick_syntax.specs.declared.token.Sort.TheVariants as K
use Rattle.tick_syntax.specs.declared.token.Token.{Token}
use Rattle.base.specs.declared.operator.Op.TheVariants as O
use Rattle.tick_syntax.specs.declared.terminals.Terminal.{Terminal}
use Rattle.tick_syntax.specs.declared.terminals.Terminal.TheVariants as T
use Rattle.base.specs.Blanks.{is_blank}
use Rattle.tick_syntax.specs.Characters.{is_keyword, lone_signs, before_equals, is_sign}
use Rattle.tick_syntax.specs.Lexeme.{Lexeme, a_name, a_number, a_terminal, nothing, of_terminal, lexeme_at, lexemes}
use Rattle.tick_syntax.specs.Printed.{after_terminal, printed_token}
use Rattle.tick_syntax.specs.Refusal.{CanStand, AllCanStand}
use Rattle.tick_syntax.specs.Spelling.{IsToken, StandInOrder}
use Rattle.tick_syntax.specs.Terminals.{spelling, signs, keywords, spelled_among}
use Rattle.tick_syntax.proofs.LongestPieces.{among}
use Rattle.tick_syntax.proofs.Spanless.{spanless, spanless_all}
use Rattle.tick_syntax.proofs.SpelledPieces.{name_token, number_token, keyword_token, sign_token}

-- one of these is spelled so
abbrev is_spelled : List Terminal → List ℕ → Bool
is_spelled ws bytes = is_some (spelled_among ws bytes)

any_found : (test : Terminal → Bool) (ws : List Terminal) → list_any test ws ≡ is_some (find test ws)
any_found test [] = refl
any_found test (w ∷ ws) = by_test (test w) (any_found test ws)
  where
    by_test : (b : Bool) → list_any test ws ≡ is_some (find test ws) → (b || list_any test ws) ≡ is_some (cond b (Some w) (find test ws))
    by_test true e = refl
    by_test false e = e

-- what holds of each of these holds of the one that is spelled so
pub found_passes : (test : Terminal → Bool) (ws : List Terminal) (bytes : List ℕ) (w : Terminal) → list_all test ws ≡ true
    → spelled_among ws bytes ≡ Some w → test w ≡ true
unfolding spelled_among
found_passes test [] bytes w all found = absurd (cc)
found_passes test (v ∷ ws) bytes w all found =
    let parts = and_parts (test v) (list_all test ws) all in
    by_test (bytes_eq (spelling v) bytes) _ found parts.0 (λ later. found_passes test ws bytes w parts.1 later)
  where
    by_test : (b : Bool) (later : Option Terminal) → cond b (Some v) later ≡ Some w → test v ≡ true → (later ≡ Some w → test w ≡ true) → test w ≡ true
    by_test true later e here go = let same : v ≡ w = cc in ap test (sym same) ∙ here
    by_test false later e here go = go e

pub keyword_found : (bytes : List ℕ) → is_keyword bytes ≡ is_some (spelled_among keywords bytes)
unfolding spelled_among
keyword_found bytes = any_found (λ w. bytes_eq (spelling w) bytes) keywords

terminal_stands : (found : Option Terminal) → is_some found ≡ true → CanStand (of_terminal found)
terminal_stands None some = false≢true some
terminal_stands (Some w) some = tt

lone_spelled : (a : ℕ) → list_any (λ sign. a == sign) lone_signs ≡ true → is_spelled signs (a ∷ []) ≡ true
unfolding spelled_among
lone_spelled a lone = among (λ b. is_spelled signs (b ∷ [])) a lone_signs refl lone

pair_spelled : (a : ℕ) → list_any (λ sign. a == sign) before_equals ≡ true → is_spelled signs (a ∷ 61 ∷ []) ≡ true
unfolding spelled_among
pair_spelled a first = among (λ b. is_spelled signs (b ∷ 61 ∷ [])) a before_equals refl first

pub sign_found : (bytes : List ℕ) → is_sign bytes ≡ true → is_some (spelled_among signs bytes) ≡ true
sign_found [] sign = absurd (false≢true sign)
sign_found (a ∷ []) sign = lone_spelled a sign
sign_found (a ∷ b ∷ []) sign =
    let parts = and_parts _ _ sign in
    ap (λ c. is_spelled signs (a ∷ c ∷ [])) (eqb-true b 61 parts.1) ∙ pair_spelled a parts.0
sign_found (a ∷ b ∷ c ∷ bytes) sign = absurd (false≢true sign)

sort_stands : (sort : Sort) (bytes more : List ℕ) (span : Span) → IsToken bytes more sort → CanStand (lexeme_at sort bytes span)
sort_stands K.Name bytes more span kind = (kind.0.word, kind.1, kind.2)
sort_stands (K.Num v) bytes more span kind = kind.2
sort_stands K.Keyword bytes more span kind = terminal_stands (spelled_among keywords bytes) (sym (keyword_found bytes) ∙ kind.1)
sort_stands K.Sign bytes more span kind = terminal_stands (spelled_among signs bytes) (sign_found bytes kind.sign)

-- each token of a spelled text says what a text can have
pub all_stand : (text : List ℕ) (from : ℕ) (tokens : List Token) → StandInOrder text from tokens → AllCanStand (lexemes text tokens)
all_stand text from [] order = tt
all_stand text from (token ∷ tokens) order = (
  sort_stands token.sort (slice_range text token.span.start token.span.end) (drop token.span.end text) token.span order.2,
  all_stand text token.span.end tokens order.3,
)

-- tokens among those that a text can have
pub middle_stands : (text : List ℕ) (a m q : List Token) → AllCanStand (lexemes text ((a ++ m) ++ q)) → AllCanStand (lexemes text m)
middle_stands text [] [] q all = tt
middle_stands text [] (t ∷ m) q all = (all.0, middle_stands text [] m q all.1)
middle_stands text (t ∷ a) m q all = middle_stands text a m q all.1

-- spans don't matter to it
stands_spanless : (t : Lexeme) → CanStand t → CanStand (spanless t)
stands_spanless (a_name x) c = c
stands_spanless (a_number v) c = c
stands_spanless (a_terminal w) c = c
stands_spanless nothing c = c

pub all_spanless : (ts : List Lexeme) → AllCanStand ts → AllCanStand (spanless_all ts)
all_spanless [] all = tt
all_spanless (t ∷ ts) all = (stands_spanless t all.0, all_spanless ts all.1)

-- a keyword is spelled as no other keyword is, and a sign as no other sign
terminal_told : (w : Terminal) → ((is_keyword (spelling w) ≡ true) × (spelled_among keywords (spelling w) ≡ Some w))
    ⊎ ((is_sign (spelling w) ≡ true) × (spelled_among signs (spelling w) ≡ Some w))
unfolding spelled_among
terminal_told T.Semicolon = inr (refl, refl)
terminal_told T.Comma = inr (refl, refl)
terminal_told T.Open = inr (refl, refl)
terminal_told T.Close = inr (refl, refl)
terminal_told T.OpenBrace = inr (refl, refl)
terminal_told T.CloseBrace = inr (refl, refl)
terminal_told T.Becomes = inr (refl, refl)
terminal_told (T.Operator O.Add) = inr (refl, refl)
terminal_told (T.Operator _) = inr (refl, refl)
terminal_told _ = inl (refl, refl)

blank_after : (w : Terminal) → is_blank (after_terminal w) ≡ true
blank_after T.Semicolon = refl
blank_after _ = refl

-- how a token is printed before more text: its bytes and a blank, of which a token that says the same is read
pub record Written (t : Lexeme) (more : List ℕ) : Type 0 where
  pub piece : List ℕ
  pub blank : ℕ
  pub sort : Sort
  pub text : printed_token t ≡ piece ++ blank ∷ []
  pub ends : is_blank blank ≡ true
  pub kind : IsToken piece (blank ∷ more) sort
  pub says : (span : Span) → spanless (lexeme_at sort piece span) ≡ spanless t

pub written : (t : Lexeme) (more : List ℕ) → CanStand t → Written t more
written (a_name x) more c = record {
  piece = x.letters;
  blank = 32;
  sort = K.Name;
  text = refl;
  ends = refl;
  kind = name_token x.letters 32 more c.0 c.1 c.2 refl;
  says = λ span. refl;
}
written (a_number v) more c = record {
  piece = decimal v;
  blank = 32;
  sort = K.Num v;
  text = refl;
  ends = refl;
  kind = number_token v 32 more c refl;
  says = λ span. refl;
}
written (a_terminal w) more c =
    elim (terminal_told w) [
      | inl keyword ↦ word K.Keyword (keyword_token (spelling w) (after_terminal w) more keyword.0 (blank_after w)) (λ span. ap (λ found. spanless (of_terminal found)) keyword.1)
      | inr sign ↦ word K.Sign (sign_token (spelling w) (after_terminal w) more sign.0 (blank_after w)) (λ span. ap (λ found. spanless (of_terminal found)) sign.1)
    ]
  where
    word : (sort : Sort) → IsToken (spelling w) (after_terminal w ∷ more) sort
        → ((span : Span) → spanless (lexeme_at sort (spelling w) span) ≡ a_terminal w) → Written (a_terminal w) more
    word sort kind says = record {
      piece = spelling w;
      blank = after_terminal w;
      sort = sort;
      text = refl;
      ends = blank_after w;
      kind = kind;
      says = says;
    }
written nothing more c = absurd c
