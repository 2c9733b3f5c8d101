-- A text has at most one first token or one fault at its front: both are a function of the text.
-- The idea. `outcome` is that function: it goes by the first byte, and takes as many bytes as the word, the number or the
-- sign there has. A token at the front is what it answers (`token_outcome`), and so is a fault (`fault_outcome`). So there
-- is one token (`same_token`), one fault (`same_fault`), and never both (`token_or_fault`).
-- Read `outcome` first, then `token_front` and `same_token`.
use Rattle.std.proofs.Common.{◌≡◌, ℕ, ◌≤◌, Bool, true, false, cond, leb, List, [], ◌∷◌, ◌++◌, length, take, drop, refl, sym, ap, ◌∙◌, arith, inl, inr, Ok, Err, Result, map}
use Rattle.std.specs.Str.Parse.{digits_value}
use Rattle.std.proofs.lemmas.Bool.{cond-true, cond-false, le-leb, lt-leb, leb-true, false≢true, and_parts, or_cases, or_parts, false_from_ne_true}
use Rattle.std.proofs.lemmas.Slice.Eq.{bytes_eq-Decides}
use Rattle.std.specs.Str.{bytes_eq}
use Rattle.std.specs.List.{list_all, list_any}
use Rattle.std.proofs.lemmas.List.{take_at, drop_at}
use Rattle.tick_syntax.specs.Characters.{is_letter, is_digit, is_keyword}
use Rattle.tick_syntax.specs.prover.Extents.{word_length, number_length, sign_length}
use Rattle.tick_syntax.specs.Spelling.{starts, starts_token, span_of, IsWord, IsNumber, IsSign, IsToken, TokenAt, FaultAt}
use Rattle.tick_syntax.specs.Terminals.{spelling, keywords}
use Rattle.base.specs.declared.span.Span.{Span}
use Rattle.tick_syntax.specs.declared.token.Sort.{Sort}
use Rattle.tick_syntax.specs.declared.token.Sort.TheVariants.{Name, Num, Keyword, Sign}
use Rattle.tick_syntax.specs.declared.token.Token.{Token}
use Rattle.tick_syntax.specs.declared.fault.TextFault.{TextFault}
use Rattle.tick_syntax.specs.declared.fault.TextFault.TheVariants.{TextTooLong, BadCharacter, NumberTooBig, NameTooLong, Unexpected, TooDeep, NoMemory}
use Rattle.tick_syntax.proofs.LongestPieces.{word_length_is, number_length_is, sign_length_is, word_starts, number_starts, number_no_letter, sign_no_letter, sign_no_digit, sign_starts}

abbrev Outcome : Type 0
Outcome = Result Token TextFault

abbrev token_of : ℕ → Sort → List ℕ → Outcome
token_of at sort piece = Ok (record { sort = sort; span = span_of at piece })

abbrev word_outcome : ℕ → List ℕ → Outcome
word_outcome at piece =
    cond (is_keyword piece) (token_of at Keyword piece) (cond (leb (length piece) 64) (token_of at Name piece) (Err (NameTooLong (span_of at piece))))

abbrev number_outcome : ℕ → List ℕ → Outcome
number_outcome at piece =
    cond (leb (digits_value 10 piece) 4294967295) (token_of at (Num (digits_value 10 piece)) piece) (Err (NumberTooBig (span_of at piece)))

-- the first token of a text, or why there is none
outcome : ℕ → List ℕ → Outcome
outcome at text =
    cond (starts is_letter text) (word_outcome at (take (word_length text) text)) (cond (starts is_digit text) (number_outcome at (take (number_length text) text)) (cond (starts_token text) (token_of at Sign (take (sign_length text) text)) (Err (BadCharacter at))))

word_front : (at : ℕ) (piece more : List ℕ) → IsWord piece more → outcome at (piece ++ more) ≡ word_outcome at piece
unfolding outcome
word_front at piece more w =
    cond-true _ _ _ (word_starts piece more w) ∙ ap (word_outcome at) (take_at piece more _ (sym (word_length_is piece more w)))

number_front : (at : ℕ) (piece more : List ℕ) → IsNumber piece more → outcome at (piece ++ more) ≡ number_outcome at piece
unfolding outcome
number_front at piece more n =
    cond-false _ _ _ (number_no_letter piece more n) ∙ cond-true _ _ _ (number_starts piece more n) ∙ ap (number_outcome at) (take_at piece more _ (sym (number_length_is piece more n)))

sign_front : (at : ℕ) (piece more : List ℕ) → IsSign piece more → outcome at (piece ++ more) ≡ token_of at Sign piece
unfolding outcome
sign_front at piece more s =
    cond-false _ _ _ (sign_no_letter piece more s) ∙ cond-false _ _ _ (sign_no_digit piece more s) ∙ cond-true _ _ _ (sign_starts piece more s) ∙ ap (token_of at Sign) (take_at piece more _ (sym (sign_length_is piece more s)))

token_front : (at : ℕ) (piece more : List ℕ) (sort : Sort) → IsToken piece more sort → outcome at (piece ++ more) ≡ token_of at sort piece
token_front at piece more Name k =
    word_front at piece more k.0 ∙ cond-false _ _ _ k.1 ∙ cond-true _ _ _ (le-leb (length piece) 64 k.2)
token_front at piece more (Num value) k =
    number_front at piece more k.0 ∙ cond-true _ _ _ (le-leb (digits_value 10 piece) 4294967295 (rw k.1 k.2)) ∙ ap (λ v. token_of at (Num v) piece) k.1
token_front at piece more Keyword k = word_front at piece more k.0 ∙ cond-true _ _ _ k.1
token_front at piece more Sign k = sign_front at piece more k

token_outcome : (at : ℕ) (text : List ℕ) (token : Token) (more : List ℕ) → TokenAt at text token more → outcome at text ≡ Ok token
token_outcome at text token more here =
    ap (outcome at) here.split ∙ token_front at here.piece more token.sort here.kind ∙ ap (λ (span : Span). let found : Outcome = Ok (record { sort = token.sort; span = span }) in found) (sym here.place)

-- what holds of every word of a list holds of each that is among them
pub among_words : (test : List ℕ → Bool) (word : List ℕ) (words : List (List ℕ)) → list_all test words ≡ true → list_any (λ other. bytes_eq other word) words ≡ true → test word ≡ true
among_words test word [] all some = absurd (false≢true some)
among_words test word (other ∷ words) all some =
    let parts = and_parts _ _ all in
    elim (or_cases _ _ some) [ inl same ↦ ap test (sym ((bytes_eq-Decides other word).0 same)) ∙ parts.0 | inr later ↦ among_words test word words parts.1 later ]

keyword_short : (piece : List ℕ) → is_keyword piece ≡ true → length piece ≤ 64
keyword_short piece keyword =
    leb-true (length piece) 64 (among_words (λ word. leb (length word) 64) piece (map spelling keywords) refl keyword)

no_front : (text : List ℕ) → starts_token text ≡ false → (starts is_letter text ≡ false) × (starts is_digit text ≡ false)
no_front [] none = (refl, refl)
no_front (b ∷ bs) none = or_parts _ _ (or_parts _ _ (or_parts _ _ none).0).0

fault_outcome : (at : ℕ) (text : List ℕ) (fault : TextFault) → FaultAt at text fault → outcome at text ≡ Err fault
unfolding outcome
fault_outcome at text (BadCharacter place) f =
    let front = no_front text f.1 in
    cond-false _ _ _ front.0 ∙ cond-false _ _ _ front.1 ∙ cond-false _ _ _ f.1 ∙ ap (λ (p : ℕ). let found : Outcome = Err (BadCharacter p) in found) (sym f.2)
fault_outcome at text (NumberTooBig span) f =
    ap (outcome at) f.2 ∙ number_front at f.0 f.1 f.3 ∙ cond-false _ _ _ (lt-leb (digits_value 10 f.0) 4294967295 f.4) ∙ ap (λ (span : Span). let found : Outcome = Err (NumberTooBig span) in found) (sym f.5)
fault_outcome at text (NameTooLong span) f =
    let no_keyword = false_from_ne_true (is_keyword f.0) (λ keyword. omega (arith, keyword_short f.0 keyword, f.4)) in
    ap (outcome at) f.2 ∙ word_front at f.0 f.1 f.3 ∙ cond-false _ _ _ no_keyword ∙ cond-false _ _ _ (lt-leb (length f.0) 64 f.4) ∙ ap (λ (span : Span). let found : Outcome = Err (NameTooLong span) in found) (sym f.5)
fault_outcome at text TextTooLong f = absurd f
fault_outcome at text (Unexpected span) f = absurd f
fault_outcome at text (TooDeep span) f = absurd f
fault_outcome at text NoMemory f = absurd f

-- one token at most, which leaves one rest
pub same_token : (at : ℕ) (text : List ℕ) (a b : Token) (more rest : List ℕ) → TokenAt at text a more → TokenAt at text b rest → (a ≡ b) × (more ≡ rest)
same_token at text a b more rest here there =
    let found = token_outcome at text a more here in
    let again = token_outcome at text b rest there in
    let same : a ≡ b = cc in
    let place : span_of at here.piece ≡ span_of at there.piece = sym here.place ∙ ap (λ (t : Token). t.span) same ∙ there.place in
    let longer = ap (λ (s : Span). s.end) place in
    let size : length here.piece ≡ length there.piece = omega arith in (
      same,
      sym (drop_at here.piece more (length there.piece) size) ∙ ap (drop (length there.piece)) (sym here.split ∙ there.split) ∙ drop_at there.piece rest (length there.piece) refl,
    )

pub token_or_fault : (at : ℕ) (text : List ℕ) (token : Token) (more : List ℕ) (fault : TextFault) → TokenAt at text token more → FaultAt at text fault → ⊥
token_or_fault at text token more fault here fails =
    let found = token_outcome at text token more here in
    let failed = fault_outcome at text fault fails in
    cc

pub same_fault : (at : ℕ) (text : List ℕ) (a b : TextFault) → FaultAt at text a → FaultAt at text b → a ≡ b
same_fault at text a b fails again =
    let found = fault_outcome at text a fails in
    let other = fault_outcome at text b again in
    cc

nothing : (at : ℕ) → outcome at [] ≡ Err (BadCharacter at)
unfolding outcome
nothing at = refl

-- the empty text has neither
pub no_token_at_end : (at : ℕ) (text : List ℕ) (token : Token) (more : List ℕ) → text ≡ [] → TokenAt at text token more → ⊥
no_token_at_end at text token more ends here =
    let found = token_outcome at text token more here in
    let none = ap (outcome at) ends ∙ nothing at in
    cc

pub no_fault_at_end : (at : ℕ) (text : List ℕ) (fault : TextFault) → text ≡ [] → FaultAt at text fault → ⊥
no_fault_at_end at text (BadCharacter place) ends fails = omega (arith, ap length ends, fails.0)
no_fault_at_end at text (NumberTooBig span) ends fails =
    let found = fault_outcome at text (NumberTooBig span) fails in
    let none = ap (outcome at) ends ∙ nothing at in
    cc
no_fault_at_end at text (NameTooLong span) ends fails =
    let found = fault_outcome at text (NameTooLong span) fails in
    let none = ap (outcome at) ends ∙ nothing at in
    cc
no_fault_at_end at text TextTooLong ends fails = fails
no_fault_at_end at text (Unexpected span) ends fails = fails
no_fault_at_end at text (TooDeep span) ends fails = fails
no_fault_at_end at text NoMemory ends fails = fails
