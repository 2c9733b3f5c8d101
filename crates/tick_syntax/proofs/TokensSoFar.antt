-- The token at a place of a text, and how the tokens that are read so far go on. What is measured at a place
-- is a token there (`read_at`) or a fault (`long_name`, `big_number`, `no_sign_here`). At the end of the text
-- the tokens so far spell it (`read_all`), and a fault after them is the text's first (`read_fault`).
--
-- The idea. `LongestPieces` speaks of the front of a text, and the code of two places in it; `shape_at` goes
-- from one to the other. The rest is the invariant of the lexer's loop, `ReadSoFar`. The difficulty is that
-- `SpellsFrom` takes tokens off the front, and the loop adds them at the end. So the invariant speaks of any
-- tokens `later`: if they spell what is left, then those so far and these spell the whole text. One token
-- more goes to the front of `later` (`read_more`). Read `ReadSoFar` and `read_more` first.
use Rattle.std.proofs.Common.{map, ◌≡◌, ℕ, ◌<◌, ◌≤◌, ◌⊎◌, inl, inr, refl, zero-add, Bool, true, List, [], ◌∷◌, ◌++◌, ◌+◌, ◌-◌, length, take, drop, get_or, sym, ap, ◌∙◌, subst, arith, slice_range, append_assoc, Some, None, false, Bor, not}
use Rattle.std.specs.Str.Parse.{digits_value}
use Rattle.std.specs.Option.{is_some}
use Rattle.std.proofs.lemmas.Bool.{not-true, false≢true}
use Rattle.std.proofs.lemmas.Bool.Decides.{leb_tells}
use Rattle.std.proofs.lemmas.List.{drop-drop, at_drop_more, length-take-le, length-drop, append-nil, drop_all}
use Rattle.std.proofs.lemmas.List.Folds.{drop_split}
use Rattle.tick_syntax.specs.Characters.{is_letter, is_digit}
use Rattle.tick_syntax.specs.prover.Extents.{word_length, number_length, sign_length, IsReadAt}
use Rattle.tick_syntax.specs.Spelling.{starts, gap_length, after_gap, span_of, IsWord, IsNumber, IsSign, IsToken, HasToken, TokenAt, FaultAt, SpellsFrom, Spells, FaultAfter, FirstFault}
use Rattle.base.specs.declared.span.Span.{Span}
use Rattle.tick_syntax.specs.declared.token.Sort.{Sort}
use Rattle.tick_syntax.specs.declared.token.Sort.TheVariants as K
use Rattle.tick_syntax.specs.declared.valued_token.Meaning.TheVariants as M
use Rattle.tick_syntax.specs.declared.terminals.Terminal.{Terminal}
use Rattle.tick_syntax.specs.Terminals.{signs, keywords, spelled_among}
use Rattle.tick_syntax.proofs.TokensThatStand.{found_passes, keyword_found, sign_found}
use Rattle.tick_syntax.specs.declared.token.Token.{Token}
use Rattle.tick_syntax.specs.declared.valued_token.ValuedToken.{ValuedToken}
use Rattle.tick_syntax.specs.declared.valued_token.Meaning.{Meaning}
use Rattle.tick_syntax.specs.Lexeme.{a_name, of_terminal, lexeme_at}
use Rattle.tick_syntax.specs.prover.ValuedTokens.{is_sign_terminal, sign_or_keyword, plain, said_by, sort_by, SayAs, AreValues}
use Rattle.std.proofs.lemmas.List.{map-append}
use Rattle.tick_syntax.specs.declared.fault.TextFault.{TextFault}
use Rattle.tick_syntax.specs.declared.fault.TextFault.TheVariants.{BadCharacter, NumberTooBig, NameTooLong}
use Rattle.tick_syntax.proofs.LongestPieces.{word_of_text, number_of_text, sign_of_text, word_positive, number_positive, no_token}

-- what holds of the longest front holds of the bytes from a place to its end
shape_at : (P : List ℕ → List ℕ → Type 0) (bytes : List ℕ) (from end n : ℕ) → end ≡ from + n → P (take n (drop from bytes)) (drop n (drop from bytes)) → P (slice_range bytes from end) (drop end bytes)
shape_at P bytes from end n e shape =
    let size : end - from ≡ n = omega arith in
    let rest : drop end bytes ≡ drop n (drop from bytes) = ap (λ k. drop k bytes) e ∙ sym (drop-drop n from bytes) in
    subst (λ (more : List ℕ). P (slice_range bytes from end) more) (sym rest) (subst (λ (k : ℕ). P (take k (drop from bytes)) (drop n (drop from bytes))) (sym size) shape)

starts_at : (test : ℕ → Bool) (b : Bool) (bytes : List ℕ) (from : ℕ) → from < length bytes → test (get_or bytes from 0) ≡ b → starts test (drop from bytes) ≡ b
starts_at test b bytes from within begins = at_drop_more (starts test) bytes from 0 within ∙ begins

pub piece_size : (bytes : List ℕ) (from end : ℕ) → from ≤ end → end ≤ length bytes → length (slice_range bytes from end) ≡ end - from
piece_size bytes from end order within =
    length-take-le (end - from) (drop from bytes) (omega (arith, length-drop from bytes))

span_at : (bytes : List ℕ) (from end : ℕ) → from ≤ end → end ≤ length bytes → ◌≡◌ {A = Span} (record { start = from; end = end }) (span_of from (slice_range bytes from end))
span_at bytes from end order within =
    let size = piece_size bytes from end order within in
    let e : end ≡ from + length (slice_range bytes from end) = omega arith in
    ap (λ (n : ℕ). let span : Span = record { start = from; end = n } in span) e

-- the bytes from a place to an end, of which two things hold
piece_at : (P : List ℕ → List ℕ → Type 0) (Q : List ℕ → Type 0) (bytes : List ℕ) (from end : ℕ) → from < end → end ≤ length bytes
    → P (slice_range bytes from end) (drop end bytes) → Q (slice_range bytes from end)
    → (piece more : List ℕ) × (drop from bytes ≡ piece ++ more) × P piece more × Q piece
    × ((let span : Span = record { start = from; end = end } in span) ≡ span_of from piece)
piece_at P Q bytes from end order within p q = (
  slice_range bytes from end,
  drop end bytes,
  drop_split bytes from end (omega arith),
  p,
  q,
  span_at bytes from end (omega arith) within,
)

-- a token of this sort, with what its bytes say
pub read_at : (bytes : List ℕ) (from end : ℕ) (meaning : Meaning) (sort : Sort) → sort_by meaning ≡ sort → from < end → end ≤ length bytes
    → IsToken (slice_range bytes from end) (drop end bytes) sort
    → said_by meaning (record { start = from; end = end }) ≡ lexeme_at sort (slice_range bytes from end) (record { start = from; end = end })
    → IsReadAt bytes from (record { meaning = meaning; span = record { start = from; end = end } })
read_at bytes from end meaning sort same order within kind said =
    record {
      here = record {
        piece = slice_range bytes from end;
        split = drop_split bytes from end (omega arith);
        kind = subst (IsToken (slice_range bytes from end) (drop end bytes)) (sym same) kind;
        place = span_at bytes from end (omega arith) within;
      };
      says_it = said ∙ ap (λ z. lexeme_at z (slice_range bytes from end) (record { start = from; end = end })) (sym same);
      after = order;
      within = within;
    }

-- the longest front of a text from a place, which its first byte begins, and so it has a byte
front_at : (P : List ℕ → List ℕ → Type 0) (test : ℕ → Bool) (bytes : List ℕ) (from end n : ℕ) → from < length bytes → test (get_or bytes from 0) ≡ true → end ≡ from + n
    → (starts test (drop from bytes) ≡ true → P (take n (drop from bytes)) (drop n (drop from bytes)))
    → (starts test (drop from bytes) ≡ true → 0 < n)
    → P (slice_range bytes from end) (drop end bytes) × (from < end)
front_at P test bytes from end n within begins e shape some =
    let there : starts test (drop from bytes) ≡ true = starts_at test true bytes from within begins in
    (shape_at P bytes from end n e (shape there), omega (arith, some there))

-- a word, and one that is too long to be a name
pub word_in : (bytes : List ℕ) (from end : ℕ) → from < length bytes → is_letter (get_or bytes from 0) ≡ true → end ≡ from + word_length (drop from bytes) → IsWord (slice_range bytes from end) (drop end bytes) × (from < end)
word_in bytes from end within letter e =
    front_at IsWord is_letter bytes from end (word_length (drop from bytes)) within letter e (word_of_text (drop from bytes)) (word_positive (drop from bytes))

pub long_name : (bytes : List ℕ) (from end : ℕ) → from < end → end ≤ length bytes → IsWord (slice_range bytes from end) (drop end bytes) → 64 < end - from → FaultAt from (drop from bytes) (NameTooLong (record { start = from; end = end }))
long_name bytes from end order within word long =
    piece_at IsWord (λ piece. 64 < length piece) bytes from end order within word
    (omega (arith, piece_size bytes from end (omega arith) within, long))

-- a number, and one that is too big
pub number_in : (bytes : List ℕ) (from end : ℕ) → from < length bytes → is_digit (get_or bytes from 0) ≡ true → end ≡ from + number_length (drop from bytes) → IsNumber (slice_range bytes from end) (drop end bytes) × (from < end)
number_in bytes from end within digit e =
    front_at IsNumber is_digit bytes from end (number_length (drop from bytes)) within digit e (number_of_text (drop from bytes)) (number_positive (drop from bytes))

pub big_number : (bytes : List ℕ) (from end : ℕ) → from < end → end ≤ length bytes → IsNumber (slice_range bytes from end) (drop end bytes) → 4294967295 < digits_value 10 (slice_range bytes from end) → FaultAt from (drop from bytes) (NumberTooBig (record { start = from; end = end }))
big_number bytes from end order within number big =
    piece_at IsNumber (λ piece. 4294967295 < digits_value 10 piece) bytes from end order within number big

sign_in : (bytes : List ℕ) (from end : ℕ) → from < end → end ≡ from + sign_length (drop from bytes) → IsSign (slice_range bytes from end) (drop end bytes)
sign_in bytes from end order e =
    shape_at IsSign bytes from end (sign_length (drop from bytes)) e (sign_of_text (drop from bytes) (omega arith))

-- nothing is spelled by no bytes
no_sign : (w : Terminal) → spelled_among signs [] ≡ Some w → ⊥
unfolding spelled_among
no_sign w h = cc

pub sign_here : (bytes : List ℕ) (from end : ℕ) (w : Terminal) → end ≤ length bytes → end ≡ from + sign_length (drop from bytes)
    → Some w ≡ spelled_among signs (slice_range bytes from end) → IsReadAt bytes from (record { meaning = M.Terminal w; span = record { start = from; end = end } })
sign_here bytes from end w within e found =
    elim (leb_tells end from) [
      | inl none ↦
          let size : end - from ≡ 0 = omega (arith, none.1) in
          absurd (no_sign w (ap (λ n. spelled_among signs (take n (drop from bytes))) (sym size) ∙ sym found))
      | inr some ↦
          let order : from < end = some.1 in
          read_at bytes from end (M.Terminal w) K.Sign (ap sign_or_keyword (found_passes is_sign_terminal signs _ w refl (sym found))) order within
          (sign_in bytes from end order e) (ap of_terminal found)
    ]

pub no_sign_here : (bytes : List ℕ) (from end : ℕ) → from < length bytes → is_letter (get_or bytes from 0) ≡ false → is_digit (get_or bytes from 0) ≡ false
    → end ≡ from + sign_length (drop from bytes) → None ≡ spelled_among signs (slice_range bytes from end) → FaultAt from (drop from bytes) (BadCharacter from)
no_sign_here bytes from end within letter digit e found =
    elim (leb_tells end from) [
      | inl none ↦ (
        omega (arith, length-drop from bytes),
        no_token (drop from bytes) (starts_at is_letter false bytes from within letter) (starts_at is_digit false bytes from within digit) (omega (arith, none.1)),
        refl,
      )
      | inr some ↦ absurd (false≢true (ap is_some found ∙ sign_found _ (sign_in bytes from end some.1 e).sign))
    ]

-- a keyword, or else a name
pub keyword_here : (bytes : List ℕ) (from end : ℕ) (w : Terminal) → from < end → end ≤ length bytes → IsWord (slice_range bytes from end) (drop end bytes)
    → Some w ≡ spelled_among keywords (slice_range bytes from end) → IsReadAt bytes from (record { meaning = M.Terminal w; span = record { start = from; end = end } })
keyword_here bytes from end w order within word found =
    read_at bytes from end (M.Terminal w) K.Keyword
    (ap sign_or_keyword (not-true _ (found_passes (λ v. not (is_sign_terminal v)) keywords _ w refl (sym found)))) order within
    (word, keyword_found _ ∙ ap is_some (sym found)) (ap of_terminal found)

pub name_here : (bytes : List ℕ) (from end : ℕ) (letters : Bor (List ℕ)) → from < end → end ≤ length bytes → IsWord (slice_range bytes from end) (drop end bytes)
    → None ≡ spelled_among keywords (slice_range bytes from end) → end - from ≤ 64 → letters.now ≡ slice_range bytes from end
    → IsReadAt bytes from (record { meaning = M.Name letters; span = record { start = from; end = end } })
name_here bytes from end letters order within word found short same =
    read_at bytes from end (M.Name letters) K.Name refl order within
    (word, keyword_found _ ∙ ap is_some (sym found), omega (arith, piece_size bytes from end (omega arith) within))
    (ap (λ z. a_name (record { letters = z; span = record { start = from; end = end } })) same)

pub same_more : (text : List ℕ) (is : List ValuedToken) (ts : List Token) (i : ValuedToken) (t : Token)
    → SayAs text is ts → SayAs text (i ∷ []) (t ∷ []) → SayAs text (is ++ i ∷ []) (ts ++ t ∷ [])
same_more text [] [] i t h k = k
same_more text [] (u ∷ ts) i t h k = absurd h
same_more text (j ∷ is) [] i t h k = absurd h
same_more text (j ∷ is) (u ∷ ts) i t h k = (h.0, same_more text is ts i t h.1 k)

-- the tokens of the text before a place, and what the whole text is by what is left
pub record ReadSoFar (text : List ℕ) (is : List ValuedToken) (end : ℕ) : Type 0 where
  pub within : end ≤ length text
  pub first : HasToken text ⊎ (end ≡ 0)
  pub spelled : (later : List Token) → SpellsFrom end (drop end text) later → Spells text (map plain is ++ later)
  pub faulty : (later : List Token) (fault : TextFault) → FaultAfter end (drop end text) later fault → FaultAfter 0 text (map plain is ++ later) fault
  pub said_as : SayAs text is (map plain is)

pub read_none : (text : List ℕ) → ReadSoFar text [] 0
read_none text =
    record { within = omega arith; first = inr refl; spelled = λ later s. s; faulty = λ later fault s. s; said_as = tt }

-- where a gap ends, the rest of the text is what comes after the gap
gap_passed : (text : List ℕ) (end start : ℕ) → start ≡ end + gap_length (drop end text) → after_gap (drop end text) ≡ drop start text
gap_passed text end start e = drop-drop (gap_length (drop end text)) end text ∙ ap (λ n. drop n text) (sym e)

pub read_all : (text : List ℕ) (is : List ValuedToken) (end start : ℕ) → ReadSoFar text is end → start ≡ end + gap_length (drop end text) → start ≡ length text → AreValues text is
read_all text is end start so_far e ends = record {
  spelled = subst (Spells text) (append-nil (map plain is)) (so_far.spelled [] (gap_passed text end start e ∙ drop_all start text (omega arith)));
  said_as = so_far.said_as;
}

pub read_fault : (text : List ℕ) (is : List ValuedToken) (end start : ℕ) (fault : TextFault) → ReadSoFar text is end → start ≡ end + gap_length (drop end text) → FaultAt start (drop start text) fault → FirstFault text fault
read_fault text is end start fault so_far e fails = (
  map plain is ++ [],
  so_far.faulty [] fault (subst (λ (n : ℕ). FaultAt n (after_gap (drop end text)) fault) e (subst (λ (rest : List ℕ). FaultAt start rest fault) (sym (gap_passed text end start e)) fails)),
)

pub first_token : (text : List ℕ) (is : List ValuedToken) (end start : ℕ) (i : ValuedToken) → ReadSoFar text is end → start ≡ end + gap_length (drop end text) → IsReadAt text start i → HasToken text
first_token text is end start i so_far e read =
    elim so_far.first [
      | inl first ↦ first
      | inr none ↦ (
        plain i,
        drop i.span.end text,
        subst (λ (n : ℕ). TokenAt n (drop n text) (plain i) (drop i.span.end text)) (subst (λ (n : ℕ). start ≡ n + gap_length (drop n text)) none e ∙ zero-add (gap_length text)) read.here,
      )
    ]

pub read_more : (text : List ℕ) (is : List ValuedToken) (end start : ℕ) (i : ValuedToken) → ReadSoFar text is end → start ≡ end + gap_length (drop end text) → IsReadAt text start i → ReadSoFar text (is ++ i ∷ []) i.span.end
read_more text is end start i so_far e read =
    let more = drop i.span.end text in
    let here = subst (λ (n : ℕ). TokenAt n (after_gap (drop end text)) (plain i) more) e (subst (λ (rest : List ℕ). TokenAt start rest (plain i) more) (sym (gap_passed text end start e)) read.here) in
    let pushed : map plain (is ++ i ∷ []) ≡ map plain is ++ plain i ∷ [] = map-append plain is (i ∷ []) in
    let each : (later : List Token) → map plain (is ++ i ∷ []) ++ later ≡ map plain is ++ plain i ∷ later =
    λ later. ap (λ z. z ++ later) pushed ∙ append_assoc (map plain is) (plain i ∷ []) later in
    record {
      within = read.within;
      first = inl (first_token text is end start i so_far e read);
      spelled = λ later s. subst (Spells text) (sym (each later)) (so_far.spelled (plain i ∷ later) (more, here, s));
      faulty = λ later fault s. subst (λ (found : List Token). FaultAfter 0 text found fault) (sym (each later)) (so_far.faulty (plain i ∷ later) fault (more, here, s));
      said_as = subst (SayAs text (is ++ i ∷ [])) (sym pushed) (same_more text is (map plain is) i (plain i) so_far.said_as ((read.says_it, refl), tt));
    }
