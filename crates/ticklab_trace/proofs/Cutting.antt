-- A text can be cut where a token begins and where one ends, and so at the heads of statements.
use Rattle.std.proofs.Common.{◌≡◌, ℕ, ◌+◌, ◌-◌, ◌<◌, ◌≤◌, Bool, true, false, ◌==◌, List, [], ◌∷◌, length, refl, sym, subst, arith, take, drop, get_or, slice_get, slice_index_or, slice_range, Option, Some, None, All, IsUtf8, IsCharBoundary}
use Rattle.std.specs.List.{list_all}
use Rattle.std.proofs.lemmas.Bool.{and_parts, false≢true}
use Rattle.std.proofs.lemmas.Grind.{common_steps}
use Rattle.std.proofs.lemmas.List.Elements.{All-append, All-cons, All-drop, All-nil, All-take}
use Rattle.std.proofs.lemmas.Option.{get_or_from_slice_get, slice_get_within}
use Rattle.std.proofs.lemmas.Str.{IsCharBoundary-after_ascii, IsCharBoundary-before_ascii}
use Rattle.tick_syntax.specs.Characters.{is_name_part, is_digit, is_letter, is_lone_sign, is_sign, may_precede_equals}
use Rattle.base.specs.declared.span.Span.{Span}
use Rattle.tick_syntax.specs.declared.token.Sort.{Sort}
use Rattle.tick_syntax.specs.declared.token.Sort.TheVariants as K
use Rattle.tick_syntax.specs.declared.token.Token.{Token}
use Rattle.tick_syntax.specs.Grammar.{block_tokens, statement_tokens}
use Rattle.base.specs.Plain.{nowhere, Name, Statement, assign, get, put, stamp, clear, scan, copy, older, held, out, branch, repeat, Block, nil, cons, WholeProgram}
use Rattle.tick_syntax.specs.Spelling.{IsToken, StandInOrder}
use Rattle.ticklab_trace.specs.Places.{between, extent, head_tokens, heads, inner_heads, opening_tokens, statement_heads}
use Rattle.ticklab_trace.specs.prover.Heads.{IsCut}

abbrev IsAsciiByte : ℕ → Type 0
IsAsciiByte b = b < 128

letter_ascii : (b : ℕ) → is_letter b ≡ true → b < 128
letter_ascii b is = grind (arith, common_steps)

part_ascii : (b : ℕ) → is_name_part b ≡ true → b < 128
part_ascii b is = grind (arith, common_steps)

digit_ascii : (b : ℕ) → is_digit b ≡ true → b < 128
digit_ascii b is = grind (arith, common_steps)

bytes_ascii : (test : ℕ → Bool) → ((b : ℕ) → test b ≡ true → b < 128) → (bytes : List ℕ) → list_all test bytes ≡ true → All IsAsciiByte bytes
bytes_ascii test low [] all = All-nil IsAsciiByte
bytes_ascii test low (b ∷ bytes) all =
    let parts = and_parts (test b) (list_all test bytes) all in
    All-cons IsAsciiByte b bytes (low b parts.0) (bytes_ascii test low bytes parts.1)

lone_ascii : (b : ℕ) → is_lone_sign b ≡ true → b < 128
lone_ascii b is = grind (arith, common_steps)

first_ascii : (b : ℕ) → may_precede_equals b ≡ true → b < 128
first_ascii b is = grind (arith, common_steps)

sign_ascii : (piece : List ℕ) → is_sign piece ≡ true → All IsAsciiByte piece
sign_ascii [] is = All-nil IsAsciiByte
sign_ascii (a ∷ []) is = All-cons IsAsciiByte a [] (lone_ascii a is) (All-nil IsAsciiByte)
sign_ascii (a ∷ b ∷ []) is =
    let parts = and_parts (may_precede_equals a) (b == 61) is in
    All-cons IsAsciiByte a (b ∷ []) (first_ascii a parts.0) (All-cons IsAsciiByte b [] (grind (arith, common_steps)) (All-nil IsAsciiByte))
sign_ascii (a ∷ b ∷ c ∷ more) is = absurd (false≢true is)

token_ascii : (piece more : List ℕ) (sort : Sort) → IsToken piece more sort → All IsAsciiByte piece
token_ascii piece more K.Name is = bytes_ascii is_name_part part_ascii piece (and_parts _ _ is.0.word).1
token_ascii piece more (K.Num v) is = bytes_ascii is_digit digit_ascii piece (and_parts _ _ is.0.number).1
token_ascii piece more K.Keyword is = bytes_ascii is_name_part part_ascii piece (and_parts _ _ is.0.word).1
token_ascii piece more K.Sign is = sign_ascii piece is.sign

-- at its beginning and at its end
abbrev pub IsCuttable : List ℕ → Token → Type 0
IsCuttable text token = IsCharBoundary text token.span.start × IsCharBoundary text token.span.end

ends_within : (text : List ℕ) (from : ℕ) (tokens : List Token) → StandInOrder text from tokens → from ≤ length text
ends_within text from [] stand = stand
ends_within text from (token ∷ tokens) stand =
    let more = ends_within text token.span.end tokens stand.3 in omega (arith, stand.0, stand.1)

cuttable : (text : List ℕ) (start end : ℕ) → IsUtf8 text → start < end → end ≤ length text → All IsAsciiByte (slice_range text start end)
    → IsCharBoundary text start × IsCharBoundary text end
cuttable text start end utf8 some within ascii =
    let first : get_or text start 0 < 128 = let a = ascii 0 0 (grind (arith, common_steps)) in grind (arith, common_steps) in
    let last : get_or text (end - 1) 0 < 128 = let a = ascii (end - 1 - start) 0 (grind (arith, common_steps)) in grind (arith, common_steps) in (
      IsCharBoundary-before_ascii text start (omega arith) first,
      subst (IsCharBoundary text) (omega arith) (IsCharBoundary-after_ascii text (end - 1) utf8 (omega arith) last),
    )

pub tokens_cuttable : (text : List ℕ) (from : ℕ) (tokens : List Token) → IsUtf8 text → StandInOrder text from tokens → All (IsCuttable text) tokens
tokens_cuttable text from [] utf8 stand = All-nil (IsCuttable text)
tokens_cuttable text from (token ∷ tokens) utf8 stand =
    All-cons (IsCuttable text) token tokens
    (cuttable text token.span.start token.span.end utf8 stand.1 (ends_within text token.span.end tokens stand.3) (token_ascii _ _ token.sort stand.2))
    (tokens_cuttable text token.span.end tokens utf8 stand.3)

-- a head stands in the text, which can be cut at it
abbrev pub Fits : List ℕ → Span → Type 0
Fits text head = (head.start ≤ length text) × IsCut text head

nowhere_fits : (text : List ℕ) → Fits text nowhere
nowhere_fits text = (omega arith, λ l. absurd (omega arith))

between_fits : (text : List ℕ) (first : Token) (last : Option Token) → IsCuttable text first → ((token : Token) → last ≡ Some token → IsCuttable text token)
    → Fits text (between (Some first) last)
between_fits text first None cut other = nowhere_fits text
between_fits text first (Some last) cut other = (cut.0.0, λ l. (cut.0, (other last refl).1))

extent_fits : (text : List ℕ) (tokens : List Token) → All (IsCuttable text) tokens → Fits text (extent tokens)
extent_fits text [] all = nowhere_fits text
extent_fits text (token ∷ tokens) all =
    let k = length (token ∷ tokens) - 1 in
    between_fits text token (slice_get (token ∷ tokens) k) (all 0 token (omega arith))
    (λ last is. subst (IsCuttable text) (get_or_from_slice_get (token ∷ tokens) k last token is) (all k token (slice_get_within (token ∷ tokens) k last is)))

mutual
  pub heads_fit : (text : List ℕ) (tokens : List Token) (b : Block Name) → All (IsCuttable text) tokens → All (Fits text) (heads tokens b)
  heads_fit text tokens nil all = All-nil (Fits text)
  heads_fit text tokens (cons s b) all =
      let n = length (head_tokens s) in
      let m = length (statement_tokens s) in
      All-cons (Fits text) _ _ (extent_fits text (take n tokens) (All-take (IsCuttable text) n tokens all))
      (All-append (Fits text) _ _ (inner_fit text (drop n tokens) s (All-drop (IsCuttable text) n tokens all))
      (heads_fit text (drop m tokens) b (All-drop (IsCuttable text) m tokens all)))

  inner_fit : (text : List ℕ) (tokens : List Token) (s : Statement Name) → All (IsCuttable text) tokens → All (Fits text) (inner_heads tokens s)
  inner_fit text tokens (branch e a b) all =
      let n = length (block_tokens a) + 4 in
      All-append (Fits text) _ _ (heads_fit text (drop 1 tokens) a (All-drop (IsCuttable text) 1 tokens all))
      (heads_fit text (drop n tokens) b (All-drop (IsCuttable text) n tokens all))
  inner_fit text tokens (repeat e a) all = heads_fit text (drop 1 tokens) a (All-drop (IsCuttable text) 1 tokens all)
  inner_fit text tokens (assign x e) all = All-nil (Fits text)
  inner_fit text tokens (get x r e) all = All-nil (Fits text)
  inner_fit text tokens (put r e) all = All-nil (Fits text)
  inner_fit text tokens stamp all = All-nil (Fits text)
  inner_fit text tokens clear all = All-nil (Fits text)
  inner_fit text tokens (scan s) all = All-nil (Fits text)
  inner_fit text tokens (copy t s) all = All-nil (Fits text)
  inner_fit text tokens (older x s e f) all = All-nil (Fits text)
  inner_fit text tokens (held x s e) all = All-nil (Fits text)
  inner_fit text tokens (out e) all = All-nil (Fits text)

pub head_fits : (text : List ℕ) (tokens : List Token) (a : WholeProgram Name) (items : List Span) → IsUtf8 text → StandInOrder text 0 tokens
    → items ≡ statement_heads tokens a → (i : ℕ) (other : Span) → i < length items → Fits text (slice_index_or items i other)
head_fits text tokens a items utf8 stand are i other inside =
    let n = length (opening_tokens a) in
    let all = heads_fit text (drop n tokens) a.body (All-drop (IsCuttable text) n tokens (tokens_cuttable text 0 tokens utf8 stand)) in
    subst (All (Fits text)) (sym are) all i other inside
