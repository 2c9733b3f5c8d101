-- Printed tokens are spelled, and read back as themselves, spans aside.
use Rattle.std.proofs.Common.{◌≡◌, ℕ, ◌+◌, List, [], ◌∷◌, ◌++◌, length, length-append, append_assoc, refl, sym, ap, ◌∙◌, subst, arith, slice_range}
use Rattle.tick_syntax.specs.declared.token.Token.{Token}
use Rattle.tick_syntax.specs.Lexeme.{Lexeme, lexeme_at, lexemes}
use Rattle.tick_syntax.specs.Printed.{printed_token, printed_tokens}
use Rattle.tick_syntax.specs.Refusal.{AllCanStand}
use Rattle.tick_syntax.specs.Spelling.{span_of, SpellsFrom}
use Rattle.tick_syntax.proofs.Spanless.{spanless, spanless_all}
use Rattle.tick_syntax.proofs.SpelledPieces.{spelled_piece, piece_at}
use Rattle.tick_syntax.proofs.TokensThatStand.{written}

-- the printed tokens that stand after other bytes
pub record SpelledAgain (before : List ℕ) (ts : List Lexeme) : Type 0 where
  pub tokens : List Token
  pub spelled : SpellsFrom (length before) (printed_tokens ts) tokens
  pub says : spanless_all (lexemes (before ++ printed_tokens ts) tokens) ≡ spanless_all ts

pub spelled_again : (before : List ℕ) (ts : List Lexeme) → AllCanStand ts → SpelledAgain before ts
spelled_again before [] all = record { tokens = []; spelled = refl; says = refl }
spelled_again before (t ∷ ts) all =
    let rest = printed_tokens ts in
    let one = written t rest all.0 in
    let next = spelled_again (before ++ printed_token t) ts all.1 in
    let split : printed_token t ++ rest ≡ one.piece ++ one.blank ∷ rest = ap (λ bytes. bytes ++ rest) one.text ∙ append_assoc one.piece (one.blank ∷ []) rest in
    let size : length (before ++ printed_token t) ≡ length before + length one.piece + 1 = omega (arith, length-append before (printed_token t), ap length one.text, length-append one.piece (one.blank ∷ [])) in
    let span = span_of (length before) one.piece in
    let token : Token = record { sort = one.sort; span = span } in
    let bytes : slice_range (before ++ (printed_token t ++ rest)) (length before) (length before + length one.piece) ≡ one.piece = ap (λ text. slice_range (before ++ text) (length before) (length before + length one.piece)) split ∙ piece_at before one.piece (one.blank ∷ rest) in
    let first = ap (λ piece. spanless (lexeme_at one.sort piece span)) bytes ∙ one.says span in
    let others : spanless_all (lexemes (before ++ (printed_token t ++ rest)) next.tokens) ≡ spanless_all ts = ap (λ text. spanless_all (lexemes text next.tokens)) (sym (append_assoc before (printed_token t) rest)) ∙ next.says in
    record {
      tokens = token ∷ next.tokens;
      spelled = subst (λ (text : List ℕ). SpellsFrom (length before) text (token ∷ next.tokens)) (sym split) (spelled_piece (length before) one.piece one.blank rest one.sort next.tokens one.ends one.kind (subst (λ (n : ℕ). SpellsFrom n rest next.tokens) size next.spelled));
      says = ap (λ (u : Lexeme). u ∷ spanless_all (lexemes (before ++ (printed_token t ++ rest)) next.tokens)) first ∙ ap (λ (us : List Lexeme). spanless t ∷ us) others;
    }
