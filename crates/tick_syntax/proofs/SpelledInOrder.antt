-- The tokens that spell a text stand in it in their order, each on the bytes at its span.
use Rattle.std.proofs.Common.{◌≡◌, ℕ, ◌<◌, ◌≤◌, Bool, true, List, [], ◌∷◌, ◌+◌, ◌-◌, length, take, drop, refl, sym, ap, ◌∙◌, subst, arith, slice_range, length-append, length-drop}
use Rattle.std.proofs.lemmas.Bool.{and_parts, false≢true}
use Rattle.std.proofs.lemmas.List.{take_at, drop_at, drop-drop}
use Rattle.tick_syntax.specs.Spelling.{gap_length, starts, IsToken, TokenAt, SpellsFrom, Spells, StandInOrder}
use Rattle.base.specs.declared.span.Span.{Span}
use Rattle.tick_syntax.specs.declared.token.Sort.{Sort}
use Rattle.tick_syntax.specs.declared.token.Sort.TheVariants.{Name, Num, Keyword, Sign}
use Rattle.tick_syntax.specs.declared.token.Token.{Token}

pub starts_some : (test : ℕ → Bool) (piece : List ℕ) → starts test piece ≡ true → 0 < length piece
starts_some test [] begins = absurd (false≢true begins)
starts_some test (b ∷ piece) begins = omega arith

pub token_some : (piece more : List ℕ) (sort : Sort) → IsToken piece more sort → 0 < length piece
token_some piece more Name kind = starts_some _ piece (and_parts _ _ kind.0.word).0
token_some piece more (Num value) kind = starts_some _ piece (and_parts _ _ kind.0.number).0
token_some piece more Keyword kind = starts_some _ piece (and_parts _ _ kind.0.word).0
token_some [] more Sign kind = absurd (false≢true kind.sign)
token_some (b ∷ piece) more Sign kind = omega arith

-- a token whose bytes are the text's from a place on
pub record Stands (text : List ℕ) (start : ℕ) (token : Token) (more : List ℕ) : Type 0 where
  pub starts_there : token.span.start ≡ start
  pub some : token.span.start < token.span.end
  pub within : token.span.end ≤ length text
  pub kind : IsToken (slice_range text token.span.start token.span.end) (drop token.span.end text) token.sort
  pub rest : drop token.span.end text ≡ more

pub token_stands : (text : List ℕ) (start : ℕ) (token : Token) (more : List ℕ) → TokenAt start (drop start text) token more → Stands text start token more
token_stands text start token more here =
    let first : token.span.start ≡ start = ap (λ (s : Span). s.start) here.place in
    let last : token.span.end ≡ start + length here.piece = ap (λ (s : Span). s.end) here.place in
    let some = token_some here.piece more token.sort here.kind in
    let size = ap length here.split in
    let fits : start + length here.piece ≤ length text = omega (arith, length-drop start text, length-append here.piece more) in
    let count : token.span.end - token.span.start ≡ length here.piece = omega arith in
    let slice : slice_range text token.span.start token.span.end ≡ here.piece = ap (λ n. take n (drop token.span.start text)) count ∙ ap (λ n. take (length here.piece) (drop n text)) first ∙ ap (take (length here.piece)) here.split ∙ take_at here.piece more (length here.piece) refl in
    let rest : drop token.span.end text ≡ more = ap (λ n. drop n text) last ∙ sym (drop-drop (length here.piece) start text) ∙ ap (drop (length here.piece)) here.split ∙ drop_at here.piece more (length here.piece) refl in
    record {
      starts_there = first;
      some = omega arith;
      within = omega arith;
      kind = subst (λ (piece : List ℕ). IsToken piece (drop token.span.end text) token.sort) (sym slice) (subst (λ (after : List ℕ). IsToken here.piece after token.sort) (sym rest) here.kind);
      rest = rest;
    }

spells_from_in_order : (text : List ℕ) (from : ℕ) (tokens : List Token) → from ≤ length text → SpellsFrom from (drop from text) tokens → StandInOrder text from tokens
spells_from_in_order text from [] within spells = within
spells_from_in_order text from (token ∷ tokens) within spells =
    let gap = gap_length (drop from text) in
    let stands = token_stands text (from + gap) token spells.0 (subst (λ (rest : List ℕ). TokenAt (from + gap) rest token spells.0) (drop-drop gap from text) spells.1) in (
      omega (arith, stands.starts_there),
      stands.some,
      stands.kind,
      spells_from_in_order text token.span.end tokens stands.within (subst (λ (rest : List ℕ). SpellsFrom token.span.end rest tokens) (sym stands.rest) spells.2),
    )

pub spells_in_order : (text : List ℕ) (tokens : List Token) → Spells text tokens → StandInOrder text 0 tokens
spells_in_order text tokens spells = spells_from_in_order text 0 tokens (omega arith) spells
