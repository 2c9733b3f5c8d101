-- Each text is one program within the limits, or it has one refusal: one program at most (`one_program`), one
-- refusal at most (`one_refusal`), never both (`never_both`), and never neither (`never_neither`).
--
-- The idea. Tokens spell a text, or it has a first fault (`spelled_or_faulty`). Tokens that spell it are
-- given values (`all_valued`), and the reader decides about these (`read`): its program is what the tokens
-- derive (`program_read`), and its fault is where they stop (`fault_read`). `told` sorts a refusal into one
-- of length and tokens or one of the grammar; earlier pages have that there is one at most of each. The
-- difficulty is in `never_both`: a program has its limit on the tree, a refusal on the brackets from token to
-- token. `keeps_shallow` gets the second from the first: the reader reads the program, so no bracket was one
-- too many. Read `never_neither` first.
use Rattle.std.proofs.Common.{◌≡◌, ℕ, ◌≤◌, ◌⊎◌, inl, inr, Bool, true, false, List, [], ◌∷◌, ◌++◌, length, map, Option, Some, None, Result, Ok, Err, refl, sym, ◌∙◌, subst, arith}
use Rattle.std.proofs.lemmas.Bool.Decides.{leb_tells}
use Rattle.tick_syntax.specs.declared.fault.TextFault.{TextFault}
use Rattle.tick_syntax.specs.declared.fault.TextFault.TheVariants as F
use Rattle.tick_syntax.specs.declared.valued_token.ValuedToken.{ValuedToken}
use Rattle.tick_syntax.specs.declared.valued_token.Meaning.TheVariants as M
use Rattle.base.specs.declared.span.Span.{Span}
use Rattle.tick_syntax.specs.declared.token.Sort.{Sort}
use Rattle.tick_syntax.specs.declared.token.Sort.TheVariants as K
use Rattle.tick_syntax.specs.declared.token.Token.{Token}
use Rattle.tick_syntax.specs.declared.terminals.Terminal.{Terminal}
use Rattle.tick_syntax.specs.Decided.{IsWithinLimits}
use Rattle.tick_syntax.specs.Grammar.{second_span, Derives, nesting}
use Rattle.tick_syntax.specs.prover.ValuedTokens.{plain, SayAs}
use Rattle.tick_syntax.specs.Lexeme.{Lexeme, lexeme_at, lexemes, of_terminal, bytes_at}
use Rattle.tick_syntax.specs.Nesting.{open_by, IsShallow}
use Rattle.base.specs.Plain.{Name, WholeProgram}
use Rattle.tick_syntax.specs.prover.Reading.{program_at}
use Rattle.tick_syntax.specs.Refusal.{CanStand, AllCanStand, IsTextRefused}
use Rattle.tick_syntax.specs.RoundTrip.{IsTextOf}
use Rattle.tick_syntax.specs.Spelling.{Spells, FirstFault, FirstRefusal}
use Rattle.tick_syntax.specs.Terminals.{signs, keywords, spelled_among}
use Rattle.tick_syntax.proofs.Covered.{spelled_or_faulty}
use Rattle.tick_syntax.proofs.Complete.{program_takes}
use Rattle.tick_syntax.proofs.Symbols.{said, says, says_same, Symbol, s_program, step, opened, is_full, on_stack, fault_by, fault}
use Rattle.tick_syntax.proofs.OneStop.{Stops, stops_once, no_stop}
use Rattle.tick_syntax.proofs.SoundPrograms.{program_ok, program_err}
use Rattle.tick_syntax.proofs.SpelledInOrder.{spells_in_order}
use Rattle.tick_syntax.proofs.SpelledOnce.{spells_unique, spells_no_fault}
use Rattle.tick_syntax.proofs.Stops.{first_is_refused, is_unexpected, is_too_deep, of_fault}
use Rattle.tick_syntax.proofs.Continuations.{opens_to, fits_by, derives_once}
use Rattle.tick_syntax.proofs.TokensThatStand.{all_stand}
use Rattle.tick_syntax.proofs.TokensTold.{refusal_of, fault_of, first_once}

-- tokens of a text, with what they say
terminal_valued : (found : Option Terminal) (span : Span) → CanStand (of_terminal found) → (i : ValuedToken) × (said i ≡ of_terminal found) × (i.span ≡ span)
terminal_valued None span c = absurd c
terminal_valued (Some w) span c = (record { meaning = M.Terminal w; span = span }, refl, refl)

valued : (sort : Sort) (bytes : List ℕ) (span : Span) → CanStand (lexeme_at sort bytes span)
    → (i : ValuedToken) × (said i ≡ lexeme_at sort bytes span) × (i.span ≡ span)
valued K.Name bytes span c = (record { meaning = M.Name (record { ref_ptr = (0, 0); now = bytes }); span = span }, refl, refl)
valued (K.Num v) bytes span c = (record { meaning = M.Number v; span = span }, refl, refl)
valued K.Keyword bytes span c = terminal_valued (spelled_among keywords bytes) span c
valued K.Sign bytes span c = terminal_valued (spelled_among signs bytes) span c

all_valued : (text : List ℕ) (ts : List Token) → AllCanStand (lexemes text ts) → (is : List ValuedToken) × SayAs text is ts
all_valued text [] all = ([], tt)
all_valued text (t ∷ ts) all =
    let i = valued t.sort (bytes_at text t.span) t.span all.0 in
    let is = all_valued text ts all.1 in
    (i.0 ∷ is.0, ((i.1, i.2), is.1))

second_same : (text : List ℕ) (is : List ValuedToken) (ts : List Token) → SayAs text is ts → second_span (map plain is) ≡ second_span ts
second_same text [] [] same = refl
second_same text [] (t ∷ ts) same = absurd same
second_same text (i ∷ is) [] same = absurd same
second_same text (i ∷ []) (t ∷ []) same = refl
second_same text (i ∷ []) (t ∷ u ∷ ts) same = absurd same.1
second_same text (i ∷ j ∷ is) (t ∷ []) same = absurd same.1
second_same text (i ∷ j ∷ is) (t ∷ u ∷ ts) same = same.1.0.1

-- Where no bracket is one too many, none is.
shallow_step : (x : Lexeme) (ts : List Lexeme) (s : Symbol) (st : List Symbol) (span : Span) (more : List Symbol → Option TextFault)
    (o : Option (List Symbol)) (b : Bool) → step s x ≡ o → is_full 64 x (opened (s ∷ st)) ≡ b → opened (s ∷ st) ≤ 64
    → fault_by (on_stack o st) b span more ≡ None
    → ((new : List Symbol) → opened (new ++ st) ≤ 64 → more (new ++ st) ≡ None → IsShallow ts (opened (new ++ st)))
    → IsShallow (x ∷ ts) (opened (s ∷ st))
shallow_step x ts s st span more None b e f l k go = absurd (cc)
shallow_step x ts s st span more (Some new) true e f l k go = absurd (cc)
shallow_step x ts s st span more (Some new) false e f l k go =
    let d : opened (new ++ st) ≡ open_by x (opened (s ∷ st)) = opens_to s x new e st in
    let fits : open_by x (opened (s ∷ st)) ≤ 64 = fits_by x (opened (s ∷ st)) l f in
    (fits, subst (IsShallow ts) d (go new (subst (λ z. z ≤ 64) (sym d) fits) k))

stays_shallow : (end : ℕ) (is : List ValuedToken) (st : List Symbol) → opened st ≤ 64 → fault end 64 is st ≡ None → IsShallow (says is) (opened st)
stays_shallow end [] st l h = tt
stays_shallow end (i ∷ is) [] l h = absurd (cc)
stays_shallow end (i ∷ is) (s ∷ st) l h =
    shallow_step (said i) (says is) s st i.span (fault end 64 is) (step s (said i)) (is_full 64 (said i) (opened (s ∷ st))) refl refl l h
    (λ new m k. stays_shallow end is (new ++ st) m k)

module _ (text : List ℕ) where
  -- a text can have its own tokens
  pub stand : (tokens : List Token) → Spells text tokens → AllCanStand (lexemes text tokens)
  stand tokens spells = all_stand text 0 tokens (spells_in_order text tokens spells)

  -- what tokens with values derive
  pub read_program : (end : ℕ) (is : List ValuedToken) (ts : List Token) → SayAs text is ts → (p : WholeProgram Name) → Derives text ts p
      → nesting p ≤ 64 → program_at end 64 is ≡ Ok p
  read_program end is ts same p d l =
      program_takes end 64 p is (says_same text is ts same ∙ d.0) (second_same text is ts same ∙ d.1) l

  -- a program within the limits keeps within them from token to token
  keeps_shallow : (ts : List Token) (p : WholeProgram Name) → AllCanStand (lexemes text ts) → Derives text ts p → nesting p ≤ 64 → IsShallow (lexemes text ts) 0
  keeps_shallow ts p all d l =
      let is = all_valued text ts all in
      let ok : program_at 0 64 is.0 ≡ Ok p = read_program 0 is.0 ts is.1 p d l in
      subst (λ z. IsShallow z 0) (says_same text is.0 ts is.1)
      (stays_shallow 0 is.0 (s_program ∷ []) (omega arith) (program_ok 0 64 is.0 p ok).none)

  -- what the reader answers of tokens with values
  pub program_read : (is : List ValuedToken) (ts : List Token) → SayAs text is ts → (p : WholeProgram Name)
      → program_at (length text) 64 is ≡ Ok p → Derives text ts p × (nesting p ≤ 64)
  program_read is ts same p h =
      let ok = program_ok (length text) 64 is p h in
      ((sym (says_same text is ts same) ∙ ok.says_it, sym (second_same text is ts same) ∙ ok.stands), ok.shallow)

  pub fault_read : (is : List ValuedToken) (ts : List Token) → AllCanStand (lexemes text ts) → SayAs text is ts → (e : TextFault)
      → fault (length text) 64 is (s_program ∷ []) ≡ Some e → Stops text ts e
  fault_read is ts all same (F.Unexpected place) h = is_unexpected text ts all is place same h
  fault_read is ts all same (F.TooDeep place) h = is_too_deep text ts all is place same h
  fault_read is ts all same F.TextTooLong h = absurd (of_fault (length text) 64 is (s_program ∷ []) F.TextTooLong h)
  fault_read is ts all same (F.BadCharacter place) h = absurd (of_fault (length text) 64 is (s_program ∷ []) (F.BadCharacter place) h)
  fault_read is ts all same (F.NumberTooBig place) h = absurd (of_fault (length text) 64 is (s_program ∷ []) (F.NumberTooBig place) h)
  fault_read is ts all same (F.NameTooLong place) h = absurd (of_fault (length text) 64 is (s_program ∷ []) (F.NameTooLong place) h)
  fault_read is ts all same F.NoMemory h = absurd (of_fault (length text) 64 is (s_program ∷ []) F.NoMemory h)

  abbrev Read : List Token → Type 0
  Read ts = ((p : WholeProgram Name) × Derives text ts p × (nesting p ≤ 64)) ⊎ ((e : TextFault) × Stops text ts e)

  read : (ts : List Token) → AllCanStand (lexemes text ts) → Read ts
  read ts all = by_answer (program_at (length text) 64 is.0) refl
    where
      is : (is : List ValuedToken) × SayAs text is ts
      is = all_valued text ts all

      by_answer : (r : Result (WholeProgram Name) TextFault) → program_at (length text) 64 is.0 ≡ r → Read ts
      by_answer (Ok p) h = let d = program_read is.0 ts is.1 p h in inl (p, d.0, d.1)
      by_answer (Err e) h = inr (e, fault_read is.0 ts all is.1 e (program_err (length text) 64 is.0 e h))

  abbrev pub OfTokens : TextFault → Type 0
  OfTokens fault = (tokens : List Token) × (length text ≤ 1000000) × Spells text tokens × Stops text tokens fault

  -- a refusal is told by the length and the tokens, or by the grammar
  told : (fault : TextFault) → IsTextRefused text fault → FirstRefusal text fault ⊎ OfTokens fault
  told F.TextTooLong h = inl h
  told (F.BadCharacter place) h = inl h
  told (F.NumberTooBig place) h = inl h
  told (F.NameTooLong place) h = inl h
  told (F.Unexpected place) h = inr h
  told (F.TooDeep place) h = inr h
  told F.NoMemory h = inl h

  pub stop_refuses : (fault : TextFault) → OfTokens fault → IsTextRefused text fault
  stop_refuses F.TextTooLong h = absurd h.3
  stop_refuses (F.BadCharacter place) h = absurd h.3
  stop_refuses (F.NumberTooBig place) h = absurd h.3
  stop_refuses (F.NameTooLong place) h = absurd h.3
  stop_refuses (F.Unexpected place) h = h
  stop_refuses (F.TooDeep place) h = h
  stop_refuses F.NoMemory h = absurd h.3

  first_or_stop : (a b : TextFault) → FirstRefusal text a → OfTokens b → ⊥
  first_or_stop a b h k = spells_no_fault text k.0 a k.2 (fault_of text a k.1 h)

  one_stop : (a b : TextFault) → OfTokens a → OfTokens b → a ≡ b
  one_stop a b h k =
      stops_once text k.0 a b (stand k.0 k.2) (subst (λ z. Stops text z a) (spells_unique text h.0 k.0 h.2 k.2) h.3) k.3

  one_told : (a b : TextFault) → FirstRefusal text a ⊎ OfTokens a → FirstRefusal text b ⊎ OfTokens b → a ≡ b
  one_told a b (inl h) (inl k) = first_once text a b h k
  one_told a b (inl h) (inr k) = absurd (first_or_stop a b h k)
  one_told a b (inr h) (inl k) = absurd (first_or_stop b a k h)
  one_told a b (inr h) (inr k) = one_stop a b h k

  pub one_refusal : (a b : TextFault) → IsTextRefused text a → IsTextRefused text b → a ≡ b
  one_refusal a b h k = one_told a b (told a h) (told b k)

  pub one_program : (p q : WholeProgram Name) → IsTextOf text p → IsTextOf text q → p ≡ q
  one_program p q h k =
      derives_once text k.0 p q (stand k.0 k.1) (subst (λ z. Derives text z p) (spells_unique text h.0 k.0 h.1 k.1) h.2) k.2

  both_told : (p : WholeProgram Name) (fault : TextFault) → IsWithinLimits text p → FirstRefusal text fault ⊎ OfTokens fault → ⊥
  both_told p fault h (inl k) = spells_no_fault text h.1.0 fault h.1.1 (fault_of text fault h.0 k)
  both_told p fault h (inr k) =
      let d : Derives text k.0 p = subst (λ z. Derives text z p) (spells_unique text h.1.0 k.0 h.1.1 k.2) h.1.2 in
      no_stop text k.0 p fault (stand k.0 k.2) d.0 (keeps_shallow k.0 p (stand k.0 k.2) d h.2) k.3

  pub never_both : (p : WholeProgram Name) (fault : TextFault) → IsWithinLimits text p → IsTextRefused text fault → ⊥
  never_both p fault h k = both_told p fault h (told fault k)

  abbrev Decided : Type 0
  Decided = ((p : WholeProgram Name) × IsWithinLimits text p) ⊎ ((fault : TextFault) × IsTextRefused text fault)

  by_tokens : (tokens : List Token) → length text ≤ 1000000 → Spells text tokens → Read tokens → Decided
  by_tokens tokens short spells (inl r) = inl (r.0, (short, (tokens, spells, r.1), r.2))
  by_tokens tokens short spells (inr r) = inr (r.0, stop_refuses r.0 (tokens, short, spells, r.1))

  decided_short : length text ≤ 1000000 → ((tokens : List Token) × Spells text tokens) ⊎ ((fault : TextFault) × FirstFault text fault) → Decided
  decided_short short (inl s) = by_tokens s.0 short s.1 (read s.0 (stand s.0 s.1))
  decided_short short (inr f) = inr (f.0, first_is_refused text f.0 (refusal_of text f.0 short f.1))

  pub never_neither : Decided
  never_neither =
      elim (leb_tells (length text) 1000000) [
        | inl short ↦ decided_short short.1 (spelled_or_faulty text)
        | inr long ↦ inr (F.TextTooLong, long.1)
      ]
