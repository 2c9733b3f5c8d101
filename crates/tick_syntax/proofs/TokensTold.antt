-- What is told of a whole text is right, and the only thing that could be told.
-- The idea. What is told are tokens that spell the text, or its first refusal (`Tells`), unless memory is refused. A text
-- has one first refusal (`first_once`): its length, or else its first fault (`refusal_of`, `fault_of`). So where tokens
-- spell the text, they are told (`told_spelled`), and where it has a refusal, that is told (`told_refused`). At the end it
-- is said of tokens with their values.
-- Read `Tells` first, then `told_spelled`.
use Rattle.std.proofs.Common.{◌<◌, ◌∙◌, ap, sym, subst, map, zero-add, ◌≡◌, ◌≢◌, ℕ, ◌≤◌, List, [], ◌∷◌, length, refl, arith, inl, inr, ◌⊎◌, ⊎_elim, Result, Ok, Err}
use Rattle.std.specs.Prelude.{IfOk, IfErr, IsOkUnless, MatchResult}
use Rattle.std.proofs.lemmas.Bool.Decides.{leb_tells}
use Rattle.std.specs.Global.{Vec}
use Rattle.tick_syntax.specs.declared.valued_token.ValuedToken.{ValuedToken}
use Rattle.tick_syntax.specs.prover.ValuedTokens.{plain, AreValues}
use Rattle.tick_syntax.specs.Spelling.{gap_length, after_gap, HasToken, TokenAt, Spells, StandInOrder, FaultAfter, FirstFault, FirstRefusal}
use Rattle.tick_syntax.specs.declared.token.Token.{Token}
use Rattle.tick_syntax.specs.declared.fault.TextFault.{TextFault}
use Rattle.tick_syntax.specs.declared.fault.TextFault.TheVariants.{TextTooLong, BadCharacter, NumberTooBig, NameTooLong, Unexpected, TooDeep, NoMemory}
use Rattle.tick_syntax.proofs.SpelledInOrder.{spells_in_order}
use Rattle.tick_syntax.proofs.SpelledOnce.{spells_unique, first_fault_unique, spells_no_fault}

pub is_memory : (fault : TextFault) → (fault ≡ NoMemory) ⊎ (fault ≢ NoMemory)
is_memory TextTooLong = inr (λ same. cc)
is_memory (BadCharacter place) = inr (λ same. cc)
is_memory (NumberTooBig span) = inr (λ same. cc)
is_memory (NameTooLong span) = inr (λ same. cc)
is_memory (Unexpected span) = inr (λ same. cc)
is_memory (TooDeep span) = inr (λ same. cc)
is_memory NoMemory = inl refl

-- the length is no fault at a place
not_by_length : (at : ℕ) (text : List ℕ) (before : List Token) → FaultAfter at text before TextTooLong → ⊥
not_by_length at text [] fails = fails
not_by_length at text (token ∷ before) fails = not_by_length token.span.end fails.0 before fails.2

pub refusal_of : (text : List ℕ) (fault : TextFault) → length text ≤ 1000000 → FirstFault text fault → FirstRefusal text fault
refusal_of text TextTooLong short fails = absurd (not_by_length 0 text fails.0 fails.1)
refusal_of text (BadCharacter place) short fails = (short, fails)
refusal_of text (NumberTooBig span) short fails = (short, fails)
refusal_of text (NameTooLong span) short fails = (short, fails)
refusal_of text (Unexpected span) short fails = (short, fails)
refusal_of text (TooDeep span) short fails = (short, fails)
refusal_of text NoMemory short fails = (short, fails)

pub fault_of : (text : List ℕ) (fault : TextFault) → length text ≤ 1000000 → FirstRefusal text fault → FirstFault text fault
fault_of text TextTooLong short refusal = absurd (omega arith)
fault_of text (BadCharacter place) short refusal = refusal.1
fault_of text (NumberTooBig span) short refusal = refusal.1
fault_of text (NameTooLong span) short refusal = refusal.1
fault_of text (Unexpected span) short refusal = refusal.1
fault_of text (TooDeep span) short refusal = refusal.1
fault_of text NoMemory short refusal = refusal.1

long_alone : (text : List ℕ) (fault : TextFault) → 1000000 < length text → FirstRefusal text fault → fault ≡ TextTooLong
long_alone text TextTooLong long h = refl
long_alone text (BadCharacter place) long h = absurd (omega (arith, long, h.0))
long_alone text (NumberTooBig place) long h = absurd (omega (arith, long, h.0))
long_alone text (NameTooLong place) long h = absurd (omega (arith, long, h.0))
long_alone text (Unexpected place) long h = absurd (omega (arith, long, h.0))
long_alone text (TooDeep place) long h = absurd (omega (arith, long, h.0))
long_alone text NoMemory long h = absurd (omega (arith, long, h.0))

pub first_once : (text : List ℕ) (a b : TextFault) → FirstRefusal text a → FirstRefusal text b → a ≡ b
first_once text a b h k =
    elim (leb_tells (length text) 1000000) [
      | inl short ↦ first_fault_unique text a b (fault_of text a short.1 h) (fault_of text b short.1 k)
      | inr long ↦ long_alone text a long.1 h ∙ sym (long_alone text b long.1 k)
    ]

-- a first fault is a text's refusal where the text is not too long
pub told_refusal : {V : Type 0} (text : List ℕ) (result : Result V TextFault) → length text ≤ 1000000
    → IfErr result (λ fault. fault ≢ NoMemory → FirstFault text fault) → IfErr result (λ fault. fault ≢ NoMemory → FirstRefusal text fault)
told_refusal text (Ok v) short faulty = faulty
told_refusal text (Err fault) short faulty = λ differs. refusal_of text fault short (faulty differs)

-- tokens that spell the text, or its first refusal
pub record Tells (text : List ℕ) (result : Result (Vec Token) TextFault) : Type 0 where
  pub ok : IfOk result (λ tokens. (length text ≤ 1000000) × Spells text tokens.items)
  pub err : IfErr result (λ fault. fault ≢ NoMemory → FirstRefusal text fault)

pub told_order : (text : List ℕ) (result : Result (Vec Token) TextFault) → Tells text result → IfOk result (λ tokens. StandInOrder text 0 tokens.items)
told_order text (Ok tokens) tells = spells_in_order text tokens.items tells.ok.1
told_order text (Err fault) tells = tt

pub told_spelled : (text : List ℕ) (result : Result (Vec Token) TextFault) → Tells text result → (expected : List Token) → length text ≤ 1000000 → Spells text expected → MatchResult result (λ tokens. tokens.items ≡ expected) (λ fault. fault ≡ NoMemory)
told_spelled text (Ok tokens) tells expected short spells = spells_unique text tokens.items expected tells.ok.1 spells
told_spelled text (Err fault) tells expected short spells =
    ⊎_elim (λ same. same) (λ differs. absurd (spells_no_fault text expected fault spells (fault_of text fault short (tells.err differs)))) (is_memory fault)

pub told_refused : (text : List ℕ) (result : Result (Vec Token) TextFault) → Tells text result → (first : TextFault) → FirstRefusal text first → MatchResult result (λ tokens. ⊥) (λ fault. (fault ≡ first) ⊎ (fault ≡ NoMemory))
told_refused text (Ok tokens) tells first refusal =
    spells_no_fault text tokens.items first tells.ok.1 (fault_of text first tells.ok.0 refusal)
told_refused text (Err fault) tells first refusal =
    ⊎_elim (λ same. inr same) (λ differs. inl (first_once text fault first (tells.err differs) refusal)) (is_memory fault)

-- tokens that are not none begin the text that they spell
pub first_spelled : (text : List ℕ) (ts : List Token) → Spells text ts → (ts ≡ [] → ⊥) → HasToken text
first_spelled text [] spells some = absurd (some refl)
first_spelled text (t ∷ ts) spells some =
    (t, spells.0, subst (λ n. TokenAt n (after_gap text) t spells.0) (zero-add (gap_length text)) spells.1)

-- the tokens of values, without them, spell the text
pub plain_spelled : (text : List ℕ) (is given : List ValuedToken) (tokens : List Token) → AreValues text is → given ≡ is → tokens ≡ map plain given
    → Spells text tokens
plain_spelled text is given tokens values same plain_are = subst (Spells text) (sym (plain_are ∙ ap (map plain) same)) values.spelled

-- the tokens of values, without them
pub told_plain : (text : List ℕ) (is : List ValuedToken) (result : Result (Vec Token) TextFault) → length text ≤ 1000000 → AreValues text is
    → IfOk result (λ tokens. tokens.items ≡ map plain is) → IsOkUnless result NoMemory → Tells text result
told_plain text is (Ok tokens) short values same unless = record { ok = (short, subst (Spells text) (sym same) values.spelled); err = tt }
told_plain text is (Err fault) short values same unless = record { ok = tt; err = λ differs. absurd (differs unless) }

pub told_memory : (text : List ℕ) (is : List ValuedToken) (result : Result (Vec Token) TextFault) → length text ≤ 1000000 → AreValues text is
    → (is ≡ [] → result ≢ Err NoMemory) → result ≡ Err NoMemory → (length text ≤ 1000000) × HasToken text
told_memory text [] result short values none memory = absurd (none refl memory)
told_memory text (i ∷ is) result short values none memory = (short, first_spelled text (map plain (i ∷ is)) values.spelled (λ e. cc))
