-- Tokens stop being a program at one place at most (`stops_once`), and nowhere where they are one within the
-- limits (`no_stop`).
--
-- The idea. A stop has a front of tokens before it. Two fronts of one list are the same, or one goes on past
-- the other (`compared`). There the longer one takes the token at which the shorter one stops. But what goes
-- on to a program does so from each of its own fronts (`front_goes_on`), so that token is not unexpected. And
-- along a front that begins a program at most 64 brackets are open, so it is no bracket too many
-- (`not_shallow`). The difficulty is that `GoesOn` wants tokens that a text can have, and so of those between
-- the two stops (`past_goes_on`). Read `compared` and `unexpected_once` first.
use Rattle.std.proofs.Common.{◌≡◌, ℕ, ◌⊎◌, inl, inr, List, [], ◌∷◌, ◌++◌, refl, sym, ◌∙◌, ap, subst, append_assoc, arith}
use Rattle.std.proofs.lemmas.List.{map-append, append-nil}
use Rattle.base.specs.declared.span.Span.{Span}
use Rattle.tick_syntax.specs.declared.fault.TextFault.{TextFault}
use Rattle.tick_syntax.specs.declared.fault.TextFault.TheVariants as F
use Rattle.tick_syntax.specs.declared.token.Token.{Token}
use Rattle.tick_syntax.specs.declared.terminals.Terminal.TheVariants as T
use Rattle.tick_syntax.specs.Grammar.{program_tokens}
use Rattle.tick_syntax.specs.Lexeme.{Lexeme, a_terminal, lexeme_of, lexemes}
use Rattle.tick_syntax.specs.Nesting.{IsOpening, open_by, open_after, IsShallow}
use Rattle.base.specs.Plain.{Name, WholeProgram}
use Rattle.tick_syntax.specs.Refusal.{AllCanStand, GoesOn, StopsAfter, IsUnexpected, IsTooDeep}
use Rattle.tick_syntax.proofs.Continuations.{all_append}
use Rattle.tick_syntax.proofs.TokensThatStand.{middle_stands}

-- one of two fronts of a list is the other, or goes on past it
abbrev Past : List Token → List Token → List Token → List Token → Type 0
Past a r b q = (t : Token) × (m : List Token) × (b ≡ a ++ t ∷ m) × (r ≡ t ∷ (m ++ q))

abbrev Compared : List Token → List Token → List Token → List Token → Type 0
Compared a r b q = ((a ≡ b) × (r ≡ q)) ⊎ (Past a r b q ⊎ Past b q a r)

same_head : (t u : Token) (a b : List Token) → t ∷ a ≡ u ∷ b → t ≡ u
same_head t u a b h = cc

same_tail : (t u : Token) (a b : List Token) → t ∷ a ≡ u ∷ b → a ≡ b
same_tail t u a b h = cc

more_compared : (t u : Token) (a r b q : List Token) → t ≡ u → Compared a r b q → Compared (t ∷ a) r (u ∷ b) q
more_compared t u a r b q same (inl c) = inl (ap (λ z. z ∷ a) same ∙ ap (λ z. u ∷ z) c.0, c.1)
more_compared t u a r b q same (inr (inl c)) = inr (inl (c.0, c.1, ap (λ z. z ∷ b) (sym same) ∙ ap (λ z. t ∷ z) c.2, c.3))
more_compared t u a r b q same (inr (inr c)) = inr (inr (c.0, c.1, ap (λ z. z ∷ a) same ∙ ap (λ z. u ∷ z) c.2, c.3))

compared : (a r b q : List Token) → a ++ r ≡ b ++ q → Compared a r b q
compared [] r [] q e = inl (refl, e)
compared [] r (t ∷ b) q e = inr (inl (t, b, refl, e))
compared (t ∷ a) r [] q e = inr (inr (t, a, refl, sym e))
compared (t ∷ a) r (u ∷ b) q e = more_compared t u a r b q (same_head t u _ _ e) (compared a r b q (same_tail t u _ _ e))

-- what goes on goes on from each front of it
front_goes_on : (a b : List Lexeme) → AllCanStand b → GoesOn (a ++ b) → GoesOn a
front_goes_on a b stand g = (b ++ g.0, all_append b g.0 stand g.1, g.2, sym (append_assoc a b g.0) ∙ g.3)

program_goes_on : (ts : List Lexeme) (p : WholeProgram Name) → ts ≡ program_tokens p → GoesOn ts
program_goes_on ts p d = ([], tt, p, append-nil ts ∙ d)

-- a bracket after 64 open ones is one too many
not_shallow : (a b : List Lexeme) (x : Lexeme) (depth : ℕ) → open_after a depth ≡ 64 → IsOpening x → IsShallow (a ++ x ∷ b) depth → ⊥
not_shallow [] b (a_terminal T.Open) depth full opening shallow = omega (arith, full, shallow.0)
not_shallow [] b (a_terminal T.OpenBrace) depth full opening shallow = omega (arith, full, shallow.0)
not_shallow [] b x depth full opening shallow = absurd opening
not_shallow (y ∷ a) b x depth full opening shallow = not_shallow a b x (open_by y depth) full opening shallow.1

module _ (text : List ℕ) where
  said_apart : (a b : List Token) → lexemes text (a ++ b) ≡ lexemes text a ++ lexemes text b
  said_apart a b = map-append (lexeme_of text) a b

  -- of tokens that a text can have
  past_goes_on : (ts front q a m : List Token) (t : Token) → AllCanStand (lexemes text ts) → ts ≡ front ++ q → front ≡ a ++ t ∷ m
      → GoesOn (lexemes text front) → GoesOn (lexemes text (a ++ t ∷ []))
  past_goes_on ts front q a m t all split past g =
      let apart : front ≡ (a ++ t ∷ []) ++ m = past ∙ sym (append_assoc a (t ∷ []) m) in
      front_goes_on (lexemes text (a ++ t ∷ [])) (lexemes text m)
      (middle_stands text (a ++ t ∷ []) m q (subst (λ z. AllCanStand (lexemes text z)) (split ∙ ap (λ z. z ++ q) apart) all))
      (subst GoesOn (ap (lexemes text) apart ∙ said_apart (a ++ t ∷ []) m) g)

  -- where tokens stop they do not go on
  stops_before : (a r m : List Token) (t : Token) (place : Span) → r ≡ t ∷ m → StopsAfter text a r place
      → GoesOn (lexemes text (a ++ t ∷ [])) → ⊥
  stops_before a [] m t place is stop g = absurd (cc)
  stops_before a (u ∷ r) m t place is stop g =
      stop.1 (subst (λ z. GoesOn (lexemes text (a ++ z ∷ []))) (sym (same_head u t r m is)) g)

  one_place : (a r : List Token) (p q : Span) → StopsAfter text a r p → StopsAfter text a r q → p ≡ q
  one_place a [] p q s z = s.0 ∙ sym z.0
  one_place a (t ∷ r) p q s z = s.0 ∙ sym z.0

  -- a front that goes on past an opening which is one too many
  past_opening : (a m : List Token) (t u : Token) → t ≡ u → IsShallow (lexemes text (a ++ u ∷ m)) 0 → open_after (lexemes text a) 0 ≡ 64
      → IsOpening (lexeme_of text t) → ⊥
  past_opening a m t u same shallow full opening =
      not_shallow (lexemes text a) (lexemes text m) (lexeme_of text u) 0 full
      (subst (λ z. IsOpening (lexeme_of text z)) same opening)
      (subst (λ z. IsShallow z 0) (said_apart a (u ∷ m)) shallow)

  unexpected_once : (ts : List Token) (p q : Span) → AllCanStand (lexemes text ts) → IsUnexpected text ts p → IsUnexpected text ts q → p ≡ q
  unexpected_once ts p q all h k =
      elim (compared h.0 h.1 k.0 k.1 (sym h.2 ∙ k.2)) [
        | inl c ↦ one_place k.0 k.1 p q (subst (λ z. StopsAfter text k.0 z p) c.1 (subst (λ z. StopsAfter text z h.1 p) c.0 h.4)) k.4
        | inr (inl c) ↦ absurd (stops_before h.0 h.1 (c.1 ++ k.1) c.0 p c.3 h.4
            (past_goes_on ts k.0 k.1 h.0 c.1 c.0 all k.2 c.2 k.3.0))
        | inr (inr c) ↦ absurd (stops_before k.0 k.1 (c.1 ++ h.1) c.0 q c.3 k.4
            (past_goes_on ts h.0 h.1 k.0 c.1 c.0 all h.2 c.2 h.3.0))
      ]

  deep_once : (ts : List Token) (p q : Span) → IsTooDeep text ts p → IsTooDeep text ts q → p ≡ q
  deep_once ts p q h k =
      elim (compared h.0 (h.1 ∷ h.2) k.0 (k.1 ∷ k.2) (sym h.3 ∙ k.3)) [
        | inl c ↦ h.8 ∙ ap (λ (z : Token). z.span) (same_head h.1 k.1 h.2 k.2 c.1) ∙ sym k.8
        | inr (inl c) ↦ absurd (past_opening h.0 c.1 h.1 c.0 (same_head h.1 c.0 h.2 _ c.3)
            (subst (λ z. IsShallow (lexemes text z) 0) c.2 k.4.1) h.5 h.6)
        | inr (inr c) ↦ absurd (past_opening k.0 c.1 k.1 c.0 (same_head k.1 c.0 k.2 _ c.3)
            (subst (λ z. IsShallow (lexemes text z) 0) c.2 h.4.1) k.5 k.6)
      ]

  unexpected_or_deep : (ts : List Token) (p q : Span) → AllCanStand (lexemes text ts) → IsUnexpected text ts p → IsTooDeep text ts q → ⊥
  unexpected_or_deep ts p q all h k =
      elim (compared h.0 h.1 k.0 (k.1 ∷ k.2) (sym h.2 ∙ k.3)) [
        | inl c ↦ stops_before h.0 h.1 k.2 k.1 p c.1 h.4 (subst (λ z. GoesOn (lexemes text (z ++ k.1 ∷ []))) (sym c.0) k.7)
        | inr (inl c) ↦ stops_before h.0 h.1 (c.1 ++ (k.1 ∷ k.2)) c.0 p c.3 h.4
            (past_goes_on ts k.0 (k.1 ∷ k.2) h.0 c.1 c.0 all k.3 c.2 k.4.0)
        | inr (inr c) ↦ past_opening k.0 c.1 k.1 c.0 (same_head k.1 c.0 k.2 _ c.3)
            (subst (λ z. IsShallow (lexemes text z) 0) c.2 h.3.1) k.5 k.6
      ]

  -- what stops the tokens
  abbrev pub Stops : List Token → TextFault → Type 0
  Stops ts (F.Unexpected place) = IsUnexpected text ts place
  Stops ts (F.TooDeep place) = IsTooDeep text ts place
  Stops ts _ = ⊥

  pub stops_once : (ts : List Token) (a b : TextFault) → AllCanStand (lexemes text ts) → Stops ts a → Stops ts b → a ≡ b
  stops_once ts (F.Unexpected p) (F.Unexpected q) all h k = ap F.Unexpected (unexpected_once ts p q all h k)
  stops_once ts (F.Unexpected p) (F.TooDeep q) all h k = absurd (unexpected_or_deep ts p q all h k)
  stops_once ts (F.TooDeep p) (F.Unexpected q) all h k = absurd (unexpected_or_deep ts q p all k h)
  stops_once ts (F.TooDeep p) (F.TooDeep q) all h k = ap F.TooDeep (deep_once ts p q h k)
  stops_once ts (F.Unexpected p) F.TextTooLong all h k = absurd k
  stops_once ts (F.Unexpected p) (F.BadCharacter q) all h k = absurd k
  stops_once ts (F.Unexpected p) (F.NumberTooBig q) all h k = absurd k
  stops_once ts (F.Unexpected p) (F.NameTooLong q) all h k = absurd k
  stops_once ts (F.Unexpected p) F.NoMemory all h k = absurd k
  stops_once ts (F.TooDeep p) F.TextTooLong all h k = absurd k
  stops_once ts (F.TooDeep p) (F.BadCharacter q) all h k = absurd k
  stops_once ts (F.TooDeep p) (F.NumberTooBig q) all h k = absurd k
  stops_once ts (F.TooDeep p) (F.NameTooLong q) all h k = absurd k
  stops_once ts (F.TooDeep p) F.NoMemory all h k = absurd k
  stops_once ts F.TextTooLong b all h k = absurd h
  stops_once ts (F.BadCharacter p) b all h k = absurd h
  stops_once ts (F.NumberTooBig p) b all h k = absurd h
  stops_once ts (F.NameTooLong p) b all h k = absurd h
  stops_once ts F.NoMemory b all h k = absurd h

  unexpected_program : (ts : List Token) (place : Span) (p : WholeProgram Name) → AllCanStand (lexemes text ts) → lexemes text ts ≡ program_tokens p
      → (a r : List Token) → ts ≡ a ++ r → StopsAfter text a r place → ⊥
  unexpected_program ts place p all d a [] is stop = stop.1 p (ap (lexemes text) (sym (is ∙ append-nil a)) ∙ d)
  unexpected_program ts place p all d a (t ∷ r) is stop =
      stop.1 (past_goes_on ts ts [] a r t all (sym (append-nil ts)) is (program_goes_on (lexemes text ts) p d))

  -- a program within the limits does not stop
  pub no_stop : (ts : List Token) (p : WholeProgram Name) (fault : TextFault) → AllCanStand (lexemes text ts) → lexemes text ts ≡ program_tokens p → IsShallow (lexemes text ts) 0
      → Stops ts fault → ⊥
  no_stop ts p (F.Unexpected place) all d shallow h = unexpected_program ts place p all d h.0 h.1 h.2 h.4
  no_stop ts p (F.TooDeep place) all d shallow h =
      past_opening h.0 h.2 h.1 h.1 refl (subst (λ z. IsShallow (lexemes text z) 0) h.3 shallow) h.5 h.6
  no_stop ts p F.TextTooLong all d shallow h = h
  no_stop ts p (F.BadCharacter q) all d shallow h = h
  no_stop ts p (F.NumberTooBig q) all d shallow h = h
  no_stop ts p (F.NameTooLong q) all d shallow h = h
  no_stop ts p F.NoMemory all d shallow h = h
