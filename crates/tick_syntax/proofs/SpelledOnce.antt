-- A text is spelled by one token list at most, or else has one first fault at most.
use Rattle.std.proofs.Common.{◌≡◌, ℕ, List, [], ◌∷◌, refl, sym, ap, ◌∙◌, subst}
use Rattle.tick_syntax.specs.Spelling.{SpellsFrom, Spells, FaultAfter, FirstFault}
use Rattle.tick_syntax.specs.declared.token.Token.{Token}
use Rattle.tick_syntax.specs.declared.fault.TextFault.{TextFault}
use Rattle.tick_syntax.proofs.FirstToken.{same_token, token_or_fault, same_fault, no_token_at_end, no_fault_at_end}

pub spells_one : (at : ℕ) (text : List ℕ) (a b : List Token) → SpellsFrom at text a → SpellsFrom at text b → a ≡ b
spells_one at text [] [] s q = refl
spells_one at text [] (u ∷ us) s q = absurd (no_token_at_end _ _ u q.0 s q.1)
spells_one at text (t ∷ ts) [] s q = absurd (no_token_at_end _ _ t s.0 q s.1)
spells_one at text (t ∷ ts) (u ∷ us) s q =
    let same = same_token _ _ t u s.0 q.0 s.1 q.1 in
    let there = subst (λ (more : List ℕ). SpellsFrom t.span.end more us) (sym same.1) (subst (λ (v : Token). SpellsFrom v.span.end q.0 us) (sym same.0) q.2) in
    let rest = spells_one t.span.end s.0 ts us s.2 there in
    ap (λ (v : Token). v ∷ ts) same.0 ∙ ap (λ (vs : List Token). u ∷ vs) rest

pub one_fault : (at : ℕ) (text : List ℕ) (a b : List Token) (fault other : TextFault) → FaultAfter at text a fault → FaultAfter at text b other → fault ≡ other
one_fault at text [] [] fault other s q = same_fault _ _ fault other s q
one_fault at text [] (u ∷ us) fault other s q = absurd (token_or_fault _ _ u q.0 fault q.1 s)
one_fault at text (t ∷ ts) [] fault other s q = absurd (token_or_fault _ _ t s.0 other s.1 q)
one_fault at text (t ∷ ts) (u ∷ us) fault other s q =
    let same = same_token _ _ t u s.0 q.0 s.1 q.1 in
    let there = subst (λ (more : List ℕ). FaultAfter t.span.end more us other) (sym same.1) (subst (λ (v : Token). FaultAfter v.span.end q.0 us other) (sym same.0) q.2) in
    one_fault t.span.end s.0 ts us fault other s.2 there

pub spells_or_fault : (at : ℕ) (text : List ℕ) (a b : List Token) (fault : TextFault) → SpellsFrom at text a → FaultAfter at text b fault → ⊥
spells_or_fault at text [] [] fault s q = no_fault_at_end _ _ fault s q
spells_or_fault at text [] (u ∷ us) fault s q = no_token_at_end _ _ u q.0 s q.1
spells_or_fault at text (t ∷ ts) [] fault s q = token_or_fault _ _ t s.0 fault s.1 q
spells_or_fault at text (t ∷ ts) (u ∷ us) fault s q =
    let same = same_token _ _ t u s.0 q.0 s.1 q.1 in
    let there = subst (λ (more : List ℕ). FaultAfter t.span.end more us fault) (sym same.1) (subst (λ (v : Token). FaultAfter v.span.end q.0 us fault) (sym same.0) q.2) in
    spells_or_fault t.span.end s.0 ts us fault s.2 there

-- a text is spelled by at most one token list
pub spells_unique : (text : List ℕ) (a b : List Token) → Spells text a → Spells text b → a ≡ b
spells_unique text a b s q = spells_one 0 text a b s q

pub first_fault_unique : (text : List ℕ) (a b : TextFault) → FirstFault text a → FirstFault text b → a ≡ b
first_fault_unique text a b s q = one_fault 0 text s.0 q.0 a b s.1 q.1

-- no text both is spelled and has a fault
pub spells_no_fault : (text : List ℕ) (a : List Token) (fault : TextFault) → Spells text a → FirstFault text fault → ⊥
spells_no_fault text a fault s q = spells_or_fault 0 text a q.0 fault s q.1
