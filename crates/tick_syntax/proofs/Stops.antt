-- Where the reader stops, no program goes on.
--
-- The idea. By `Sound` a refusal of the reader is the first fault of the stack of symbols (`fault`). What a
-- refusal promises speaks of programs. `IsUnexpected`: the tokens in front begin a program within the limits, and
-- with the next one no program does. `IsTooDeep`: the next one is a bracket that may stand there, and would be the
-- 65th that is open.
--
-- `stopped` goes along the tokens with the stack, up to the one that is refused, by induction on the list. What it
-- finds is the record `Stopped`: the front and the rest, the symbols that the front leaves (`runs`), that nowhere
-- in it more than 64 brackets were open (`shallow`), how many are open at its end (`depth`), and how the symbols
-- refuse what comes next (`stop`). A token that is taken goes to the front of what the induction gives.
--
-- Then `Continuations` makes programs of symbols. The front leaves symbols, so a program goes on from it
-- (`goes_on`). With one token more none are left, so no program goes on from that (`goes_on_runs`). At the end of
-- the text there is no token more; symbols are left there, and the tokens of a program would leave none
-- (`program_runs`). A bracket that is one too many the symbols do take, so a program would go on.
--
-- It goes through because the brackets that are open are those that the stack still closes (`opened`). `opens_to`
-- says that this number changes as the definition `open_by` has it, so the depth needs no walk of its own.
--
-- The end of the page closes the other doors: the reader has no refusals but these two (`of_fault`), and those of
-- the tokens are told as they are (`first_is_refused`).
use Rattle.std.proofs.Common.{append_assoc, ◌≡◌, ℕ, ◌≤◌, ◌⊎◌, inl, inr, Bool, true, false, List, [], ◌∷◌, ◌++◌, length, Option, Some, None, refl, sym, ◌∙◌, ap, subst, arith}
use Rattle.base.specs.declared.span.Span.{Span}
use Rattle.tick_syntax.specs.declared.fault.TextFault.{TextFault}
use Rattle.tick_syntax.specs.declared.fault.TextFault.TheVariants as F
use Rattle.tick_syntax.specs.declared.valued_token.ValuedToken.{ValuedToken}
use Rattle.tick_syntax.specs.declared.token.Token.{Token}
use Rattle.tick_syntax.specs.prover.ValuedTokens.{SayAs}
use Rattle.tick_syntax.specs.Lexeme.{lexeme_of, lexemes}
use Rattle.tick_syntax.specs.Nesting.{IsOpening, open_by, open_after, IsShallow}
use Rattle.tick_syntax.specs.Refusal.{AllCanStand, Begins, StopsAfter, IsUnexpected, IsTooDeep, IsTextRefused}
use Rattle.tick_syntax.specs.Spelling.{FaultAfter, FirstRefusal}
use Rattle.std.proofs.lemmas.List.{map-append}
use Rattle.tick_syntax.proofs.Symbols.{said, Symbol, s_program, step, opened, is_full, on_stack, run_by, run, fault_by, fault}
use Rattle.tick_syntax.proofs.Continuations.{opens_to, full_is, fits_by, run_append, program_runs, goes_on, goes_on_runs}
use Rattle.tick_syntax.proofs.TokensThatStand.{middle_stands}

module _ (end : ℕ) (text : List ℕ) where
  -- the symbols that are left refuse what comes next
  abbrev StopsAt : List Token → List Symbol → TextFault → Type 0
  StopsAt [] [] e = ⊥
  StopsAt [] (s ∷ st) e = e ≡ F.Unexpected (record { start = end; end = end })
  StopsAt (t ∷ rest) st e =
      ((e ≡ F.Unexpected t.span) × (run (lexeme_of text t ∷ []) st ≡ None))
      ⊎ ((e ≡ F.TooDeep t.span) × IsOpening (lexeme_of text t) × (opened st ≡ 64)
      × (st' : List Symbol) × (run (lexeme_of text t ∷ []) st ≡ Some st'))

  record Stopped (ts : List Token) (st : List Symbol) (e : TextFault) : Type 0 where
    pub front : List Token
    pub rest : List Token
    pub split : ts ≡ front ++ rest
    pub shallow : IsShallow (lexemes text front) (opened st)
    pub left : List Symbol
    pub runs : run (lexemes text front) st ≡ Some left
    pub depth : open_after (lexemes text front) (opened st) ≡ opened left
    pub stop : StopsAt rest left e

  -- it stops before all of them
  stopped_here : (ts : List Token) (st : List Symbol) (e : TextFault) → StopsAt ts st e → Stopped ts st e
  stopped_here ts st e stop = record {
    front = [];
    rest = ts;
    split = refl;
    shallow = tt;
    left = st;
    runs = refl;
    depth = refl;
    stop = stop;
  }

  the_fault : (d e : TextFault) → Some d ≡ Some e → e ≡ d
  the_fault d e h = cc

  stop_step : (t : Token) (ts : List Token) (span : Span) → span ≡ t.span
      → (s : Symbol) (st : List Symbol) (e : TextFault)
      (o : Option (List Symbol)) (b : Bool) → step s (lexeme_of text t) ≡ o
      → is_full 64 (lexeme_of text t) (opened (s ∷ st)) ≡ b
      → opened (s ∷ st) ≤ 64 → (more : List Symbol → Option TextFault) → fault_by (on_stack o st) b span more ≡ Some e
      → ((new : List Symbol) → opened (new ++ st) ≤ 64 → more (new ++ st) ≡ Some e → Stopped ts (new ++ st) e)
      → Stopped (t ∷ ts) (s ∷ st) e
  stop_step t ts span same s st e None b is_none full l more k go =
      stopped_here (t ∷ ts) (s ∷ st) e
      (inl (
        the_fault (F.Unexpected span) e k ∙ ap F.Unexpected same,
        ap (λ z. run_by (on_stack z st) (run [])) is_none,
      ))
  stop_step t ts span same s st e (Some new) true is_some full l more k go =
      let f = full_is 64 (lexeme_of text t) (opened (s ∷ st)) full in
      stopped_here (t ∷ ts) (s ∷ st) e
      (inr (
        the_fault (F.TooDeep span) e k ∙ ap F.TooDeep same,
        f.0,
        f.1,
        new ++ st,
        ap (λ z. run_by (on_stack z st) (run [])) is_some,
      ))
  stop_step t ts span same s st e (Some new) false is_some full l more k go =
      let d : opened (new ++ st) ≡ open_by (lexeme_of text t) (opened (s ∷ st)) =
      opens_to s (lexeme_of text t) new is_some st in
      let fits : open_by (lexeme_of text t) (opened (s ∷ st)) ≤ 64 =
      fits_by (lexeme_of text t) (opened (s ∷ st)) l full in
      let r = go new (subst (λ z. z ≤ 64) (sym d) fits) k in
      record {
        front = t ∷ r.front;
        rest = r.rest;
        split = ap (λ z. t ∷ z) r.split;
        shallow = (fits, subst (λ z. IsShallow (lexemes text r.front) z) d r.shallow);
        left = r.left;
        runs = ap (λ z. run_by (on_stack z st) (run (lexemes text r.front))) is_some ∙ r.runs;
        depth = ap (λ z. open_after (lexemes text r.front) z) (sym d) ∙ r.depth;
        stop = r.stop;
      }

  stopped : (is : List ValuedToken) (ts : List Token) (st : List Symbol) (e : TextFault) → SayAs text is ts
      → opened st ≤ 64
      → fault end 64 is st ≡ Some e → Stopped ts st e
  stopped [] [] [] e same l h = absurd (cc)
  stopped [] [] (s ∷ st) e same l h = stopped_here [] (s ∷ st) e (the_fault _ e h)
  stopped [] (t ∷ ts) st e same l h = absurd same
  stopped (i ∷ is) [] st e same l h = absurd same
  stopped (i ∷ is) (t ∷ ts) [] e same l h =
      stopped_here (t ∷ ts) [] e (inl (the_fault (F.Unexpected i.span) e h ∙ ap F.Unexpected same.0.1, refl))
  stopped (i ∷ is) (t ∷ ts) (s ∷ st) e same l h =
      stop_step t ts i.span same.0.1 s st e (step s (lexeme_of text t))
      (is_full 64 (lexeme_of text t) (opened (s ∷ st))) refl refl l
      (fault end 64 is)
      (subst (λ z. fault_by (on_stack (step s z) st) (is_full 64 z (opened (s ∷ st))) i.span (fault end 64 is) ≡ Some e)
      same.0.0 h)
      (λ new m k. stopped is ts (new ++ st) e same.1 m k)

-- one token more
runs_more : (text : List ℕ) (front : List Token) (t : Token) (left : List Symbol)
    → run (lexemes text front) (s_program ∷ []) ≡ Some left
    → run (lexemes text (front ++ t ∷ [])) (s_program ∷ []) ≡ run (lexeme_of text t ∷ []) left
runs_more text front t left h =
    ap (λ z. run z (s_program ∷ [])) (map-append (lexeme_of text) front (t ∷ []))
    ∙ run_append (lexemes text front) (lexeme_of text t ∷ []) (s_program ∷ [])
    ∙ ap (λ z. run_by z (run (lexeme_of text t ∷ []))) h

same_place : (a b : Span) → F.Unexpected a ≡ F.Unexpected b → a ≡ b
same_place a b h = cc

same_deep : (a b : Span) → F.TooDeep a ≡ F.TooDeep b → a ≡ b
same_deep a b h = cc

not_deep : (a b : Span) → F.Unexpected a ≡ F.TooDeep b → ⊥
not_deep a b h = cc

not_same : (s : Symbol) (st : List Symbol) → Some [] ≡ Some (s ∷ st) → ⊥
not_same s st h = cc

module _ (text : List ℕ) (ts : List Token) (all : AllCanStand (lexemes text ts)) where
  -- a text can have what stands at the front, and one token more
  front_stands : (front rest : List Token) → ts ≡ front ++ rest → AllCanStand (lexemes text front)
  front_stands front rest e = middle_stands text [] front rest (subst (λ z. AllCanStand (lexemes text z)) e all)

  more_stands : (front : List Token) (t : Token) (rest : List Token) → ts ≡ front ++ t ∷ rest
      → AllCanStand (lexemes text (front ++ t ∷ []))
  more_stands front t rest e = front_stands (front ++ t ∷ []) rest (e ∙ sym (append_assoc front (t ∷ []) rest))

  unexpected_here : (front rest : List Token) (left : List Symbol) (place : Span) → ts ≡ front ++ rest
      → run (lexemes text front) (s_program ∷ []) ≡ Some left
      → StopsAt (length text) text rest left (F.Unexpected place)
      → StopsAfter text front rest place
  unexpected_here front [] [] place e r h = absurd h
  unexpected_here front [] (s ∷ st) place e r h = (
    same_place _ _ h,
    λ p d. not_same s st
        (sym (program_runs (lexemes text front) (front_stands front [] e) p d) ∙ r),
  )
  unexpected_here front (t ∷ rest) left place e r (inl h) = (
    same_place _ _ h.0,
    λ g. goes_on_runs (lexemes text (front ++ t ∷ [])) (more_stands front t rest e) g
        (runs_more text front t left r ∙ h.1),
  )
  unexpected_here front (t ∷ rest) left place e r (inr h) = absurd (not_deep _ _ h.0)

  pub is_unexpected : (is : List ValuedToken) (place : Span) → SayAs text is ts
      → fault (length text) 64 is (s_program ∷ []) ≡ Some (F.Unexpected place) → IsUnexpected text ts place
  is_unexpected is place same h =
      let r = stopped (length text) text is ts (s_program ∷ []) (F.Unexpected place) same (omega arith) h in (
        r.front,
        r.rest,
        r.split,
        (goes_on (lexemes text r.front) r.left (front_stands r.front r.rest r.split) r.runs, r.shallow),
        unexpected_here r.front r.rest r.left place r.split r.runs r.stop,
      )

  deep_here : (front rest : List Token) (left : List Symbol) (place : Span) → ts ≡ front ++ rest
      → Begins (lexemes text front) → open_after (lexemes text front) 0 ≡ opened left
      → run (lexemes text front) (s_program ∷ []) ≡ Some left → StopsAt (length text) text rest left (F.TooDeep place)
      → IsTooDeep text ts place
  deep_here front [] [] place e b o r h = absurd h
  deep_here front [] (s ∷ st) place e b o r h = absurd (not_deep _ _ (sym h))
  deep_here front (t ∷ rest) left place e b o r (inl h) = absurd (not_deep _ _ (sym h.0))
  deep_here front (t ∷ rest) left place e b o r (inr h) = (
    front,
    t,
    rest,
    e,
    b,
    o ∙ h.2,
    h.1,
    goes_on (lexemes text (front ++ t ∷ [])) h.3 (more_stands front t rest e) (runs_more text front t left r ∙ h.4),
    same_deep _ _ h.0,
  )

  pub is_too_deep : (is : List ValuedToken) (place : Span) → SayAs text is ts
      → fault (length text) 64 is (s_program ∷ []) ≡ Some (F.TooDeep place) → IsTooDeep text ts place
  is_too_deep is place same h =
      let r = stopped (length text) text is ts (s_program ∷ []) (F.TooDeep place) same (omega arith) h in
      deep_here r.front r.rest r.left place r.split
      (goes_on (lexemes text r.front) r.left (front_stands r.front r.rest r.split) r.runs, r.shallow) r.depth r.runs
      r.stop

-- The faults of a text's tokens are none of the grammar's.
no_unexpected : (at : ℕ) (text : List ℕ) (before : List Token) (place : Span)
    → FaultAfter at text before (F.Unexpected place) → ⊥
no_unexpected at text [] place h = h
no_unexpected at text (t ∷ before) place h = no_unexpected t.span.end h.0 before place h.2

no_too_deep : (at : ℕ) (text : List ℕ) (before : List Token) (place : Span)
    → FaultAfter at text before (F.TooDeep place) → ⊥
no_too_deep at text [] place h = h
no_too_deep at text (t ∷ before) place h = no_too_deep t.span.end h.0 before place h.2

-- a refusal of the tokens is the text's
pub first_is_refused : (text : List ℕ) (fault : TextFault) → FirstRefusal text fault → IsTextRefused text fault
first_is_refused text F.TextTooLong first = first
first_is_refused text (F.BadCharacter place) first = first
first_is_refused text (F.NumberTooBig place) first = first
first_is_refused text (F.NameTooLong place) first = first
first_is_refused text (F.Unexpected place) first = absurd (no_unexpected 0 text first.1.0 place first.1.1)
first_is_refused text (F.TooDeep place) first = absurd (no_too_deep 0 text first.1.0 place first.1.1)
first_is_refused text F.NoMemory first = first

-- the reader has no other refusals
abbrev IsStop : TextFault → Type 0
IsStop (F.Unexpected place) = Unit {0}
IsStop (F.TooDeep place) = Unit {0}
IsStop _ = ⊥

some_same : (d e : TextFault) → Some d ≡ Some e → d ≡ e
some_same d e h = cc

of_step : (o : Option (List Symbol)) (b : Bool) (span : Span) (more : List Symbol → Option TextFault) (e : TextFault)
    → fault_by o b span more ≡ Some e → ((new : List Symbol) → more new ≡ Some e → IsStop e) → IsStop e
of_step None b span more e h go = subst IsStop (some_same (F.Unexpected span) e h) tt
of_step (Some new) true span more e h go = subst IsStop (some_same (F.TooDeep span) e h) tt
of_step (Some new) false span more e h go = go new h

pub of_fault : (end limit : ℕ) (is : List ValuedToken) (st : List Symbol) (e : TextFault)
    → fault end limit is st ≡ Some e → IsStop e
of_fault end limit [] [] e h = absurd (cc)
of_fault end limit [] (s ∷ st) e h = subst IsStop (some_same (F.Unexpected (record { start = end; end = end })) e h) tt
of_fault end limit (i ∷ is) [] e h = subst IsStop (some_same (F.Unexpected i.span) e h) tt
of_fault end limit (i ∷ is) (s ∷ st) e h =
    of_step (on_stack (step s (said i)) st) (is_full limit (said i) (opened (s ∷ st))) i.span (fault end limit is) e h
    (λ new k. of_fault end limit is new e k)
