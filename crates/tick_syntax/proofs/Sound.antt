-- What the reader reads is what the grammar has, and where it stops nothing goes on.
--
-- The idea. A reader that descends by the grammar has, at any moment, a list of what has still to come: after `x =
-- (` an expression, an operator, an expression, `)` and `;`. Here that list is written down, as a stack of symbols
-- (`Symbols`). `step s x` are the symbols that stand in the place of `s` once the token `x` was read, or none,
-- where `s` can't begin with `x`; `fault is st` is the first token of `is` that the stack `st` refuses. The stack
-- knows nothing of the reader. It is what refusals are proved about in the end (`Continuations`, `Stops`).
--
-- `Reads syms P room is m` ties a reading to it: the reading `m` of the tokens `is` does what the symbols `syms`
-- do, where `room` more brackets may be opened. It has four parts:
--
--     found      what was read stands in front of what is left, as P says: these are the grammar's tokens
--     shorter    fewer tokens are left
--     goes       where it read, the stack goes on with what is left, whatever stands below these symbols
--     stops      where it refused, the stack refuses at the same place and for the same reason
--
-- A reader is put together of a few things, and each has its lemma:
--
--     reads_bind, reads_map    one reading after another: their symbols stand one after the other
--     accept, refuse           a token that is all that the symbol stands for; one that it doesn't take
--     enter                    a token after which other symbols stand in the symbol's place
--     refuse_deep              a bracket that is one too many
--     stand_in, weaken         a symbol that takes what others take; a weaker P
--     by_next                  the next token, if there is one
--
-- The induction is on how many brackets may still be opened (`brackets_read`): what stands inside a bracket has
-- room for one less. Within one level the proof follows the rules. `Statements` goes on with statements and
-- blocks, `SoundPrograms` with whole programs.
--
-- It goes through because `goes` and `stops` hold whatever symbols `st` stand below: so two readings in a row are
-- put together without looking into either. Brackets are counted by the stack itself, as the symbols of it that
-- close one (`opened`); and `opened (syms ++ st) + room` is the limit at every place. So the reader's room and the
-- stack's count agree on which bracket is one too many.
use Rattle.std.proofs.Common.{sym, ◌≡◌, ◌≢◌, ℕ, zero, suc, ◌+◌, ◌<◌, ◌≤◌, ◌⊎◌, inl, inr, true, false, List, [], ◌∷◌, ◌++◌, length, Some, None, Result, Ok, Err, refl, ◌∙◌, ap, subst, append_assoc, arith, nat_eq, eq-eqb}
use Rattle.std.proofs.lemmas.Bool.{ne_eqb}
use Rattle.base.specs.declared.span.Span.{Span}
use Rattle.tick_syntax.specs.declared.fault.TextFault.{TextFault}
use Rattle.tick_syntax.specs.declared.fault.TextFault.TheVariants as F
use Rattle.tick_syntax.specs.declared.valued_token.ValuedToken.{ValuedToken}
use Rattle.tick_syntax.specs.declared.valued_token.Meaning.{Meaning}
use Rattle.tick_syntax.specs.declared.valued_token.Meaning.TheVariants as M
use Rattle.tick_syntax.specs.declared.terminals.Terminal.{Terminal}
use Rattle.tick_syntax.specs.declared.terminals.Terminal.TheVariants as T
use Rattle.tick_syntax.specs.Lexeme.{Lexeme, a_name, a_terminal}
use Rattle.base.specs.Plain.{Name, Expression}
use Rattle.tick_syntax.specs.Grammar.{expression_tokens, expression_nesting}
use Rattle.base.specs.Refusing.{◌>>=◌}
use Rattle.tick_syntax.specs.prover.Reading.{Reading, next_at, terminal_at, terminal_by, operator_at, operator_by, name_at, name_by, pair_at, brackets_at, expression_by, expression_at, last_at}
use Rattle.tick_syntax.proofs.Symbols.{said_by, says, Symbol, s_semicolon, s_name, s_becomes, s_else, s_close, s_operator, s_expression, step, opened, is_full, on_stack, fault_by, fault}

pub bind_ok : {A B : Type 0} (m : Result A TextFault) (f : A → Result B TextFault) (y : B)
    → (m >>= f) ≡ Ok y → (x : A) × (m ≡ Ok x) × (f x ≡ Ok y)
bind_ok (Ok x) f y h = (x, refl, h)
bind_ok (Err e) f y h = absurd (cc)

pub bind_err : {A B : Type 0} (m : Result A TextFault) (f : A → Result B TextFault) (e : TextFault)
    → (m >>= f) ≡ Err e → (m ≡ Err e) ⊎ ((x : A) × (m ≡ Ok x) × (f x ≡ Err e))
bind_err (Ok x) f e h = inr (x, refl, h)
bind_err (Err d) f e h = inl (cc)

abbrev answer : {A : Type 0} → A → Result A TextFault
answer x = Ok x

abbrev refusal : {A : Type 0} → TextFault → Result A TextFault
refusal e = Err e

the_ok : {A : Type 0} {x y : A} → answer x ≡ answer y → x ≡ y
the_ok h = cc

not_err : {A : Type 0} {x : A} {e : TextFault} → answer x ≡ refusal e → ⊥
not_err h = cc

not_ok : {A : Type 0} {x : A} {e : TextFault} → refusal e ≡ answer x → ⊥
not_ok h = cc

the_err : {A : Type 0} (d e : TextFault) → refusal {A = A} d ≡ refusal e → d ≡ e
the_err d e h = cc

-- how lists that stand after one another are one list before the rest
pub pair_regroups : (a : List Lexeme) (x : Lexeme) (b : List Lexeme) (y : Lexeme) (rest : List Lexeme)
    → a ++ x ∷ (b ++ y ∷ rest) ≡ (a ++ x ∷ (b ++ y ∷ [])) ++ rest
pair_regroups a x b y rest = simp append_assoc

module _ (end limit : ℕ) where
  -- The symbols are read from the front, with something that P says of the value and the rest; or the
  -- refusal is the first.
  pub record Reads {V : Type 0} (syms : List Symbol) (P : V → List Lexeme → Type 0) (room : ℕ) (is : List ValuedToken)
      (m : Reading V) : Type 0 where
    pub found : (x : V × List ValuedToken) → m ≡ Ok x → P x.0 (says x.1)
    pub shorter : (x : V × List ValuedToken) → m ≡ Ok x → length x.1 < length is
    pub goes : (x : V × List ValuedToken) → m ≡ Ok x → (st : List Symbol) → opened (syms ++ st) + room ≡ limit
        → fault end limit is (syms ++ st) ≡ fault end limit x.1 st
    pub stops : (e : TextFault) → m ≡ Err e → (st : List Symbol) → opened (syms ++ st) + room ≡ limit
        → fault end limit is (syms ++ st) ≡ Some e

  pub reads_bind_shorter : {V U : Type 0} (xs ys : List Symbol) (P : V → List Lexeme → Type 0)
      (Q : U → List Lexeme → Type 0)
      (room : ℕ) (is : List ValuedToken) (m : Reading V) (f : V × List ValuedToken → Reading U)
      → ((st : List Symbol) → opened (xs ++ st) ≡ opened st)
      → Reads xs P room is m
      → ((x : V × List ValuedToken) → P x.0 (says x.1) → length x.1 < length is → Reads ys Q room x.1 (f x))
      → Reads (xs ++ ys) Q room is (m >>= f)
  reads_bind_shorter xs ys P Q room is m f none first then_ = record {
    found = λ y h. let b = bind_ok m f y h in (then_ b.0 (first.found b.0 b.1) (first.shorter b.0 b.1)).found y b.2;
    shorter = λ y h. let b = bind_ok m f y h in
        let l : length b.0.1 < length is = first.shorter b.0 b.1 in
        let k : length y.1 < length b.0.1 =
        (then_ b.0 (first.found b.0 b.1) (first.shorter b.0 b.1)).shorter y b.2 in omega arith;
    goes = λ y h st o. let b = bind_ok m f y h in
        let whole : opened (xs ++ (ys ++ st)) + room ≡ limit =
        subst (λ z. opened z + room ≡ limit) (append_assoc xs ys st) o in
        let inner : opened (ys ++ st) + room ≡ limit = subst (λ z. z + room ≡ limit) (none (ys ++ st)) whole in
        ap (fault end limit is) (append_assoc xs ys st) ∙ first.goes b.0 b.1 (ys ++ st) whole
        ∙ (then_ b.0 (first.found b.0 b.1) (first.shorter b.0 b.1)).goes y b.2 st inner;
    stops = λ e h st o.
        let whole : opened (xs ++ (ys ++ st)) + room ≡ limit =
        subst (λ z. opened z + room ≡ limit) (append_assoc xs ys st) o in
        let inner : opened (ys ++ st) + room ≡ limit = subst (λ z. z + room ≡ limit) (none (ys ++ st)) whole in
        elim (bind_err m f e h) [
          | inl b ↦ ap (fault end limit is) (append_assoc xs ys st) ∙ first.stops e b (ys ++ st) whole
          | inr b ↦ ap (fault end limit is) (append_assoc xs ys st) ∙ first.goes b.0 b.1 (ys ++ st) whole
              ∙ (then_ b.0 (first.found b.0 b.1) (first.shorter b.0 b.1)).stops e b.2 st inner
        ];
  }

  pub reads_bind : {V U : Type 0} (xs ys : List Symbol) (P : V → List Lexeme → Type 0) (Q : U → List Lexeme → Type 0)
      (room : ℕ) (is : List ValuedToken) (m : Reading V) (f : V × List ValuedToken → Reading U)
      → ((st : List Symbol) → opened (xs ++ st) ≡ opened st)
      → Reads xs P room is m
      → ((x : V × List ValuedToken) → P x.0 (says x.1) → Reads ys Q room x.1 (f x))
      → Reads (xs ++ ys) Q room is (m >>= f)
  reads_bind xs ys P Q room is m f none first then_ = reads_bind_shorter xs ys P Q room is m f none first
      (λ x p l. then_ x p)

  pub reads_map : {V U : Type 0} (xs : List Symbol) (P : V → List Lexeme → Type 0) (Q : U → List Lexeme → Type 0)
      (room : ℕ) (is : List ValuedToken) (m : Reading V) (g : V → U)
      → Reads xs P room is m
      → ((v : V) (rest : List Lexeme) → P v rest → Q (g v) rest)
      → Reads xs Q room is (m >>= λ x. Ok (g x.0, x.1))
  reads_map xs P Q room is m g first q = record {
    found = λ y h. let b = bind_ok m (λ x. Ok (g x.0, x.1)) y h in
        subst (λ z. Q z.0 (says z.1)) (the_ok b.2) (q b.0.0 (says b.0.1) (first.found b.0 b.1));
    shorter = λ y h. let b = bind_ok m (λ x. Ok (g x.0, x.1)) y h in
        subst (λ z. length z.1 < length is) (the_ok b.2) (first.shorter b.0 b.1);
    goes = λ y h st o. let b = bind_ok m (λ x. Ok (g x.0, x.1)) y h in
        subst (λ z. fault end limit is (xs ++ st) ≡ fault end limit z.1 st) (the_ok b.2) (first.goes b.0 b.1 st o);
    stops = λ e h st o. elim (bind_err m (λ x. Ok (g x.0, x.1)) e h) [
      | inl b ↦ first.stops e b st o
      | inr b ↦ absurd (not_err b.2)
    ];
  }

  -- A reading that refuses where the symbol does.
  refuses : {V : Type 0} (s : Symbol) (P : V → List Lexeme → Type 0) (room : ℕ) (is : List ValuedToken) (d : TextFault)
      → ((st : List Symbol) → opened (s ∷ st) + room ≡ limit → fault end limit is (s ∷ st) ≡ Some d)
      → Reads (s ∷ []) P room is (refusal d)
  refuses {V} s P room is d refused = record {
    found = λ x h. absurd (not_ok h);
    shorter = λ x h. absurd (not_ok h);
    goes = λ x h. absurd (not_ok h);
    stops = λ e h st o. refused st o ∙ ap Some (the_err {A = V × List ValuedToken} _ e h);
  }

  -- A token that no symbol takes.
  pub refuse : {V : Type 0} (s : Symbol) (P : V → List Lexeme → Type 0) (room : ℕ) (m : Meaning) (span : Span)
      (rest : List ValuedToken)
      → step s (said_by m span) ≡ None
      → Reads (s ∷ []) P room (record { meaning = m; span = span } ∷ rest) (refusal (F.Unexpected span))
  refuse s P room m span rest none =
      refuses s P room (record { meaning = m; span = span } ∷ rest) (F.Unexpected span) (λ st o.
      ap (λ z. fault_by (on_stack z st) (is_full limit (said_by m span) (opened (s ∷ st))) span
      (fault end limit rest)) none)

  -- A bracket that is one too many.
  pub refuse_deep : {V : Type 0} (s : Symbol) (P : V → List Lexeme → Type 0) (m : Meaning) (span : Span)
      (rest : List ValuedToken) (new : List Symbol)
      → step s (said_by m span) ≡ Some new
      → ((st : List Symbol) → opened (s ∷ st) + 0 ≡ limit → is_full limit (said_by m span) (opened (s ∷ st)) ≡ true)
      → Reads (s ∷ []) P 0 (record { meaning = m; span = span } ∷ rest) (refusal (F.TooDeep span))
  refuse_deep s P m span rest new is_some full =
      refuses s P 0 (record { meaning = m; span = span } ∷ rest) (F.TooDeep span) (λ st o.
      ap (λ z. fault_by (on_stack z st) (is_full limit (said_by m span) (opened (s ∷ st))) span
      (fault end limit rest)) is_some
      ∙ ap (λ z. fault_by (Some (new ++ st)) z span (fault end limit rest)) (full st o))

  -- A token that is all that the symbol stands for.
  pub accept : {V : Type 0} (s : Symbol) (P : V → List Lexeme → Type 0) (room : ℕ) (m : Meaning) (span : Span)
      (rest : List ValuedToken) (v : V)
      → step s (said_by m span) ≡ Some []
      → ((st : List Symbol) → is_full limit (said_by m span) (opened (s ∷ st)) ≡ false)
      → P v (says rest)
      → Reads (s ∷ []) P room (record { meaning = m; span = span } ∷ rest) (answer (v, rest))
  accept s P room m span rest v is_some full p = record {
    found = λ x h. subst (λ z. P z.0 (says z.1)) (the_ok h) p;
    shorter = λ x h. subst (λ z. length z.1 < suc (length rest)) (the_ok h) (omega arith);
    goes = λ x h st o.
        ap (λ z. fault_by (on_stack z st) (is_full limit (said_by m span) (opened (s ∷ st))) span
        (fault end limit rest)) is_some
        ∙ ap (λ z. fault_by (Some st) z span (fault end limit rest)) (full st)
        ∙ ap (λ z. fault end limit z.1 st) (the_ok h);
    stops = λ e h. absurd (not_err h);
  }

  -- A token after which other symbols stand in the symbol's place.
  pub enter : {V : Type 0} (s : Symbol) (P : V → List Lexeme → Type 0) (room inside : ℕ) (m : Meaning) (span : Span)
      (rest : List ValuedToken)
      (new : List Symbol) (r : Reading V)
      → step s (said_by m span) ≡ Some new
      → ((st : List Symbol) → opened (s ∷ st) + room ≡ limit
      → (is_full limit (said_by m span) (opened (s ∷ st)) ≡ false) × (opened (new ++ st) + inside ≡ limit))
      → Reads new P inside rest r
      → Reads (s ∷ []) P room (record { meaning = m; span = span } ∷ rest) r
  enter s P room inside m span rest new r is_some fits inner = record {
    found = inner.found;
    shorter = λ x h. let l : length x.1 < length rest = inner.shorter x h in omega arith;
    goes = λ x h st o. passes st (fits st o).0 ∙ inner.goes x h st (fits st o).1;
    stops = λ e h st o. passes st (fits st o).0 ∙ inner.stops e h st (fits st o).1;
  }
    where
      passes : (st : List Symbol) → is_full limit (said_by m span) (opened (s ∷ st)) ≡ false
          → fault end limit (record { meaning = m; span = span } ∷ rest) (s ∷ st) ≡ fault end limit rest (new ++ st)
      passes st full =
          ap (λ z. fault_by (on_stack z st) (is_full limit (said_by m span) (opened (s ∷ st))) span
          (fault end limit rest)) is_some
          ∙ ap (λ z. fault_by (Some (new ++ st)) z span (fault end limit rest)) full

  -- No token is left.
  pub nothing_left : {V : Type 0} (s : Symbol) (P : V → List Lexeme → Type 0) (room : ℕ)
      → Reads (s ∷ []) P room [] (refusal (F.Unexpected (record { start = end; end = end })))
  nothing_left s P room = refuses s P room [] (F.Unexpected (record { start = end; end = end })) (λ st o. refl)

  -- By the next token, if there is one, where the reading may go back to it.
  pub by_next_whole : {V : Type 0} (s : Symbol) (P : List ValuedToken → V → List Lexeme → Type 0) (room : ℕ)
      (f : List ValuedToken → Meaning → Span → List ValuedToken → Reading V)
      → ((m : Meaning) (span : Span) (rest : List ValuedToken)
      → Reads (s ∷ []) (P (record { meaning = m; span = span } ∷ rest)) room
      (record { meaning = m; span = span } ∷ rest)
      (f (record { meaning = m; span = span } ∷ rest) m span rest))
      → (is : List ValuedToken) → Reads (s ∷ []) (P is) room is (next_at end is >>= λ x. f is x.0.meaning x.0.span x.1)
  unfolding next_at
  by_next_whole {V} s P room f h [] = nothing_left s (P []) room
  by_next_whole s P room f h (i ∷ is) = h i.meaning i.span is

  -- The same, where it goes on.
  pub by_next : {V : Type 0} (s : Symbol) (P : List ValuedToken → V → List Lexeme → Type 0) (room : ℕ)
      (f : Meaning → Span → List ValuedToken → Reading V)
      → ((m : Meaning) (span : Span) (rest : List ValuedToken)
      → Reads (s ∷ []) (P (record { meaning = m; span = span } ∷ rest)) room
      (record { meaning = m; span = span } ∷ rest) (f m span rest))
      → (is : List ValuedToken) → Reads (s ∷ []) (P is) room is (next_at end is >>= λ x. f x.0.meaning x.0.span x.1)
  by_next s P room f h is = by_next_whole s P room (λ whole m span rest. f m span rest) h is

  -- The same, with what is read after it.
  pub by_next_then : {U V : Type 0} (s : Symbol) (P : List ValuedToken → V → List Lexeme → Type 0) (room : ℕ)
      (f : Meaning → Span → List ValuedToken → Reading U) (g : U × List ValuedToken → Reading V)
      → ((m : Meaning) (span : Span) (rest : List ValuedToken)
      → Reads (s ∷ []) (P (record { meaning = m; span = span } ∷ rest)) room
      (record { meaning = m; span = span } ∷ rest) (f m span rest >>= g))
      → (is : List ValuedToken) → Reads (s ∷ []) (P is) room is
      ((next_at end is >>= λ x. f x.0.meaning x.0.span x.1) >>= g)
  unfolding next_at
  by_next_then {U} {V} s P room f g h [] = nothing_left s (P []) room
  by_next_then s P room f g h (i ∷ is) = h i.meaning i.span is

  -- A symbol that takes the tokens as others do.
  pub stand_in : {V : Type 0} (s : Symbol) (ss : List Symbol) (P : V → List Lexeme → Type 0) (room : ℕ)
      (is : List ValuedToken) (r : Reading V)
      → ((st : List Symbol) → opened (s ∷ st) ≡ opened (ss ++ st))
      → ((st : List Symbol) → fault end limit is (s ∷ st) ≡ fault end limit is (ss ++ st))
      → Reads ss P room is r → Reads (s ∷ []) P room is r
  stand_in s ss P room is r same as_ inner = record {
    found = inner.found;
    shorter = inner.shorter;
    goes = λ x h st o. as_ st ∙ inner.goes x h st (subst (λ z. z + room ≡ limit) (same st) o);
    stops = λ e h st o. as_ st ∙ inner.stops e h st (subst (λ z. z + room ≡ limit) (same st) o);
  }

  pub weaken : {V : Type 0} (ss : List Symbol) (P Q : V → List Lexeme → Type 0) (room : ℕ) (is : List ValuedToken)
      (r : Reading V)
      → Reads ss P room is r → ((v : V) (rest : List Lexeme) → P v rest → Q v rest) → Reads ss Q room is r
  weaken ss P Q room is r inner q = record {
    found = λ x h. q x.0 (says x.1) (inner.found x h);
    shorter = inner.shorter;
    goes = inner.goes;
    stops = inner.stops;
  }

  -- What the symbol stands for is one token, which says what the value was made of.
  abbrev pub ReadsOne : {V : Type 0} → Symbol → (V → Lexeme) → (Meaning → Span → List ValuedToken → Reading V) → Type 0
  ReadsOne s token f =
      (room : ℕ) (m : Meaning) (span : Span) (rest : List ValuedToken)
      → Reads (s ∷ []) (λ v r. said_by m span ∷ says rest ≡ token v ∷ r) room
      (record { meaning = m; span = span } ∷ rest) (f m span rest)

  abbrev pub ReadsTerminal : Symbol → Terminal → Type 0
  ReadsTerminal s w = ReadsOne s (λ v. a_terminal w) (terminal_by w)

  pub semicolon_one : ReadsTerminal s_semicolon T.Semicolon
  semicolon_one room (M.Terminal T.Semicolon) span rest = accept _ _ room _ span rest tt refl (λ st. refl) refl
  semicolon_one room m span rest = refuse _ _ room m span rest refl

  pub becomes_one : ReadsTerminal s_becomes T.Becomes
  becomes_one room (M.Terminal T.Becomes) span rest = accept _ _ room _ span rest tt refl (λ st. refl) refl
  becomes_one room m span rest = refuse _ _ room m span rest refl

  pub else_one : ReadsTerminal s_else T.Else
  else_one room (M.Terminal T.Else) span rest = accept _ _ room _ span rest tt refl (λ st. refl) refl
  else_one room m span rest = refuse _ _ room m span rest refl

  close_one : ReadsTerminal s_close T.Close
  close_one room (M.Terminal T.Close) span rest = accept _ _ room _ span rest tt refl (λ st. refl) refl
  close_one room m span rest = refuse _ _ room m span rest refl

  operator_one : ReadsOne s_operator (λ op. a_terminal (T.Operator op)) operator_by
  operator_one room (M.Terminal (T.Operator op)) span rest = accept _ _ room _ span rest op refl (λ st. refl) refl
  operator_one room m span rest = refuse _ _ room m span rest refl

  name_one : ReadsOne s_name a_name name_by
  name_one room (M.Name letters) span rest = accept _ _ room _ span rest _ refl (λ st. refl) refl
  name_one room m span rest = refuse _ _ room m span rest refl

  pub terminal_reads : (s : Symbol) (w : Terminal) → ReadsTerminal s w → (room : ℕ) (is : List ValuedToken)
      → Reads (s ∷ []) (λ v r. says is ≡ a_terminal w ∷ r) room is (terminal_at end w is)
  unfolding terminal_at
  terminal_reads s w one room is = by_next s (λ js v r. says js ≡ a_terminal w ∷ r) room (terminal_by w) (one room) is

  operator_reads : (room : ℕ) (is : List ValuedToken)
      → Reads (s_operator ∷ []) (λ v r. says is ≡ a_terminal (T.Operator v) ∷ r) room is (operator_at end is)
  unfolding operator_at
  operator_reads room is = by_next s_operator (λ js v r. says js ≡ a_terminal (T.Operator v) ∷ r) room operator_by
      (operator_one room) is

  pub name_reads : (room : ℕ) (is : List ValuedToken)
      → Reads (s_name ∷ []) (λ v r. says is ≡ a_name v ∷ r) room is (name_at end is)
  unfolding name_at
  name_reads room is = by_next s_name (λ js v r. says js ≡ a_name v ∷ r) room name_by (name_one room) is

  -- the tokens of an expression of no more brackets within one another than there is room for
  abbrev pub IsExpressionIn : ℕ → List Lexeme → Expression Name → List Lexeme → Type 0
  IsExpressionIn room ts e rest = (ts ≡ expression_tokens e ++ rest) × (expression_nesting e ≤ room)

  abbrev ReadsExpressions : ℕ → (List ValuedToken → Reading (Expression Name)) → Type 0
  ReadsExpressions room read = (is : List ValuedToken)
      → Reads (s_expression ∷ []) (IsExpressionIn room (says is)) room is (read is)

  pair_reads : (room : ℕ) (read : List ValuedToken → Reading (Expression Name)) → ReadsExpressions room read
      → (is : List ValuedToken)
      → Reads (s_expression ∷ s_operator ∷ s_expression ∷ s_close ∷ [])
      (IsExpressionIn (suc room) (a_terminal T.Open ∷ says is)) room is (pair_at end read is)
  unfolding pair_at
  pair_reads room read reads is =
      let Q : Expression Name → List Lexeme → Type 0 = IsExpressionIn (suc room) (a_terminal T.Open ∷ says is) in
      reads_bind (s_expression ∷ []) (s_operator ∷ s_expression ∷ s_close ∷ []) _ Q room is _ _ (λ st. refl) (reads is)
      (λ a da.
      reads_bind (s_operator ∷ []) (s_expression ∷ s_close ∷ []) _ Q room a.1 _ _ (λ st. refl) (operator_reads room a.1)
      (λ op dop.
      reads_bind (s_expression ∷ []) (s_close ∷ []) _ Q room op.1 _ _ (λ st. refl) (reads op.1) (λ b db.
      reads_map (s_close ∷ []) _ Q room b.1 _ _ (terminal_reads s_close T.Close close_one room b.1) (λ c rest dc. (
        ap (λ z. a_terminal T.Open ∷ z)
            (da.0 ∙ ap (λ z. expression_tokens a.0 ++ z)
            (dop ∙ ap (λ z. a_terminal (T.Operator op.0) ∷ z) (db.0 ∙ ap (λ z. expression_tokens b.0 ++ z) dc))
            ∙ pair_regroups (expression_tokens a.0) (a_terminal (T.Operator op.0)) (expression_tokens b.0)
            (a_terminal T.Close) rest),
        (let l : expression_nesting a.0 ≤ room = da.1 in let k : expression_nesting b.0 ≤ room = db.1 in omega arith),
      )))))

  -- an opening bracket has room just where it isn't one too many
  pub full_at : (depth : ℕ) → depth + 0 ≡ limit → nat_eq depth limit ≡ true
  full_at depth h = eq-eqb depth limit (omega arith)

  pub free_at : (depth room : ℕ) → depth + suc room ≡ limit → nat_eq depth limit ≡ false
  free_at depth room h = let ne : depth ≢ limit = omega arith in ne_eqb depth limit ne

  expression_front : (room : ℕ) (brackets : Span → List ValuedToken → Reading (Expression Name))
      → ((span : Span) (rest : List ValuedToken)
      → Reads (s_expression ∷ []) (IsExpressionIn room (a_terminal T.Open ∷ says rest)) room
      (record { meaning = M.Terminal T.Open; span = span } ∷ rest) (brackets span rest))
      → (m : Meaning) (span : Span) (rest : List ValuedToken)
      → Reads (s_expression ∷ []) (IsExpressionIn room (said_by m span ∷ says rest)) room
      (record { meaning = m; span = span } ∷ rest) (expression_by end m span rest (brackets span rest))
  expression_front room brackets h (M.Number v) span rest = accept _ _ room _ span rest _ refl (λ st. refl)
      (refl, omega arith)
  expression_front room brackets h (M.Name letters) span rest = accept _ _ room _ span rest _ refl (λ st. refl)
      (refl, omega arith)
  expression_front room brackets h (M.Terminal T.Me) span rest = accept _ _ room _ span rest _ refl (λ st. refl)
      (refl, omega arith)
  expression_front room brackets h (M.Terminal T.Count) span rest = accept _ _ room _ span rest _ refl (λ st. refl)
      (refl, omega arith)
  expression_front room brackets h (M.Terminal T.Open) span rest = h span rest
  expression_front room brackets h m span rest = refuse _ _ room m span rest refl

  brackets_read : (room : ℕ) (span : Span) (rest : List ValuedToken)
      → Reads (s_expression ∷ []) (IsExpressionIn room (a_terminal T.Open ∷ says rest)) room
      (record { meaning = M.Terminal T.Open; span = span } ∷ rest) (brackets_at end room span rest)
  unfolding brackets_at
  brackets_read zero span rest = refuse_deep _ _ _ span rest _ refl (λ st o. full_at (opened st) o)
  brackets_read (suc room) span rest =
      enter _ _ (suc room) room _ span rest _ _ refl (λ st o. (free_at (opened st) room o, omega arith))
      (pair_reads room _ (λ is. by_next s_expression (λ js. IsExpressionIn room (says js)) room
      (λ m s r. expression_by end m s r (brackets_at end room s r))
      (expression_front room (brackets_at end room) (brackets_read room)) is) rest)

  pub expression_reads : (room : ℕ) (is : List ValuedToken)
      → Reads (s_expression ∷ []) (IsExpressionIn room (says is)) room is (expression_at end room is)
  unfolding expression_at
  expression_reads room is = by_next s_expression (λ js. IsExpressionIn room (says js)) room
      (λ m s r. expression_by end m s r (brackets_at end room s r))
      (expression_front room (brackets_at end room) (brackets_read room)) is

  pub last_reads : (room : ℕ) (is : List ValuedToken)
      → Reads (s_expression ∷ s_semicolon ∷ [])
      (λ e rest. (says is ≡ (expression_tokens e ++ a_terminal T.Semicolon ∷ []) ++ rest) ×
      (expression_nesting e ≤ room)) room is (last_at end room is)
  unfolding last_at
  last_reads room is =
      reads_bind (s_expression ∷ []) (s_semicolon ∷ []) _ _ room is _ _ (λ st. refl) (expression_reads room is) (λ e de.
      reads_map (s_semicolon ∷ []) _ _ room e.1 _ _ (terminal_reads s_semicolon T.Semicolon semicolon_one room e.1)
      (λ s rest ds. (
        de.0 ∙ ap (λ z. expression_tokens e.0 ++ z) ds
            ∙ sym (append_assoc (expression_tokens e.0) (a_terminal T.Semicolon ∷ []) rest),
        de.1,
      )))
