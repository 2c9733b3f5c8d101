-- The reader's loops: what was read so far stands before what the rest gives (`after_names`, `after_block`),
-- and both together are what reading gives from where the loop began. A turn keeps this (`names_on`,
-- `statements_more`), and each exit answers by it (`names_last`, `statements_last`; `names_fail` and the like
-- for refusals).
--
-- The idea. The definitions are recursive, and the code loops. `names_step` and `statements_step` open a
-- definition once; `after_more` and `after_statement` move what was read from the rest to the front. The
-- difficulty is that `statements_at` bounds its statements by the number of its own tokens, and after a
-- statement fewer are left. `enough` shows that any bound above the number of tokens gives the same, since
-- each statement takes a token. Read `statements_more` first.
use Rattle.std.proofs.Common.{◌≡◌, ℕ, zero, suc, ◌<◌, Bool, true, false, List, [], ◌∷◌, ◌++◌, length, Ok, Err, refl, sym, ◌∙◌, ap, subst, append_assoc, arith}
use Rattle.base.specs.declared.span.Span.{Span}
use Rattle.tick_syntax.specs.declared.fault.TextFault.{TextFault}
use Rattle.tick_syntax.specs.declared.fault.TextFault.TheVariants as F
use Rattle.tick_syntax.specs.declared.valued_token.ValuedToken.{ValuedToken}
use Rattle.tick_syntax.specs.declared.valued_token.Ending.{Ending}
use Rattle.tick_syntax.specs.declared.valued_token.Meaning.{Meaning}
use Rattle.tick_syntax.specs.declared.valued_token.Meaning.TheVariants as M
use Rattle.tick_syntax.specs.declared.terminals.Terminal.{Terminal}
use Rattle.tick_syntax.specs.declared.terminals.Terminal.TheVariants as T
use Rattle.base.specs.declared.tree.Stmt.{Stmt}
use Rattle.base.specs.Plain.{Name, Statement, Block, nil, cons, onto, statement_of, block_of}
use Rattle.tick_syntax.specs.prover.Reading.{Reading, Fails, is_memory, next_at, name_at, name_by, names_at, names_by, block_by, ends, statements_with, statements_at, statement_at, terminal_at}
use Rattle.base.specs.Refusing.{◌>>=◌}
use Rattle.base.proofs.Offered.{fails_on, fails_with}
use Rattle.tick_syntax.proofs.Sound.{name_reads}
use Rattle.tick_syntax.proofs.Statements.{statement_reads}

abbrev pub after_names : List Name → Reading (List Name) → Reading (List Name)
after_names front r = r >>= λ x. Ok (front ++ x.0, x.1)

abbrev pub after_block : Block Name → Reading (Block Name) → Reading (Block Name)
after_block front r = r >>= λ x. Ok (onto front x.0, x.1)

module _ (end : ℕ) where
  -- no terminal is in no tokens
  pub terminal_none : (terminal : Terminal) (is : List ValuedToken) → is ≡ [] → terminal_at end terminal is ≡ Err (F.Unexpected (record { start = end; end = end }))
  unfolding terminal_at next_at
  terminal_none terminal [] h = refl
  terminal_none terminal (i ∷ is) h = absurd (cc)

  names_front : (m : Meaning) (span : Span) (rest : List ValuedToken)
      → names_at end (record { meaning = m; span = span } ∷ rest)
      ≡ (name_by m span rest >>= λ x. next_at end x.1 >>= λ y. names_by end y.0.meaning y.0.span y.1 x.0 (names_at end y.1))
  unfolding names_at next_at
  names_front (M.Name letters) span [] = refl
  names_front (M.Name letters) span (j ∷ js) = refl
  names_front (M.Number v) span [] = refl
  names_front (M.Number v) span (j ∷ js) = refl
  names_front (M.Terminal w) span [] = refl
  names_front (M.Terminal w) span (j ∷ js) = refl

  pub names_step : (is : List ValuedToken)
      → names_at end is
      ≡ (name_at end is >>= λ x. next_at end x.1 >>= λ y. names_by end y.0.meaning y.0.span y.1 x.0 (names_at end y.1))
  unfolding names_at name_at next_at
  names_step [] = refl
  names_step (i ∷ is) = names_front i.meaning i.span is

  -- one name was read
  pub names_one : (is r : List ValuedToken) (n : Name) → name_at end is ≡ Ok (n, r)
      → names_at end is ≡ (next_at end r >>= λ y. names_by end y.0.meaning y.0.span y.1 n (names_at end y.1))
  names_one is r n h = names_step is
      ∙ ap (λ z. z >>= λ x. next_at end x.1 >>= λ y. names_by end y.0.meaning y.0.span y.1 x.0 (names_at end y.1)) h

  -- and what stands after it
  pub names_two : (is r : List ValuedToken) (n : Name) (y : ValuedToken × List ValuedToken) → name_at end is ≡ Ok (n, r) → next_at end r ≡ Ok y
      → names_at end is ≡ names_by end y.0.meaning y.0.span y.1 n (names_at end y.1)
  names_two is r n y h k = names_one is r n h ∙ ap (λ z. z >>= λ y. names_by end y.0.meaning y.0.span y.1 n (names_at end y.1)) k

  pub after_more : (front : List Name) (n : Name) (r : Reading (List Name))
      → after_names front (r >>= λ x. Ok (n ∷ x.0, x.1)) ≡ after_names (front ++ n ∷ []) r
  after_more front n (Ok x) = ap (λ z. Ok (z, x.1)) (sym (append_assoc front (n ∷ []) x.0))
  after_more front n (Err e) = refl

  onto_more : (a : Block Name) (s : Statement Name) (b : Block Name) → onto (onto a (cons s nil)) b ≡ onto a (cons s b)
  onto_more nil s b = refl
  onto_more (cons t a) s b = ap (cons t) (onto_more a s b)

  pub block_more : (ss : List Stmt) (s : Stmt) → block_of (ss ++ s ∷ []) ≡ onto (block_of ss) (cons (statement_of s) nil)
  block_more [] s = refl
  block_more (t ∷ ss) s = ap (cons (statement_of t)) (block_more ss s)

  pub onto_nil : (a : Block Name) → onto a nil ≡ a
  onto_nil nil = refl
  onto_nil (cons s a) = ap (cons s) (onto_nil a)

  after_statement : (front : Block Name) (s : Statement Name) (r : Reading (Block Name))
      → after_block front (r >>= λ x. Ok (cons s x.0, x.1)) ≡ after_block (onto front (cons s nil)) r
  after_statement front s (Ok x) = ap (λ z. Ok (z, x.1)) (sym (onto_more front s x.0))
  after_statement front s (Err e) = refl

  block_by_same : (b : Bool) (rest : List ValuedToken) (o : Reading (Statement Name)) (f g : List ValuedToken → Reading (Block Name))
      → ((x : Statement Name × List ValuedToken) → o ≡ Ok x → f x.1 ≡ g x.1)
      → block_by end b rest o f ≡ block_by end b rest o g
  block_by_same true rest o f g h = refl
  block_by_same false rest (Ok x) f g h = ap (λ z. z >>= λ b. Ok (cons x.0 b.0, b.1)) (h x refl)
  block_by_same false rest (Err e) f g h = refl

  -- as many steps as there are tokens are enough
  enough : (one : List ValuedToken → Reading (Statement Name))
      → ((is : List ValuedToken) (x : Statement Name × List ValuedToken) → one is ≡ Ok x → length x.1 < length is)
      → (ending : Ending) (a b : ℕ) (is : List ValuedToken) → length is < a → length is < b
      → statements_with end one ending a is ≡ statements_with end one ending b is
  unfolding statements_with next_at
  enough one less ending zero b is l k = absurd (omega arith)
  enough one less ending (suc a) zero is l k = absurd (omega arith)
  enough one less ending (suc a) (suc b) [] l k = refl
  enough one less ending (suc a) (suc b) (i ∷ is) l k =
      block_by_same (ends ending i.meaning) is (one (i ∷ is)) _ _ (λ x h.
      let j : length x.1 < suc (length is) = less (i ∷ is) x h in
      enough one less ending a b x.1 (omega arith) (omega arith))

  statements_step : (room : ℕ) (ending : Ending) (is : List ValuedToken) (y : ValuedToken × List ValuedToken) → next_at end is ≡ Ok y
      → statements_at end room ending is
      ≡ block_by end (ends ending y.0.meaning) y.1 (statement_at end room is) (statements_with end (statement_at end room) ending (length is))
  unfolding statements_at statements_with
  statements_step room ending is y h =
      ap (λ z. z >>= λ x. block_by end (ends ending x.0.meaning) x.1 (statement_at end room is) (statements_with end (statement_at end room) ending (length is))) h

  -- the terminal that ends the list
  pub statements_end : (room : ℕ) (ending : Ending) (is : List ValuedToken) (y : ValuedToken × List ValuedToken) → next_at end is ≡ Ok y
      → ends ending y.0.meaning ≡ true → statements_at end room ending is ≡ Ok (nil, y.1)
  statements_end room ending is y h t = statements_step room ending is y h
      ∙ ap (λ z. block_by end z y.1 (statement_at end room is) (statements_with end (statement_at end room) ending (length is))) t

  -- a statement that stops the list
  pub statements_stop : (room : ℕ) (ending : Ending) (is : List ValuedToken) (y : ValuedToken × List ValuedToken) (e : TextFault) → next_at end is ≡ Ok y
      → ends ending y.0.meaning ≡ false → Fails e (statement_at end room is) → Fails e (statements_at end room ending is)
  statements_stop room ending is y e h f k =
      subst (Fails e) (sym (statements_step room ending is y h
      ∙ ap (λ z. block_by end z y.1 (statement_at end room is) (statements_with end (statement_at end room) ending (length is))) f))
      (fails_on is_memory e (statement_at end room is) _ k)

  -- one statement more
  pub statements_more : (room : ℕ) (ending : Ending) (is r : List ValuedToken) (y : ValuedToken × List ValuedToken) (s : Statement Name) (front : Block Name)
      → next_at end is ≡ Ok y → ends ending y.0.meaning ≡ false → statement_at end room is ≡ Ok (s, r)
      → after_block front (statements_at end room ending is) ≡ after_block (onto front (cons s nil)) (statements_at end room ending r)
  unfolding statements_at
  statements_more room ending is r y s front h f k =
      let l : length r < length is = (statement_reads end 0 room is).shorter (s, r) k in
      let same : statements_with end (statement_at end room) ending (length is) r
      ≡ statements_with end (statement_at end room) ending (suc (length r)) r =
      enough (statement_at end room) (λ js x e. (statement_reads end 0 room js).shorter x e) ending _ _ r (omega arith) (omega arith) in
      ap (after_block front) (statements_step room ending is y h
      ∙ ap (λ z. block_by end z y.1 (statement_at end room is) (statements_with end (statement_at end room) ending (length is))) f
      ∙ ap (λ z. block_by end false y.1 z (statements_with end (statement_at end room) ending (length is))) k
      ∙ ap (λ z. z >>= λ b. Ok (cons s b.0, b.1)) same)
      ∙ after_statement front s (statements_with end (statement_at end room) ending (suc (length r)) r)

  -- The loops' exits: whole is what the reading gives from where the loop began.

  pub names_fail : (front : List Name) (is : List ValuedToken) (whole : Reading (List Name)) (e : TextFault)
      → after_names front (names_at end is) ≡ whole → Fails e (name_at end is) → Fails e whole
  names_fail front is whole e inv h =
      subst (Fails e) inv (fails_on is_memory e (names_at end is) _ (subst (Fails e) (sym (names_step is)) (fails_on is_memory e (name_at end is) _ h)))

  pub names_fail_next : (front : List Name) (is r : List ValuedToken) (n : Name) (whole : Reading (List Name)) (e : TextFault)
      → after_names front (names_at end is) ≡ whole → name_at end is ≡ Ok (n, r) → next_at end r ≡ Err e → Fails e whole
  names_fail_next front is r n whole e inv h k =
      subst (Fails e) inv (fails_on is_memory e (names_at end is) _ (subst (Fails e) (sym (names_one is r n h)) (fails_on is_memory e (next_at end r) _ (fails_with is_memory e (next_at end r) k))))

  pub names_last : (front : List Name) (is r : List ValuedToken) (n : Name) (whole : Reading (List Name)) (y : ValuedToken × List ValuedToken)
      → after_names front (names_at end is) ≡ whole → name_at end is ≡ Ok (n, r) → next_at end r ≡ Ok y
      → y.0.meaning ≡ M.Terminal T.Semicolon → whole ≡ Ok (front ++ n ∷ [], y.1)
  names_last front is r n whole y inv h k s =
      sym inv ∙ ap (after_names front) (names_two is r n y h k ∙ ap (λ z. names_by end z y.0.span y.1 n (names_at end y.1)) s)

  pub names_wrong : (front : List Name) (is r : List ValuedToken) (n : Name) (whole : Reading (List Name)) (y : ValuedToken × List ValuedToken)
      → after_names front (names_at end is) ≡ whole → name_at end is ≡ Ok (n, r) → next_at end r ≡ Ok y
      → names_by end y.0.meaning y.0.span y.1 n (names_at end y.1) ≡ Err (F.Unexpected y.0.span) → whole ≡ Err (F.Unexpected y.0.span)
  names_wrong front is r n whole y inv h k s = sym inv ∙ ap (after_names front) (names_two is r n y h k ∙ s)

  pub names_on : (front : List Name) (is r : List ValuedToken) (n : Name) (whole : Reading (List Name)) (y : ValuedToken × List ValuedToken)
      → after_names front (names_at end is) ≡ whole → name_at end is ≡ Ok (n, r) → next_at end r ≡ Ok y
      → y.0.meaning ≡ M.Terminal T.Comma → after_names (front ++ n ∷ []) (names_at end y.1) ≡ whole
  names_on front is r n whole y inv h k s =
      sym (after_more front n (names_at end y.1))
      ∙ sym (ap (after_names front) (names_two is r n y h k ∙ ap (λ z. names_by end z y.0.span y.1 n (names_at end y.1)) s)) ∙ inv

  -- a token is one less
  pub next_shorter : (is : List ValuedToken) (y : ValuedToken × List ValuedToken) → next_at end is ≡ Ok y → length y.1 < length is
  unfolding next_at
  next_shorter [] y h = absurd (cc)
  next_shorter (i ∷ is) y h = let e : is ≡ y.1 = cc in let l : length is < suc (length is) = omega arith in subst (λ z. length z < suc (length is)) e l

  pub name_shorter : (is : List ValuedToken) (x : Name × List ValuedToken) → name_at end is ≡ Ok x → length x.1 < length is
  name_shorter is x h = (name_reads end 0 0 is).shorter x h

  pub statements_none : (room : ℕ) (ending : Ending) (front : Block Name) (is : List ValuedToken) (whole : Reading (Block Name)) (e : TextFault)
      → after_block front (statements_at end room ending is) ≡ whole → next_at end is ≡ Err e → Fails e whole
  unfolding statements_at statements_with
  statements_none room ending front is whole e inv h =
      subst (Fails e) inv (fails_on is_memory e (statements_at end room ending is) _ (fails_on is_memory e (next_at end is) _ (fails_with is_memory e (next_at end is) h)))

  pub statements_fail : (room : ℕ) (ending : Ending) (front : Block Name) (is : List ValuedToken) (y : ValuedToken × List ValuedToken) (whole : Reading (Block Name)) (e : TextFault)
      → after_block front (statements_at end room ending is) ≡ whole → next_at end is ≡ Ok y
      → ends ending y.0.meaning ≡ false → Fails e (statement_at end room is) → Fails e whole
  statements_fail room ending front is y whole e inv h f k =
      subst (Fails e) inv (fails_on is_memory e (statements_at end room ending is) _ (statements_stop room ending is y e h f k))

  pub statements_last : (room : ℕ) (ending : Ending) (front : Block Name) (is : List ValuedToken) (y : ValuedToken × List ValuedToken) (whole : Reading (Block Name))
      → after_block front (statements_at end room ending is) ≡ whole → next_at end is ≡ Ok y
      → ends ending y.0.meaning ≡ true → whole ≡ Ok (front, y.1)
  statements_last room ending front is y whole inv h t =
      sym inv ∙ ap (after_block front) (statements_end room ending is y h t) ∙ ap (λ z. Ok (z, y.1)) (onto_nil front)
