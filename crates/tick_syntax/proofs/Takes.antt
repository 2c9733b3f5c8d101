-- What the grammar has the reader takes from the front: tokens and expressions.
--
-- The idea. `Sound` says that whatever the reader gives is right; from here on it is shown that it does give it. The
-- tokens of a program are one list (`program_tokens`), put together of the lists of its parts. So where tokens say
-- such a list, their front says the list of the first part; the reader takes just that part from the front, and
-- hands on what is left.
--
-- `Takes m v rest` is that as a statement: the reading `m` gives the value `v`, and what is left says `rest`. Each
-- part of the grammar has a lemma of one form: where the tokens say the part's list with `rest` after it, and no
-- more brackets stand within one another in it than there is room for, the reading of that part takes it.
--
-- The induction is on the tree, and follows the grammar. A rule has two lemmas. The one named `.._gives` opens the
-- reader's function and computes it, once each of its parts is known to have read: a chain of results that are all
-- `Ok`. The one named `.._takes` finds these results: a terminal, a name or a number, with which the list begins,
-- by `terminal_in`, `name_in`, `number_in`; a part by its own lemma, one level down. Lemmas as `append_assoc` turn
-- `(a ++ b) ++ rest`, as the rule has it, into `a ++ (b ++ rest)`, as the reader meets it. `Statements` goes on
-- with statements and blocks, `Complete` with whole programs.
use Rattle.std.proofs.Common.{append_assoc, ◌≡◌, ℕ, zero, suc, ◌≤◌, List, [], ◌∷◌, ◌++◌, Ok, Bor, refl, sym, ◌∙◌, ap, arith}
use Rattle.base.specs.declared.span.Span.{Span}
use Rattle.tick_syntax.specs.declared.valued_token.ValuedToken.{ValuedToken}
use Rattle.tick_syntax.specs.declared.valued_token.Meaning.{Meaning}
use Rattle.tick_syntax.specs.declared.valued_token.Meaning.TheVariants as M
use Rattle.base.specs.declared.operator.Op.{Op}
use Rattle.tick_syntax.specs.declared.terminals.Terminal.{Terminal}
use Rattle.tick_syntax.specs.declared.terminals.Terminal.TheVariants as T
use Rattle.tick_syntax.specs.Lexeme.{Lexeme, a_name, a_number, a_terminal}
use Rattle.base.specs.Plain.{Name, Expression, number, named, me, count, binary}
use Rattle.tick_syntax.specs.Grammar.{expression_tokens, expression_nesting}
use Rattle.tick_syntax.specs.prover.Reading.{Reading, next_at, terminal_by, terminal_at, number_at, brace_at, operator_at, name_at, pair_at, brackets_at, expression_at, last_at}
use Rattle.tick_syntax.proofs.Symbols.{said_by, said, says}
use Rattle.tick_syntax.proofs.Sound.{pair_regroups}

-- the first token and those after it
pub token_in : (is : List ValuedToken) (x : Lexeme) (t : List Lexeme) → says is ≡ x ∷ t
    → (i : ValuedToken) × (js : List ValuedToken) × (is ≡ i ∷ js) × (said i ≡ x) × (says js ≡ t)
token_in [] x t h = absurd (cc)
token_in (i ∷ js) x t h = (i, js, refl, cc, cc)

pub said_terminal : (m : Meaning) (span : Span) (w : Terminal) → said_by m span ≡ a_terminal w → m ≡ M.Terminal w
said_terminal (M.Name l) span w h = absurd (cc)
said_terminal (M.Number v) span w h = absurd (cc)
said_terminal (M.Terminal v) span w h = cc

pub said_number : (m : Meaning) (span : Span) (v : ℕ) → said_by m span ≡ a_number v → m ≡ M.Number v
said_number (M.Name l) span v h = absurd (cc)
said_number (M.Number u) span v h = cc
said_number (M.Terminal u) span v h = absurd (cc)

pub said_name : (m : Meaning) (span : Span) (x : Name) → said_by m span ≡ a_name x
    → (l : Bor (List ℕ)) × (m ≡ M.Name l) × (record { letters = l.now; span = span } ≡ x)
said_name (M.Name l) span x h = (l, refl, cc)
said_name (M.Number u) span x h = absurd (cc)
said_name (M.Terminal u) span x h = absurd (cc)

abbrev pub token : Meaning → Span → ValuedToken
token m span = record { meaning = m; span = span }

pub terminal_in : (w : Terminal) (is : List ValuedToken) (t : List Lexeme) → says is ≡ a_terminal w ∷ t
    → (span : Span) × (js : List ValuedToken) × (says js ≡ t) × (is ≡ token (M.Terminal w) span ∷ js)
terminal_in w is t h =
    let r = token_in is (a_terminal w) t h in
    (r.0.span, r.1, r.4, r.2 ∙ ap (λ z. token z r.0.span ∷ r.1) (said_terminal r.0.meaning r.0.span w r.3))

pub number_in : (v : ℕ) (is : List ValuedToken) (t : List Lexeme) → says is ≡ a_number v ∷ t
    → (span : Span) × (js : List ValuedToken) × (says js ≡ t) × (is ≡ token (M.Number v) span ∷ js)
number_in v is t h =
    let r = token_in is (a_number v) t h in
    (r.0.span, r.1, r.4, r.2 ∙ ap (λ z. token z r.0.span ∷ r.1) (said_number r.0.meaning r.0.span v r.3))

pub name_in : (x : Name) (is : List ValuedToken) (t : List Lexeme) → says is ≡ a_name x ∷ t
    → (l : Bor (List ℕ)) × (span : Span) × (js : List ValuedToken) × (says js ≡ t) ×
    (record { letters = l.now; span = span } ≡ x)
    × (is ≡ token (M.Name l) span ∷ js)
name_in x is t h =
    let r = token_in is (a_name x) t h in
    let n = said_name r.0.meaning r.0.span x r.3 in
    (n.0, r.0.span, r.1, r.4, n.2, r.2 ∙ ap (λ z. token z r.0.span ∷ r.1) n.1)

module _ (end : ℕ) where
  -- the reading takes the value from the front, and leaves the rest
  abbrev pub Takes : {V : Type 0} → Reading V → V → List Lexeme → Type 0
  Takes m v rest = (r : List ValuedToken) × (says r ≡ rest) × (m ≡ Ok (v, r))

  -- a terminal that a rule has alone
  abbrev pub IsAlone : Terminal → Type 0
  IsAlone w = (span : Span) (rest : List ValuedToken) → terminal_by w (M.Terminal w) span rest ≡ Ok (tt, rest)

  pub terminal_gives : (w : Terminal) → IsAlone w → (span : Span) (js : List ValuedToken)
      → terminal_at end w (token (M.Terminal w) span ∷ js) ≡ Ok (tt, js)
  unfolding terminal_at next_at
  terminal_gives w alone span js = alone span js

  pub terminal_takes : (w : Terminal) → IsAlone w → (is : List ValuedToken) (rest : List Lexeme)
      → says is ≡ a_terminal w ∷ rest → Takes (terminal_at end w is) tt rest
  terminal_takes w alone is rest h =
      let r = terminal_in w is rest h in (r.1, r.2, ap (terminal_at end w) r.3 ∙ terminal_gives w alone r.0 r.1)

  pub brace_takes : (room : ℕ) (is : List ValuedToken) (rest : List Lexeme) → says is ≡ a_terminal T.OpenBrace ∷ rest
      → Takes (brace_at end (suc room) is) tt rest
  unfolding brace_at next_at
  brace_takes room is rest h = let r = terminal_in T.OpenBrace is rest h in (r.1, r.2, ap (brace_at end (suc room)) r.3)

  pub operator_takes : (op : Op) (is : List ValuedToken) (rest : List Lexeme) → says is ≡ a_terminal (T.Operator op) ∷ rest
      → Takes (operator_at end is) op rest
  unfolding operator_at next_at
  operator_takes op is rest h = let r = terminal_in (T.Operator op) is rest h in (r.1, r.2, ap (operator_at end) r.3)

  pub name_takes : (x : Name) (is : List ValuedToken) (rest : List Lexeme) → says is ≡ a_name x ∷ rest
      → Takes (name_at end is) x rest
  unfolding name_at next_at
  name_takes x is rest h = let r = name_in x is rest h in (r.2, r.3, ap (name_at end) r.5 ∙ ap (λ z. Ok (z, r.2)) r.4)

  pub number_gives : (v : ℕ) (span : Span) (js : List ValuedToken) → number_at end (token (M.Number v) span ∷ js) ≡ Ok
      ((v, span), js)
  unfolding number_at next_at
  number_gives v span js = refl

  pair_gives : (read : List ValuedToken → Reading (Expression Name)) (is p q r s : List ValuedToken)
      (a b : Expression Name) (op : Op)
      → read is ≡ Ok (a, p) → operator_at end p ≡ Ok (op, q) → read q ≡ Ok (b, r)
      → terminal_at end T.Close r ≡ Ok (tt, s)
      → pair_at end read is ≡ Ok (binary a op b, s)
  unfolding pair_at
  pair_gives read is p q r s a b op h k l m = rw (h, k, l, m) refl

  open_gives : (room : ℕ) (span : Span) (js : List ValuedToken)
      → expression_at end (suc room) (token (M.Terminal T.Open) span ∷ js) ≡ pair_at end (expression_at end room) js
  unfolding expression_at brackets_at next_at
  open_gives room span js = refl

  open_takes : (room : ℕ) (span : Span) (is js p q r rest : List ValuedToken) (a b : Expression Name) (op : Op)
      → is ≡ token (M.Terminal T.Open) span ∷ js → expression_at end room js ≡ Ok (a, p)
      → operator_at end p ≡ Ok (op, q)
      → expression_at end room q ≡ Ok (b, r) → terminal_at end T.Close r ≡ Ok (tt, rest)
      → expression_at end (suc room) is ≡ Ok (binary a op b, rest)
  open_takes room span is js p q r rest a b op first h k l m =
      ap (expression_at end (suc room)) first ∙ open_gives room span js
      ∙ pair_gives (expression_at end room) js p q r rest a b op h k l m

  pub expression_takes : (room : ℕ) (e : Expression Name) (is : List ValuedToken) (rest : List Lexeme)
      → says is ≡ expression_tokens e ++ rest → expression_nesting e ≤ room → Takes (expression_at end room is) e rest
  unfolding expression_at next_at
  expression_takes room (number v) is rest d n = let r =
      number_in v is rest d in (r.1, r.2, ap (expression_at end room) r.3)
  expression_takes room (named x) is rest d n =
      let r = name_in x is rest d in (r.2, r.3, ap (expression_at end room) r.5 ∙ ap (λ z. Ok (named z, r.2)) r.4)
  expression_takes room me is rest d n = let r =
      terminal_in T.Me is rest d in (r.1, r.2, ap (expression_at end room) r.3)
  expression_takes room count is rest d n = let r =
      terminal_in T.Count is rest d in (r.1, r.2, ap (expression_at end room) r.3)
  expression_takes zero (binary a op b) is rest d n = absurd (omega arith)
  expression_takes (suc room) (binary a op b) is rest d n =
      let o = terminal_in T.Open is _ d in
      let p = expression_takes room a o.1
      (a_terminal (T.Operator op) ∷ (expression_tokens b ++ a_terminal T.Close ∷ rest))
      (o.2 ∙ sym (pair_regroups (expression_tokens a) (a_terminal (T.Operator op)) (expression_tokens b)
      (a_terminal T.Close) rest)) (omega arith) in
      let q = operator_takes op p.0 _ p.1 in
      let r = expression_takes room b q.0 (a_terminal T.Close ∷ rest) q.1 (omega arith) in
      let s = terminal_takes T.Close (λ span js. refl) r.0 rest r.1 in
      (s.0, s.1, open_takes room o.0 is o.1 p.0 q.0 r.0 s.0 a b op o.3 p.2 q.2 r.2 s.2)

  last_gives : (room : ℕ) (is p q : List ValuedToken) (e : Expression Name)
      → expression_at end room is ≡ Ok (e, p) → terminal_at end T.Semicolon p ≡ Ok (tt, q)
      → last_at end room is ≡ Ok (e, q)
  unfolding last_at
  last_gives room is p q e h k = rw (h, k) refl

  pub last_takes : (room : ℕ) (e : Expression Name) (is : List ValuedToken) (rest : List Lexeme)
      → says is ≡ (expression_tokens e ++ a_terminal T.Semicolon ∷ []) ++ rest → expression_nesting e ≤ room
      → Takes (last_at end room is) e rest
  last_takes room e is rest d n =
      let p = expression_takes room e is (a_terminal T.Semicolon ∷ rest)
      (d ∙ append_assoc (expression_tokens e) (a_terminal T.Semicolon ∷ []) rest) n in
      let q = terminal_takes T.Semicolon (λ span js. refl) p.0 rest p.1 in
      (q.0, q.1, last_gives room is p.0 q.0 e p.2 q.2)

  -- The terminal that comes first says what is read next.
  pub by_terminal : {V : Type 0} (f next : List ValuedToken → Reading V) (w : Terminal)
      → ((span : Span) (js : List ValuedToken) → f (token (M.Terminal w) span ∷ js) ≡ next js)
      → (is : List ValuedToken) (t rest : List Lexeme) (v : V) → says is ≡ a_terminal w ∷ t
      → ((js : List ValuedToken) → says js ≡ t → Takes (next js) v rest) → Takes (f is) v rest
  by_terminal f next w goes is t rest v h takes =
      let g = terminal_in w is t h in
      let p = takes g.1 g.2 in
      (p.0, p.1, ap f g.3 ∙ goes g.0 g.1 ∙ p.2)
