-- What holds of each statement, in one place: a new statement has its cases here, and in no other page of proofs.
--
-- Four things are said of statements, each by an induction on them:
--
--   - What stands in a statement's place closes the brackets that are open then (`statement_opens`, `right_opens`).
--   - Its tokens and its brackets don't turn on the spans of its names (`statement_plain`, `statement_as_deep`);
--     names that are changed twice are changed once by both (`statement_twice`).
--   - What the reader reads is what the grammar has (`statement_reads`).
--   - What the grammar has the reader reads (`statement_takes`).
--
-- What is read. As `Sound` does it for expressions, and by its lemmas: each reading does what its symbols do
-- (`Reads`), and what it found are the tokens of the statement before what is left, of no more brackets within one
-- another than there was room for. `IsStatementIn` says so of a statement, `IsBlockIn` of statements with the
-- terminal that ends them, `IsBraced` of a block in its braces.
--
-- There are two inductions, one inside the other. The outer one is on the room: inside braces there is room for
-- one bracket less (`block_reads`). A statement is read with whatever reads its blocks, so `with_reads` takes a
-- reader of blocks as an argument, with the proof that it reads them; `block_reads` hands in the one for less
-- room. The inner one is on how many statements may still be read (`list_reads`): each takes a token, so fewer
-- tokens are left than statements may come, and the case of none never comes.
--
-- Which statement it is the first token decides (`statement_front`), and so it is for a right-hand side
-- (`right_front`). A token with which nothing begins is refused by the symbol as by the reader, in one line for
-- all such tokens. A right-hand side that begins with no keyword of its own is an expression and a `;`: the symbol
-- `s_right` then takes what these two take (`stand_in`).
--
-- What is taken. As `Takes` does it for expressions. The induction is on the tree. The lemma named `.._gives` opens
-- the reader's function and computes it, the one named `.._takes` finds the results of its parts. Two things can't
-- be read off the tree:
--
--   - The reader of statements takes at most so many, `most`, since it has to end. Each statement takes a token
--     (`statement_shorter`), so what is left always has fewer tokens than statements may still come.
--   - A list of statements ends at its terminal, and no statement begins with that (`not_ended`).
--
-- It goes through because the first token of what is left decides which rule it is: `statement_terminal` and
-- `right_terminal` say so, and hold by computation.
use Rattle.std.proofs.Common.{append_assoc, ◌≡◌, ℕ, zero, suc, ◌<◌, ◌≤◌, false, max, List, [], ◌∷◌, ◌++◌, length, Option, Some, None, Ok, refl, sym, ◌∙◌, ap, subst, arith}
use Rattle.std.proofs.lemmas.List.{map-append}
use Rattle.base.specs.declared.span.Span.{Span}
use Rattle.tick_syntax.specs.declared.valued_token.ValuedToken.{ValuedToken}
use Rattle.tick_syntax.specs.declared.valued_token.Ending.{Ending}
use Rattle.tick_syntax.specs.declared.valued_token.Ending.TheVariants as N
use Rattle.tick_syntax.specs.declared.valued_token.Meaning.{Meaning}
use Rattle.tick_syntax.specs.declared.valued_token.Meaning.TheVariants as M
use Rattle.tick_syntax.specs.declared.terminals.Terminal.{Terminal}
use Rattle.tick_syntax.specs.declared.terminals.Terminal.TheVariants as T
use Rattle.tick_syntax.specs.Lexeme.{Lexeme, a_name, a_number, a_terminal}
use Rattle.base.specs.Plain.{nowhere, Name, Expression, number, named, me, count, binary, map_expression, Statement, assign, get, put, stamp, clear, scan, copy, older, held, out, branch, repeat, map_statement, Block, nil, cons, map_block}
use Rattle.tick_syntax.specs.Grammar.{expression_tokens, in_braces, statement_tokens, block_tokens, expression_nesting, statement_nesting, block_nesting}
use Rattle.tick_syntax.specs.Nesting.{open_by}
use Rattle.base.specs.Refusing.{◌>>=◌}
use Rattle.tick_syntax.specs.prover.Reading.{Reading, next_at, brace_at, brace_by, name_at, expression_at, last_at, terminal_at, ended_at, named_last_at, copy_at, older_at, plain_at, right_by, right_at, assignment_at, out_at, branch_at, repeat_at, statement_by, statement_with, block_by, ends, statements_with, block_at, statement_at, statements_at}
use Rattle.tick_syntax.proofs.Symbols.{said_by, says, Symbol, s_semicolon, s_name, s_becomes, s_else, s_expression, s_right, s_block, s_statement, s_until, after, expression_step, right_step, statement_step, opened}
use Rattle.tick_syntax.proofs.Spanless.{letters_of, spanless_all}
use Rattle.tick_syntax.proofs.Sound.{Reads, reads_bind, reads_bind_shorter, reads_map, refuse, refuse_deep, accept, enter, by_next, by_next_whole, by_next_then, stand_in, weaken, nothing_left, semicolon_one, becomes_one, else_one, terminal_reads, name_reads, expression_reads, last_reads, full_at, free_at}
use Rattle.tick_syntax.proofs.Takes.{token, terminal_in, number_in, name_in, Takes, brace_takes, terminal_takes, name_takes, expression_takes, last_takes, by_terminal}

-- what a symbol turns into closes the brackets that are open then
abbrev pub Opens : Symbol → Lexeme → Option (List Symbol) → Type 0
Opens s x None = Unit {0}
Opens s x (Some new) = (st : List Symbol) → opened (new ++ st) ≡ open_by x (opened (s ∷ st))

pub expression_opens : (x : Lexeme) → Opens s_expression x (expression_step x)
expression_opens (a_number v) = λ st. refl
expression_opens (a_name n) = λ st. refl
expression_opens (a_terminal T.Me) = λ st. refl
expression_opens (a_terminal T.Count) = λ st. refl
expression_opens (a_terminal T.Open) = λ st. refl
expression_opens x = tt

pub statement_opens : (x : Lexeme) → Opens s_statement x (statement_step x)
statement_opens (a_name n) = λ st. refl
statement_opens (a_terminal T.Put) = λ st. refl
statement_opens (a_terminal T.Stamp) = λ st. refl
statement_opens (a_terminal T.Clear) = λ st. refl
statement_opens (a_terminal T.Out) = λ st. refl
statement_opens (a_terminal T.If) = λ st. refl
statement_opens (a_terminal T.While) = λ st. refl
statement_opens x = tt

-- the same with a symbol after it, of one that closes nothing
pub opens_after : (s u : Symbol) (x : Lexeme) (o : Option (List Symbol))
    → ((st : List Symbol) → opened (s ∷ st) ≡ opened st)
    → Opens s x o → Opens u x (after o u)
opens_after s u x None closes h = tt
opens_after s u x (Some new) closes h = λ st. ap opened (append_assoc new (u ∷ []) st) ∙ h (u ∷ st)
    ∙ ap (open_by x) (closes (u ∷ st))

pub right_opens : (x : Lexeme) → Opens s_right x (right_step x)
right_opens (a_terminal T.Get) = λ st. refl
right_opens (a_terminal T.Scan) = λ st. refl
right_opens (a_terminal T.Copy) = λ st. refl
right_opens (a_terminal T.Older) = λ st. refl
right_opens (a_terminal T.Held) = λ st. refl
right_opens x = opens_after s_expression s_semicolon x (expression_step x) (λ st. refl) (expression_opens x)

-- how deep brackets stand, under a change of names
module _ {A B : Type 0} (f : A → B) where
  pub expression_as_deep : (e : Expression A) → expression_nesting (map_expression f e) ≡ expression_nesting e
  expression_as_deep (number v) = refl
  expression_as_deep (named x) = refl
  expression_as_deep me = refl
  expression_as_deep count = refl
  expression_as_deep (binary a op b) =
      ap (λ n. suc (max n (expression_nesting (map_expression f b)))) (expression_as_deep a) ∙ ap (λ n. suc (max (expression_nesting a) n)) (expression_as_deep b)

  mutual
    pub statement_as_deep : (s : Statement A) → statement_nesting (map_statement f s) ≡ statement_nesting s
    statement_as_deep (assign x e) = expression_as_deep e
    statement_as_deep (get x r e) = expression_as_deep e
    statement_as_deep (put r e) = expression_as_deep e
    statement_as_deep stamp = refl
    statement_as_deep clear = refl
    statement_as_deep (scan s) = refl
    statement_as_deep (copy t s) = refl
    statement_as_deep (older x s a b) =
        ap (λ n. max n (expression_nesting (map_expression f b))) (expression_as_deep a) ∙ ap (max (expression_nesting a)) (expression_as_deep b)
    statement_as_deep (held x s e) = expression_as_deep e
    statement_as_deep (out e) = expression_as_deep e
    statement_as_deep (branch e a b) =
        ap (λ n. max n (suc (max (block_nesting (map_block f a)) (block_nesting (map_block f b))))) (expression_as_deep e)
        ∙ ap (λ n. max (expression_nesting e) (suc (max n (block_nesting (map_block f b))))) (block_as_deep a)
        ∙ ap (λ n. max (expression_nesting e) (suc (max (block_nesting a) n))) (block_as_deep b)
    statement_as_deep (repeat e a) =
        ap (λ n. max n (suc (block_nesting (map_block f a)))) (expression_as_deep e) ∙ ap (λ n. max (expression_nesting e) (suc n)) (block_as_deep a)

    pub block_as_deep : (b : Block A) → block_nesting (map_block f b) ≡ block_nesting b
    block_as_deep nil = refl
    block_as_deep (cons s b) =
        ap (λ n. max n (block_nesting (map_block f b))) (statement_as_deep s) ∙ ap (max (statement_nesting s)) (block_as_deep b)

-- a name at no place
abbrev pub name_at_none : List ℕ → Name
name_at_none letters = record { letters = letters; span = nowhere }

-- tokens spans aside are those of the tree whose names stand at no place
pub expression_plain : (e : Expression Name) → spanless_all (expression_tokens e) ≡ expression_tokens (map_expression name_at_none (map_expression letters_of e))
expression_plain (number v) = refl
expression_plain (named x) = refl
expression_plain me = refl
expression_plain count = refl
expression_plain (binary a op b) = simp (map-append, expression_plain a, expression_plain b)

mutual
  pub statement_plain : (s : Statement Name) → spanless_all (statement_tokens s) ≡ statement_tokens (map_statement name_at_none (map_statement letters_of s))
  statement_plain (assign x e) = simp (map-append, expression_plain e)
  statement_plain (get x r e) = simp (map-append, expression_plain e)
  statement_plain (put r e) = simp (map-append, expression_plain e)
  statement_plain stamp = refl
  statement_plain clear = refl
  statement_plain (scan s) = refl
  statement_plain (copy t s) = refl
  statement_plain (older x s a b) = simp (map-append, expression_plain a, expression_plain b)
  statement_plain (held x s e) = simp (map-append, expression_plain e)
  statement_plain (out e) = simp (map-append, expression_plain e)
  statement_plain (branch e a b) = simp (map-append, expression_plain e, block_plain a, block_plain b)
  statement_plain (repeat e a) = simp (map-append, expression_plain e, block_plain a)

  pub block_plain : (b : Block Name) → spanless_all (block_tokens b) ≡ block_tokens (map_block name_at_none (map_block letters_of b))
  block_plain nil = refl
  block_plain (cons s b) = simp (map-append, statement_plain s, block_plain b)

-- Names changed twice are changed once by both.
module _ {A B C : Type 0} (f : A → B) (g : B → C) where
  expression_twice : (e : Expression A) → map_expression g (map_expression f e) ≡ map_expression (λ x. g (f x)) e
  expression_twice (number v) = refl
  expression_twice (named x) = refl
  expression_twice me = refl
  expression_twice count = refl
  expression_twice (binary a op b) = rw (expression_twice a, expression_twice b) refl

  mutual
    statement_twice : (s : Statement A) → map_statement g (map_statement f s) ≡ map_statement (λ x. g (f x)) s
    statement_twice (assign x e) = rw (expression_twice e) refl
    statement_twice (get x r e) = rw (expression_twice e) refl
    statement_twice (put r e) = rw (expression_twice e) refl
    statement_twice stamp = refl
    statement_twice clear = refl
    statement_twice (scan s) = refl
    statement_twice (copy t s) = refl
    statement_twice (older x s a b) = rw (expression_twice a, expression_twice b) refl
    statement_twice (held x s e) = rw (expression_twice e) refl
    statement_twice (out e) = rw (expression_twice e) refl
    statement_twice (branch e a b) = rw (expression_twice e, block_twice a, block_twice b) refl
    statement_twice (repeat e a) = rw (expression_twice e, block_twice a) refl

    pub block_twice : (b : Block A) → map_block g (map_block f b) ≡ map_block (λ x. g (f x)) b
    block_twice nil = refl
    block_twice (cons s b) = rw (statement_twice s, block_twice b) refl

-- the terminal that ends a list of statements
abbrev pub last_terminal : Ending → Terminal
last_terminal N.Program = T.End
last_terminal N.Braces = T.CloseBrace

pub branch_regroups : (a b : List Lexeme) (x : Lexeme) (c rest : List Lexeme) → a ++ (b ++ x ∷ (c ++ rest)) ≡ (a ++ (b ++ x ∷ c)) ++ rest
branch_regroups a b x c rest = simp append_assoc

module _ (end limit : ℕ) where
  abbrev pub IsStatementIn : ℕ → List Lexeme → Statement Name → List Lexeme → Type 0
  IsStatementIn room ts s rest = (ts ≡ statement_tokens s ++ rest) × (statement_nesting s ≤ room)

  abbrev pub IsBlockIn : ℕ → Terminal → List Lexeme → Block Name → List Lexeme → Type 0
  IsBlockIn room last ts b rest = (ts ≡ block_tokens b ++ a_terminal last ∷ rest) × (block_nesting b ≤ room)

  -- a block in its braces
  abbrev pub IsBraced : ℕ → List Lexeme → Block Name → List Lexeme → Type 0
  IsBraced room ts b rest = (ts ≡ in_braces (block_tokens b) ++ rest) × (suc (block_nesting b) ≤ room)

  -- the `;` after what stands in front
  ended_reads : (front : List Lexeme) (s : Statement Name) → statement_tokens s ≡ front ++ a_terminal T.Semicolon ∷ [] → statement_nesting s ≡ 0
      → (room : ℕ) (is : List ValuedToken) → Reads end limit (s_semicolon ∷ []) (IsStatementIn room (front ++ says is)) room is (ended_at end s is)
  unfolding ended_at
  ended_reads front s tokens flat room is =
      reads_map end limit (s_semicolon ∷ []) _ _ room is _ _ (terminal_reads end limit s_semicolon T.Semicolon (semicolon_one end limit) room is) (λ e rest de. (
        ap (λ z. front ++ z) de ∙ sym (append_assoc front (a_terminal T.Semicolon ∷ []) rest) ∙ ap (λ z. z ++ rest) (sym tokens),
        omega (arith, flat),
      ))

  -- a name, an expression and the `;` after what stands in front
  named_last_reads : (front : List Lexeme) (make : Name → Expression Name → Statement Name)
      → ((x : Name) (e : Expression Name) → statement_tokens (make x e) ≡ front ++ a_name x ∷ (expression_tokens e ++ a_terminal T.Semicolon ∷ []))
      → ((x : Name) (e : Expression Name) → statement_nesting (make x e) ≡ expression_nesting e)
      → (room : ℕ) (is : List ValuedToken)
      → Reads end limit (s_name ∷ s_expression ∷ s_semicolon ∷ []) (IsStatementIn room (front ++ says is)) room is (named_last_at end make room is)
  unfolding named_last_at
  named_last_reads front make tokens deep room is =
      reads_bind end limit (s_name ∷ []) (s_expression ∷ s_semicolon ∷ []) _ _ room is _ _ (λ st. refl) (name_reads end limit room is) (λ x dx.
      reads_map end limit (s_expression ∷ s_semicolon ∷ []) _ _ room x.1 _ _ (last_reads end limit room x.1) (λ e rest de. (
        ap (λ z. front ++ z) (dx ∙ ap (λ z. a_name x.0 ∷ z) de.0)
            ∙ sym (append_assoc front (a_name x.0 ∷ (expression_tokens e ++ a_terminal T.Semicolon ∷ [])) rest) ∙ ap (λ z. z ++ rest) (sym (tokens x.0 e)),
        (let l : expression_nesting e ≤ room = de.1 in omega (arith, deep x.0 e)),
      )))

  copy_reads : (room : ℕ) (x : Name) (is : List ValuedToken)
      → Reads end limit (s_name ∷ s_semicolon ∷ [])
      (IsStatementIn room (a_name x ∷ a_terminal T.Becomes ∷ a_terminal T.Copy ∷ says is)) room is (copy_at end x is)
  unfolding copy_at
  copy_reads room x is =
      reads_bind end limit (s_name ∷ []) (s_semicolon ∷ []) _ _ room is _ _ (λ st. refl) (name_reads end limit room is) (λ n dn.
      reads_map end limit (s_semicolon ∷ []) _ _ room n.1 _ _ (terminal_reads end limit s_semicolon T.Semicolon (semicolon_one end limit) room n.1) (λ s rest ds.
      (ap (λ z. a_name x ∷ a_terminal T.Becomes ∷ a_terminal T.Copy ∷ z) (dn ∙ ap (λ z. a_name n.0 ∷ z) ds), omega arith)))

  older_reads : (room : ℕ) (x : Name) (is : List ValuedToken)
      → Reads end limit (s_name ∷ s_expression ∷ s_expression ∷ s_semicolon ∷ [])
      (IsStatementIn room (a_name x ∷ a_terminal T.Becomes ∷ a_terminal T.Older ∷ says is)) room is (older_at end room x is)
  unfolding older_at
  older_reads room x is =
      reads_bind end limit (s_name ∷ []) (s_expression ∷ s_expression ∷ s_semicolon ∷ []) _ _ room is _ _ (λ st. refl) (name_reads end limit room is) (λ s ds.
      reads_bind end limit (s_expression ∷ []) (s_expression ∷ s_semicolon ∷ []) _ _ room s.1 _ _ (λ st. refl) (expression_reads end limit room s.1) (λ a da.
      reads_map end limit (s_expression ∷ s_semicolon ∷ []) _ _ room a.1 _ _ (last_reads end limit room a.1) (λ b rest db. (
        ap (λ z. a_name x ∷ a_terminal T.Becomes ∷ a_terminal T.Older ∷ z) (ds ∙ ap (λ z. a_name s.0 ∷ z)
            (da.0 ∙ ap (λ z. expression_tokens a.0 ++ z) db.0 ∙ sym (append_assoc (expression_tokens a.0) (expression_tokens b ++ a_terminal T.Semicolon ∷ []) rest))),
        (let l : expression_nesting a.0 ≤ room = da.1 in let k : expression_nesting b ≤ room = db.1 in omega arith),
      ))))

  plain_reads : (room : ℕ) (x : Name) (is : List ValuedToken)
      → Reads end limit (s_expression ∷ s_semicolon ∷ [])
      (IsStatementIn room (a_name x ∷ a_terminal T.Becomes ∷ says is)) room is (plain_at end room x is)
  unfolding plain_at
  plain_reads room x is =
      reads_map end limit (s_expression ∷ s_semicolon ∷ []) _ _ room is _ _ (last_reads end limit room is) (λ e rest de.
      (ap (λ z. a_name x ∷ a_terminal T.Becomes ∷ z) de.0, de.1))

  right_front : (room : ℕ) (x : Name) (m : Meaning) (span : Span) (rest : List ValuedToken)
      → Reads end limit (s_right ∷ []) (IsStatementIn room (a_name x ∷ a_terminal T.Becomes ∷ said_by m span ∷ says rest)) room
      (record { meaning = m; span = span } ∷ rest) (right_by end m room x (record { meaning = m; span = span } ∷ rest) rest)
  right_front room x (M.Terminal T.Get) span rest =
      enter end limit _ _ room room _ span rest _ _ refl (λ st o. (refl, o)) (named_last_reads (a_name x ∷ a_terminal T.Becomes ∷ a_terminal T.Get ∷ []) (get x) (λ r e. refl) (λ r e. refl) room rest)
  right_front room x (M.Terminal T.Held) span rest =
      enter end limit _ _ room room _ span rest _ _ refl (λ st o. (refl, o)) (named_last_reads (a_name x ∷ a_terminal T.Becomes ∷ a_terminal T.Held ∷ []) (held x) (λ s e. refl) (λ s e. refl) room rest)
  right_front room x (M.Terminal T.Scan) span rest =
      enter end limit _ _ room room _ span rest _ _ refl (λ st o. (refl, o)) (ended_reads (a_name x ∷ a_terminal T.Becomes ∷ a_terminal T.Scan ∷ []) (scan x) refl refl room rest)
  right_front room x (M.Terminal T.Copy) span rest = enter end limit _ _ room room _ span rest _ _ refl (λ st o. (refl, o)) (copy_reads room x rest)
  right_front room x (M.Terminal T.Older) span rest = enter end limit _ _ room room _ span rest _ _ refl (λ st o. (refl, o)) (older_reads room x rest)
  right_front room x m span rest =
      stand_in end limit s_right (s_expression ∷ s_semicolon ∷ []) _ room (record { meaning = m; span = span } ∷ rest) _
      (λ st. refl) (λ st. refl) (plain_reads room x (record { meaning = m; span = span } ∷ rest))

  right_reads : (room : ℕ) (x : Name) (is : List ValuedToken)
      → Reads end limit (s_right ∷ []) (IsStatementIn room (a_name x ∷ a_terminal T.Becomes ∷ says is)) room is (right_at end room x is)
  unfolding right_at
  right_reads room x is = by_next_whole end limit s_right (λ js. IsStatementIn room (a_name x ∷ a_terminal T.Becomes ∷ says js)) room
      (λ whole m span rest. right_by end m room x whole rest) (right_front room x) is

  assignment_reads : (room : ℕ) (x : Name) (is : List ValuedToken)
      → Reads end limit (s_becomes ∷ s_right ∷ []) (IsStatementIn room (a_name x ∷ says is)) room is (assignment_at end room x is)
  unfolding assignment_at
  assignment_reads room x is =
      reads_bind end limit (s_becomes ∷ []) (s_right ∷ []) _ _ room is _ _ (λ st. refl) (terminal_reads end limit s_becomes T.Becomes (becomes_one end limit) room is) (λ b db.
      subst (λ z. Reads end limit (s_right ∷ []) (IsStatementIn room (a_name x ∷ z)) room b.1 (right_at end room x b.1)) (sym db)
      (right_reads room x b.1))

  out_reads : (room : ℕ) (is : List ValuedToken)
      → Reads end limit (s_expression ∷ s_semicolon ∷ []) (IsStatementIn room (a_terminal T.Out ∷ says is)) room is (out_at end room is)
  unfolding out_at
  out_reads room is =
      reads_map end limit (s_expression ∷ s_semicolon ∷ []) _ _ room is _ _ (last_reads end limit room is) (λ e rest de.
      (ap (λ z. a_terminal T.Out ∷ z) de.0, de.1))

  abbrev ReadsBlocks : ℕ → (List ValuedToken → Reading (Block Name)) → Type 0
  ReadsBlocks room block = (is : List ValuedToken) → Reads end limit (s_block ∷ []) (IsBraced room (says is)) room is (block is)

  branch_reads : (room : ℕ) (block : List ValuedToken → Reading (Block Name)) → ReadsBlocks room block → (is : List ValuedToken)
      → Reads end limit (s_expression ∷ s_block ∷ s_else ∷ s_block ∷ []) (IsStatementIn room (a_terminal T.If ∷ says is)) room is
      (branch_at end block room is)
  unfolding branch_at
  branch_reads room block reads is =
      reads_bind end limit (s_expression ∷ []) (s_block ∷ s_else ∷ s_block ∷ []) _ _ room is _ _ (λ st. refl) (expression_reads end limit room is) (λ e de.
      reads_bind end limit (s_block ∷ []) (s_else ∷ s_block ∷ []) _ _ room e.1 _ _ (λ st. refl) (reads e.1) (λ a da.
      reads_bind end limit (s_else ∷ []) (s_block ∷ []) _ _ room a.1 _ _ (λ st. refl) (terminal_reads end limit s_else T.Else (else_one end limit) room a.1) (λ o do_.
      reads_map end limit (s_block ∷ []) _ _ room o.1 _ _ (reads o.1) (λ b rest db. (
        ap (λ z. a_terminal T.If ∷ z) (de.0 ∙ ap (λ z. expression_tokens e.0 ++ z) (da.0 ∙ ap (λ z. in_braces (block_tokens a.0) ++ z)
            (do_ ∙ ap (λ z. a_terminal T.Else ∷ z) db.0))
            ∙ branch_regroups (expression_tokens e.0) (in_braces (block_tokens a.0)) (a_terminal T.Else) (in_braces (block_tokens b)) rest),
        (let l : expression_nesting e.0 ≤ room = de.1 in let k : suc (block_nesting a.0) ≤ room = da.1 in
            let j : suc (block_nesting b) ≤ room = db.1 in omega arith),
      )))))

  repeat_reads : (room : ℕ) (block : List ValuedToken → Reading (Block Name)) → ReadsBlocks room block → (is : List ValuedToken)
      → Reads end limit (s_expression ∷ s_block ∷ []) (IsStatementIn room (a_terminal T.While ∷ says is)) room is
      (repeat_at end block room is)
  unfolding repeat_at
  repeat_reads room block reads is =
      reads_bind end limit (s_expression ∷ []) (s_block ∷ []) _ _ room is _ _ (λ st. refl) (expression_reads end limit room is) (λ e de.
      reads_map end limit (s_block ∷ []) _ _ room e.1 _ _ (reads e.1) (λ a rest da. (
        ap (λ z. a_terminal T.While ∷ z) (de.0 ∙ ap (λ z. expression_tokens e.0 ++ z) da.0 ∙ sym (append_assoc (expression_tokens e.0) (in_braces (block_tokens a)) rest)),
        (let l : expression_nesting e.0 ≤ room = de.1 in let k : suc (block_nesting a) ≤ room = da.1 in omega arith),
      )))

  statement_front : (room : ℕ) (block : List ValuedToken → Reading (Block Name)) → ReadsBlocks room block
      → (m : Meaning) (span : Span) (rest : List ValuedToken)
      → Reads end limit (s_statement ∷ []) (IsStatementIn room (said_by m span ∷ says rest)) room
      (record { meaning = m; span = span } ∷ rest) (statement_by end m span block room rest)
  statement_front room block reads (M.Name letters) span rest =
      enter end limit _ _ room room _ span rest _ _ refl (λ st o. (refl, o)) (assignment_reads room _ rest)
  statement_front room block reads (M.Terminal T.Put) span rest =
      enter end limit _ _ room room _ span rest _ _ refl (λ st o. (refl, o)) (named_last_reads (a_terminal T.Put ∷ []) put (λ r e. refl) (λ r e. refl) room rest)
  statement_front room block reads (M.Terminal T.Stamp) span rest =
      enter end limit _ _ room room _ span rest _ _ refl (λ st o. (refl, o)) (ended_reads (a_terminal T.Stamp ∷ []) stamp refl refl room rest)
  statement_front room block reads (M.Terminal T.Clear) span rest =
      enter end limit _ _ room room _ span rest _ _ refl (λ st o. (refl, o)) (ended_reads (a_terminal T.Clear ∷ []) clear refl refl room rest)
  statement_front room block reads (M.Terminal T.Out) span rest = enter end limit _ _ room room _ span rest _ _ refl (λ st o. (refl, o)) (out_reads room rest)
  statement_front room block reads (M.Terminal T.If) span rest =
      enter end limit _ _ room room _ span rest _ _ refl (λ st o. (refl, o)) (branch_reads room block reads rest)
  statement_front room block reads (M.Terminal T.While) span rest =
      enter end limit _ _ room room _ span rest _ _ refl (λ st o. (refl, o)) (repeat_reads room block reads rest)
  statement_front room block reads m span rest = refuse end limit _ _ room m span rest refl

  with_reads : (room : ℕ) (block : List ValuedToken → Reading (Block Name)) → ReadsBlocks room block → (is : List ValuedToken)
      → Reads end limit (s_statement ∷ []) (IsStatementIn room (says is)) room is (statement_with end block room is)
  unfolding statement_with
  with_reads room block reads is = by_next end limit s_statement (λ js. IsStatementIn room (says js)) room
      (λ m span rest. statement_by end m span block room rest) (statement_front room block reads) is

  abbrev ReadsStatements : ℕ → (List ValuedToken → Reading (Statement Name)) → Type 0
  ReadsStatements room one = (is : List ValuedToken) → Reads end limit (s_statement ∷ []) (IsStatementIn room (says is)) room is (one is)

  statements_front : (room : ℕ) (one : List ValuedToken → Reading (Statement Name)) → ReadsStatements room one
      → (ending : Ending) (m : Meaning) (span : Span) (rest : List ValuedToken) (more : List ValuedToken → Reading (Block Name))
      → ((js : List ValuedToken) → length js < suc (length rest)
      → Reads end limit (s_until ending ∷ []) (IsBlockIn room (last_terminal ending) (says js)) room js (more js))
      → Reads end limit (s_until ending ∷ []) (IsBlockIn room (last_terminal ending) (said_by m span ∷ says rest)) room
      (record { meaning = m; span = span } ∷ rest)
      (block_by end (ends ending m) rest (one (record { meaning = m; span = span } ∷ rest)) more)
  statements_front room one reads N.Program (M.Terminal T.End) span rest more go =
      accept end limit _ _ room _ span rest nil refl (λ st. refl) (refl, omega arith)
  statements_front room one reads N.Braces (M.Terminal T.CloseBrace) span rest more go =
      accept end limit _ _ room _ span rest nil refl (λ st. refl) (refl, omega arith)
  statements_front room one reads ending m span rest more go =
      let is : List ValuedToken = record { meaning = m; span = span } ∷ rest in
      stand_in end limit (s_until ending) (s_statement ∷ s_until ending ∷ []) _ room is _ (λ st. refl) (λ st. refl)
      (reads_bind_shorter end limit (s_statement ∷ []) (s_until ending ∷ []) _ _ room is _ _ (λ st. refl) (reads is) (λ s ds l.
      reads_map end limit (s_until ending ∷ []) _ _ room s.1 _ _ (go s.1 l) (λ b tail db. (
        ds.0 ∙ ap (λ z. statement_tokens s.0 ++ z) db.0 ∙ sym (append_assoc (statement_tokens s.0) (block_tokens b) (a_terminal (last_terminal ending) ∷ tail)),
        (let j : statement_nesting s.0 ≤ room = ds.1 in let k : block_nesting b ≤ room = db.1 in omega arith),
      ))))

  list_reads : (room : ℕ) (one : List ValuedToken → Reading (Statement Name)) → ReadsStatements room one
      → (ending : Ending) (most : ℕ) (is : List ValuedToken) → length is < most
      → Reads end limit (s_until ending ∷ []) (IsBlockIn room (last_terminal ending) (says is)) room is (statements_with end one ending most is)
  unfolding statements_with next_at
  list_reads room one reads ending zero is l = absurd (omega arith)
  list_reads room one reads ending (suc most) [] l = nothing_left end limit (s_until ending) _ room
  list_reads room one reads ending (suc most) (i ∷ is) l =
      statements_front room one reads ending i.meaning i.span is (statements_with end one ending most)
      (λ js k. list_reads room one reads ending most js (omega arith))

  block_front : (room : ℕ) (f : List ValuedToken → Reading (Block Name))
      → ((js : List ValuedToken) → Reads end limit (s_until N.Braces ∷ []) (IsBlockIn room T.CloseBrace (says js)) room js (f js))
      → (m : Meaning) (span : Span) (rest : List ValuedToken)
      → Reads end limit (s_block ∷ []) (IsBraced (suc room) (said_by m span ∷ says rest)) (suc room)
      (record { meaning = m; span = span } ∷ rest) (brace_by m (suc room) span rest >>= λ x. f x.1)
  block_front room f reads (M.Terminal T.OpenBrace) span rest =
      enter end limit _ _ (suc room) room _ span rest _ _ refl (λ st o. (free_at end limit (opened st) room o, omega arith))
      (weaken end limit _ _ _ room rest _ (reads rest) (λ b r d. (
        ap (λ z. a_terminal T.OpenBrace ∷ z) (d.0 ∙ sym (append_assoc (block_tokens b) (a_terminal T.CloseBrace ∷ []) r)),
        (let k : block_nesting b ≤ room = d.1 in omega arith),
      )))
  block_front room f reads m span rest = refuse end limit _ _ (suc room) m span rest refl

  block_front_zero : (m : Meaning) (span : Span) (rest : List ValuedToken)
      → Reads end limit (s_block ∷ []) (IsBraced 0 (said_by m span ∷ says rest)) 0
      (record { meaning = m; span = span } ∷ rest) (brace_by m 0 span rest >>= λ x. Ok (nil, x.1))
  block_front_zero (M.Terminal T.OpenBrace) span rest = refuse_deep end limit _ _ _ span rest _ refl (λ st o. full_at end limit (opened st) o)
  block_front_zero m span rest = refuse end limit _ _ 0 m span rest refl

  block_reads : (room : ℕ) → ReadsBlocks room (block_at end room)
  unfolding block_at brace_at
  block_reads zero is = by_next_then end limit s_block (λ js. IsBraced 0 (says js)) 0 (λ m span rest. brace_by m 0 span rest) (λ x. Ok (nil, x.1)) block_front_zero is
  block_reads (suc room) is = by_next_then end limit s_block (λ js. IsBraced (suc room) (says js)) (suc room) (λ m span rest. brace_by m (suc room) span rest) _
      (block_front room (λ js. statements_with end (statement_with end (block_at end room) room) N.Braces (suc (length js)) js)
      (λ js. list_reads room _ (with_reads room (block_at end room) (block_reads room)) N.Braces (suc (length js)) js (omega arith))) is

  pub statement_reads : (room : ℕ) (is : List ValuedToken)
      → Reads end limit (s_statement ∷ []) (IsStatementIn room (says is)) room is (statement_at end room is)
  unfolding statement_at
  statement_reads room is = with_reads room (block_at end room) (block_reads room) is

  pub statements_reads : (room : ℕ) (ending : Ending) (is : List ValuedToken)
      → Reads end limit (s_until ending ∷ []) (IsBlockIn room (last_terminal ending) (says is)) room is (statements_at end room ending is)
  unfolding statements_at
  statements_reads room ending is = list_reads room (statement_at end room) (statement_reads room) ending (suc (length is)) is (omega arith)

-- a statement takes a token at least
pub statement_shorter : (end room : ℕ) (is r : List ValuedToken) (s : Statement Name) → statement_at end room is ≡ Ok (s, r) → length r < length is
statement_shorter end room is r s h = (statement_reads end 0 room is).shorter (s, r) h

module _ (end : ℕ) where
  pub branch_gives : (block : List ValuedToken → Reading (Block Name)) (room : ℕ) (is p q r s : List ValuedToken) (e : Expression Name) (a b : Block Name)
      → expression_at end room is ≡ Ok (e, p) → block p ≡ Ok (a, q) → terminal_at end T.Else q ≡ Ok (tt, r) → block r ≡ Ok (b, s)
      → branch_at end block room is ≡ Ok (branch e a b, s)
  unfolding branch_at
  branch_gives block room is p q r s e a b h k l m = rw (h, k, l, m) refl

  pub repeat_gives : (block : List ValuedToken → Reading (Block Name)) (room : ℕ) (is p q : List ValuedToken) (e : Expression Name) (a : Block Name)
      → expression_at end room is ≡ Ok (e, p) → block p ≡ Ok (a, q) → repeat_at end block room is ≡ Ok (repeat e a, q)
  unfolding repeat_at
  repeat_gives block room is p q e a h k = rw (h, k) refl

  -- an expression on the right-hand side
  plain_right : (room : ℕ) (x : Name) (e : Expression Name) (is : List ValuedToken) (rest : List Lexeme)
      → says is ≡ expression_tokens e ++ rest → right_at end room x is ≡ plain_at end room x is
  unfolding right_at next_at
  plain_right room x (number v) is rest d = let r =
      number_in v is rest d in subst (λ z. right_at end room x z ≡ plain_at end room x z) (sym r.3) refl
  plain_right room x (named y) is rest d = let r =
      name_in y is rest d in subst (λ z. right_at end room x z ≡ plain_at end room x z) (sym r.5) refl
  plain_right room x me is rest d = let r =
      terminal_in T.Me is rest d in subst (λ z. right_at end room x z ≡ plain_at end room x z) (sym r.3) refl
  plain_right room x count is rest d = let r = terminal_in T.Count is rest d in subst
      (λ z. right_at end room x z ≡ plain_at end room x z) (sym r.3) refl
  plain_right room x (binary a op b) is rest d = let r =
      terminal_in T.Open is _ d in subst (λ z. right_at end room x z ≡ plain_at end room x z) (sym r.3) refl

  ended_takes : (s : Statement Name) (is : List ValuedToken) (rest : List Lexeme)
      → says is ≡ a_terminal T.Semicolon ∷ rest → Takes end (ended_at end s is) s rest
  unfolding ended_at
  ended_takes s is rest d = let p = terminal_takes end T.Semicolon (λ span js. refl) is rest d in (p.0, p.1, rw p.2 refl)

  named_last_gives : (make : Name → Expression Name → Statement Name) (room : ℕ) (x : Name) (is p q : List ValuedToken)
      (e : Expression Name)
      → name_at end is ≡ Ok (x, p) → last_at end room p ≡ Ok (e, q) → named_last_at end make room is ≡ Ok (make x e, q)
  unfolding named_last_at
  named_last_gives make room x is p q e h k = rw (h, k) refl

  named_last_takes : (make : Name → Expression Name → Statement Name) (room : ℕ) (x : Name) (e : Expression Name)
      (is : List ValuedToken) (rest : List Lexeme)
      → says is ≡ a_name x ∷ ((expression_tokens e ++ a_terminal T.Semicolon ∷ []) ++ rest)
      → expression_nesting e ≤ room
      → Takes end (named_last_at end make room is) (make x e) rest
  named_last_takes make room x e is rest d n =
      let m = name_takes end x is _ d in
      let p = last_takes end room e m.0 rest m.1 n in
      (p.0, p.1, named_last_gives make room x is m.0 p.0 e m.2 p.2)

  copy_gives : (x s : Name) (is p q : List ValuedToken) → name_at end is ≡ Ok (s, p)
      → terminal_at end T.Semicolon p ≡ Ok (tt, q) → copy_at end x is ≡ Ok (copy x s, q)
  unfolding copy_at
  copy_gives x s is p q h k = rw (h, k) refl

  older_gives : (room : ℕ) (x s : Name) (is p q r : List ValuedToken) (a b : Expression Name)
      → name_at end is ≡ Ok (s, p) → expression_at end room p ≡ Ok (a, q) → last_at end room q ≡ Ok (b, r)
      → older_at end room x is ≡ Ok (older x s a b, r)
  unfolding older_at
  older_gives room x s is p q r a b h k l = rw (h, k, l) refl

  plain_gives : (room : ℕ) (x : Name) (is p : List ValuedToken) (e : Expression Name)
      → last_at end room is ≡ Ok (e, p) → plain_at end room x is ≡ Ok (assign x e, p)
  unfolding plain_at
  plain_gives room x is p e h = rw h refl

  out_gives : (room : ℕ) (is p : List ValuedToken) (e : Expression Name) → last_at end room is ≡ Ok (e, p)
      → out_at end room is ≡ Ok (out e, p)
  unfolding out_at
  out_gives room is p e h = rw h refl

  -- the right-hand side, by the terminal that it begins with
  right_terminal : (room : ℕ) (x : Name) (span : Span) (js : List ValuedToken) →
      (right_at end room x (token (M.Terminal T.Get) span ∷ js) ≡ named_last_at end (get x) room js)
      × (right_at end room x (token (M.Terminal T.Held) span ∷ js) ≡ named_last_at end (held x) room js)
      × (right_at end room x (token (M.Terminal T.Scan) span ∷ js) ≡ ended_at end (scan x) js)
      × (right_at end room x (token (M.Terminal T.Copy) span ∷ js) ≡ copy_at end x js)
      × (right_at end room x (token (M.Terminal T.Older) span ∷ js) ≡ older_at end room x js)
  unfolding right_at next_at
  right_terminal room x span js = (refl, refl, refl, refl, refl)

  assignment_gives : (room : ℕ) (x : Name) (is p q : List ValuedToken) (s : Statement Name)
      → terminal_at end T.Becomes is ≡ Ok (tt, p) → right_at end room x p ≡ Ok (s, q)
      → assignment_at end room x is ≡ Ok (s, q)
  unfolding assignment_at
  assignment_gives room x is p q s h k = rw (h, k) refl

  -- a statement that begins with a name
  named_statement : (room : ℕ) (x : Name) (s : Statement Name) (is : List ValuedToken) (t rest : List Lexeme)
      → says is ≡ a_name x ∷ a_terminal T.Becomes ∷ t
      → ((js : List ValuedToken) → says js ≡ t → Takes end (right_at end room x js) s rest)
      → Takes end (statement_at end room is) s rest
  unfolding statement_at statement_with next_at
  named_statement room x s is t rest h k =
      let n = name_in x is (a_terminal T.Becomes ∷ t) h in
      let b = terminal_takes end T.Becomes (λ span js. refl) n.2 t n.3 in
      let r = k b.0 b.1 in (
        r.0,
        r.1,
        ap (statement_at end room) n.5 ∙ ap (λ z. assignment_at end room z n.2) n.4
            ∙ assignment_gives room x n.2 b.0 r.0 s b.2 r.2,
      )

  -- a statement by the terminal that it begins with
  statement_terminal : (room : ℕ) (span : Span) (js : List ValuedToken) →
      (statement_at end room (token (M.Terminal T.Put) span ∷ js) ≡ named_last_at end put room js)
      × (statement_at end room (token (M.Terminal T.Stamp) span ∷ js) ≡ ended_at end stamp js)
      × (statement_at end room (token (M.Terminal T.Clear) span ∷ js) ≡ ended_at end clear js)
      × (statement_at end room (token (M.Terminal T.Out) span ∷ js) ≡ out_at end room js)
      × (statement_at end room (token (M.Terminal T.If) span ∷ js) ≡ branch_at end (block_at end room) room js)
      × (statement_at end room (token (M.Terminal T.While) span ∷ js) ≡ repeat_at end (block_at end room) room js)
  unfolding statement_at statement_with next_at
  statement_terminal room span js = (refl, refl, refl, refl, refl, refl)

  -- no statement begins with the terminal that ends a list
  not_ended : (room : ℕ) (ending : Ending) (m : Meaning) (span : Span) (js : List ValuedToken)
      (x : Statement Name × List ValuedToken)
      → statement_at end room (token m span ∷ js) ≡ Ok x → ends ending m ≡ false
  unfolding statement_at statement_with next_at
  not_ended room N.Program (M.Terminal T.End) span js x h = absurd (cc)
  not_ended room N.Braces (M.Terminal T.CloseBrace) span js x h = absurd (cc)
  not_ended room ending m span js x h = refl

  none_left : (room : ℕ) (x : Statement Name × List ValuedToken) → statement_at end room [] ≡ Ok x → ⊥
  unfolding statement_at statement_with next_at
  none_left room x h = cc

  list_gives : (room : ℕ) (ending : Ending) (most : ℕ) (is p q : List ValuedToken) (s : Statement Name) (b : Block Name)
      → statement_at end room is ≡ Ok (s, p) → statements_with end (statement_at end room) ending most p ≡ Ok (b, q)
      → statements_with end (statement_at end room) ending (suc most) is ≡ Ok (cons s b, q)
  unfolding statements_with next_at
  list_gives room ending most [] p q s b h k = absurd (none_left room (s, p) h)
  list_gives room ending most (i ∷ is) p q s b h k =
      ap (λ z. block_by end z is (statement_at end room (i ∷ is))
      (statements_with end (statement_at end room) ending most))
      (not_ended room ending i.meaning i.span is (s, p) h)
      ∙ ap (λ z. block_by end false is z (statements_with end (statement_at end room) ending most)) h
      ∙ ap (λ z. z >>= λ c. Ok (cons s c.0, c.1)) k

  list_ends : (room : ℕ) (ending : Ending) (most : ℕ) (span : Span) (js : List ValuedToken)
      → statements_with end (statement_at end room) ending (suc most)
      (token (M.Terminal (last_terminal ending)) span ∷ js) ≡ Ok (nil, js)
  unfolding statements_with next_at
  list_ends room N.Program most span js = refl
  list_ends room N.Braces most span js = refl

  block_gives : (room : ℕ) (is p q : List ValuedToken) (b : Block Name)
      → brace_at end (suc room) is ≡ Ok (tt, p) → statements_with end (statement_at end room) N.Braces
      (suc (length p)) p ≡ Ok (b, q)
      → block_at end (suc room) is ≡ Ok (b, q)
  unfolding block_at statement_at
  block_gives room is p q b h k = rw (h, k) refl

  -- a block in its braces, if its list is taken
  block_takes : (room : ℕ) (b : Block Name) (is : List ValuedToken) (rest : List Lexeme)
      → says is ≡ in_braces (block_tokens b) ++ rest
      → ((js : List ValuedToken) → says js ≡ block_tokens b ++ a_terminal T.CloseBrace ∷ rest
      → Takes end (statements_with end (statement_at end room) N.Braces (suc (length js)) js) b rest)
      → Takes end (block_at end (suc room) is) b rest
  block_takes room b is rest d list =
      let o = brace_takes end room is _ d in
      let q = list o.0 (o.1 ∙ append_assoc (block_tokens b) (a_terminal T.CloseBrace ∷ []) rest) in
      (q.0, q.1, block_gives room is o.0 q.0 b o.2 q.2)

  mutual
    pub statement_takes : (room : ℕ) (s : Statement Name) (is : List ValuedToken) (rest : List Lexeme)
        → says is ≡ statement_tokens s ++ rest → statement_nesting s ≤ room → Takes end (statement_at end room is) s rest
    statement_takes room (assign x e) is rest d n = named_statement room x (assign x e) is _ rest d (λ js h.
        let p = last_takes end room e js rest h n in (
          p.0,
          p.1,
          plain_right room x e js _ (h ∙ append_assoc (expression_tokens e) (a_terminal T.Semicolon ∷ []) rest)
              ∙ plain_gives room x js p.0 e p.2,
        ))
    statement_takes room (get x r e) is rest d n = named_statement room x (get x r e) is _ rest d (λ js h.
        by_terminal end (right_at end room x) _ T.Get (λ span ks. (right_terminal room x span ks).0) js _ rest _ h
        (λ ks k. named_last_takes (get x) room r e ks rest k n))
    statement_takes room (held x s e) is rest d n = named_statement room x (held x s e) is _ rest d (λ js h.
        by_terminal end (right_at end room x) _ T.Held (λ span ks. (right_terminal room x span ks).1) js _ rest _ h
        (λ ks k. named_last_takes (held x) room s e ks rest k n))
    statement_takes room (put r e) is rest d n =
        by_terminal end (statement_at end room) _ T.Put (λ span js. (statement_terminal room span js).0) is _ rest _ d
        (λ js h. named_last_takes put room r e js rest h n)
    statement_takes room stamp is rest d n =
        by_terminal end (statement_at end room) _ T.Stamp (λ span js. (statement_terminal room span js).1) is _ rest _ d
        (λ js h. ended_takes stamp js rest h)
    statement_takes room clear is rest d n =
        by_terminal end (statement_at end room) _ T.Clear (λ span js. (statement_terminal room span js).2) is _ rest _ d
        (λ js h. ended_takes clear js rest h)
    statement_takes room (scan s) is rest d n = named_statement room s (scan s) is _ rest d (λ js h.
        by_terminal end (right_at end room s) _ T.Scan (λ span ks. (right_terminal room s span ks).2) js _ rest _ h
        (λ ks k. ended_takes (scan s) ks rest k))
    statement_takes room (copy t s) is rest d n = named_statement room t (copy t s) is _ rest d (λ js h.
        by_terminal end (right_at end room t) _ T.Copy (λ span ks. (right_terminal room t span ks).3) js _ rest _ h (λ ks k.
        let m = name_takes end s ks _ k in
        let p = terminal_takes end T.Semicolon (λ span is. refl) m.0 rest m.1 in
        (p.0, p.1, copy_gives t s ks m.0 p.0 m.2 p.2)))
    statement_takes room (older x s a b) is rest d n = named_statement room x (older x s a b) is _ rest d (λ js h.
        by_terminal end (right_at end room x) _ T.Older (λ span ks. (right_terminal room x span ks).4) js _ rest _ h
        (λ ks k.
        let m = name_takes end s ks _ k in
        let p = expression_takes end room a m.0 _
        (m.1 ∙ append_assoc (expression_tokens a) (expression_tokens b ++ a_terminal T.Semicolon ∷ []) rest)
        (omega arith) in
        let q = last_takes end room b p.0 rest p.1 (omega arith) in
        (q.0, q.1, older_gives room x s ks m.0 p.0 q.0 a b m.2 p.2 q.2)))
    statement_takes room (out e) is rest d n =
        by_terminal end (statement_at end room) _ T.Out (λ span js. (statement_terminal room span js).3) is _ rest _ d
        (λ js h.
        let p = last_takes end room e js rest h n in
        (p.0, p.1, out_gives room js p.0 e p.2))
    statement_takes zero (branch e a b) is rest d n = absurd (omega arith)
    statement_takes (suc room) (branch e a b) is rest d n =
        by_terminal end (statement_at end (suc room)) _ T.If (λ span js. (statement_terminal (suc room) span js).4) is _
        rest _ d (λ js h.
        let p = expression_takes end (suc room) e js _
        (h ∙ sym (branch_regroups (expression_tokens e) (in_braces (block_tokens a)) (a_terminal T.Else)
        (in_braces (block_tokens b)) rest)) (omega arith) in
        let q = block_takes room a p.0 _ p.1
        (λ js k. list_takes room N.Braces a (suc (length js)) js _ k (omega arith) (omega arith)) in
        let f = terminal_takes end T.Else (λ span js. refl) q.0 _ q.1 in
        let v = block_takes room b f.0 rest f.1
        (λ js k. list_takes room N.Braces b (suc (length js)) js rest k (omega arith) (omega arith)) in
        (v.0, v.1, branch_gives (block_at end (suc room)) (suc room) js p.0 q.0 f.0 v.0 e a b p.2 q.2 f.2 v.2))
    statement_takes zero (repeat e a) is rest d n = absurd (omega arith)
    statement_takes (suc room) (repeat e a) is rest d n =
        by_terminal end (statement_at end (suc room)) _ T.While (λ span js. (statement_terminal (suc room) span js).5) is _
        rest _ d (λ js h.
        let p = expression_takes end (suc room) e js _
        (h ∙ append_assoc (expression_tokens e) (in_braces (block_tokens a)) rest) (omega arith) in
        let q = block_takes room a p.0 rest p.1
        (λ js k. list_takes room N.Braces a (suc (length js)) js rest k (omega arith) (omega arith)) in
        (q.0, q.1, repeat_gives (block_at end (suc room)) (suc room) js p.0 q.0 e a p.2 q.2))

    pub list_takes : (room : ℕ) (ending : Ending) (b : Block Name) (most : ℕ) (is : List ValuedToken)
        (rest : List Lexeme)
        → says is ≡ block_tokens b ++ a_terminal (last_terminal ending) ∷ rest → block_nesting b ≤ room
        → length is < most
        → Takes end (statements_with end (statement_at end room) ending most is) b rest
    list_takes room ending nil zero is rest d n l = absurd (omega arith)
    list_takes room ending nil (suc most) is rest d n l =
        let g = terminal_in (last_terminal ending) is rest d in (
          g.1,
          g.2,
          ap (statements_with end (statement_at end room) ending (suc most)) g.3
              ∙ list_ends room ending most g.0 g.1,
        )
    list_takes room ending (cons s b) zero is rest d n l = absurd (omega arith)
    list_takes room ending (cons s b) (suc most) is rest d n l =
        let p = statement_takes room s is _
        (d ∙ append_assoc (statement_tokens s) (block_tokens b) (a_terminal (last_terminal ending) ∷ rest))
        (omega arith) in
        let k : length p.0 < length is = statement_shorter end room is p.0 s p.2 in
        let q = list_takes room ending b most p.0 rest p.1 (omega arith) (omega arith) in
        (q.0, q.1, list_gives room ending most is p.0 q.0 s b p.2 q.2)
