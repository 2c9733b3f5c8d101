-- Tokens that go on to a program are those that leave symbols which may still come.
--
-- The idea. That some program goes on from these tokens (`GoesOn`) speaks of all programs, and nobody can look
-- through them. `run ts st` can be computed: the symbols that are left once the tokens `ts` were read from the
-- stack `st`, or none, where a token had no place. This page shows that the two say the same. Tokens go on to a
-- program exactly where `run` leaves a stack (`goes_on`, `goes_on_runs`), and they are a program exactly where
-- that is empty (`program_back`, `program_runs`).
--
-- From symbols to programs: each symbol can be completed, by tokens that a text can have (`complete`, `completes`,
-- `complete_stands`), so each stack can (`completes_all`). Tokens with this completion run out of symbols, and
-- such tokens are a program: the reader reads them, since what it refuses the stack refuses (`program_err` of
-- `SoundPrograms`), and what it reads the tokens say (`program_ok`). From programs to symbols: a program's tokens
-- are read (`program_takes` of `Complete`), so the stack refused none of them, and `run` comes to its end.
--
-- The reader has a limit of open brackets, and `run` has none. So for a list of tokens a reader is taken whose
-- limit is above the length of the list: there no bracket is one too many (`no_fault`). For this the count of open
-- brackets is followed along `run`: what a symbol turns into closes just the brackets that are open then (`opens`,
-- a case for each symbol and each token), and a token opens one at most (`grows_by`).
--
-- The reader reads tokens with their places, and here there are none. So tokens are made up that say what is
-- wanted (`some_say`); all that their places decide is where the number of processes stands (`number_stands`).
--
-- The inductions are on the list of tokens, for any stack. A whole program is looked at by the reader alone; that
-- is why each half needs no induction on trees, which `Sound` and `Complete` have done.
use Rattle.std.proofs.Common.{map, ◌≡◌, ◌≢◌, ℕ, suc, ◌+◌, ◌<◌, ◌≤◌, Bool, true, false, List, [], ◌∷◌, ◌++◌, length, Option, Some, None, Result, Ok, Err, refl, sym, ◌∙◌, ap, subst, arith, max}
use Rattle.std.proofs.lemmas.Bool.{ne_eqb, eqb-true, eqb-false}
use Rattle.base.specs.declared.span.Span.{Span}
use Rattle.tick_syntax.specs.declared.fault.TextFault.{TextFault}
use Rattle.tick_syntax.specs.declared.valued_token.ValuedToken.{ValuedToken}
use Rattle.tick_syntax.specs.declared.valued_token.Ending.TheVariants as N
use Rattle.tick_syntax.specs.declared.valued_token.Meaning.TheVariants as M
use Rattle.base.specs.declared.operator.Op.TheVariants as O
use Rattle.tick_syntax.specs.declared.terminals.Terminal.TheVariants as T
use Rattle.tick_syntax.specs.Lexeme.{Lexeme, a_name, a_number, a_terminal, nothing, lexemes}
use Rattle.base.specs.Plain.{nowhere, Name, WholeProgram}
use Rattle.tick_syntax.specs.Grammar.{program_tokens, second_span, Derives, nesting}
use Rattle.tick_syntax.specs.declared.token.Token.{Token}
use Rattle.tick_syntax.specs.Nesting.{IsOpening, open_by}
use Rattle.tick_syntax.specs.prover.Reading.{program_at}
use Rattle.tick_syntax.specs.Refusal.{CanStand, AllCanStand, GoesOn}
use Rattle.tick_syntax.specs.prover.ValuedTokens.{plain}
use Rattle.tick_syntax.proofs.Symbols.{said, says, Symbol, s_program, s_number, s_semicolon, s_variables, s_scans, s_registers, s_begin, s_names, s_more, s_name, s_becomes, s_else, s_close, s_operator, s_expression, s_right, s_block, s_statement, s_until, statement_step, begin_step, registers_step, scans_step, step, opened, is_full, on_stack, run_by, run, fault_by, fault}
use Rattle.tick_syntax.proofs.Statements.{Opens, expression_opens, statement_opens, opens_after, right_opens}
use Rattle.tick_syntax.proofs.SoundPrograms.{program_ok, program_err}
use Rattle.tick_syntax.proofs.Complete.{program_takes}

begin_opens : (x : Lexeme) → Opens s_begin x (begin_step x)
begin_opens (a_terminal T.Begin) = λ st. refl
begin_opens x = tt

registers_opens : (x : Lexeme) → Opens s_registers x (registers_step x)
registers_opens (a_terminal T.Reg) = λ st. refl
registers_opens x = begin_opens x

scans_opens : (x : Lexeme) → Opens s_scans x (scans_step x)
scans_opens (a_terminal T.Scan) = λ st. refl
scans_opens x = registers_opens x

opens : (s : Symbol) (x : Lexeme) → Opens s x (step s x)
opens s_begin x = begin_opens x
opens s_registers x = registers_opens x
opens s_scans x = scans_opens x
opens s_variables (a_terminal T.Var) = λ st. refl
opens s_variables x = scans_opens x
opens s_expression x = expression_opens x
opens s_right x = right_opens x
opens s_statement x = statement_opens x
opens (s_until N.Program) (a_terminal T.End) = λ st. refl
opens (s_until N.Program) x = opens_after s_statement (s_until N.Program) x (statement_step x) (λ st. refl)
    (statement_opens x)
opens (s_until N.Braces) (a_terminal T.CloseBrace) = λ st. omega arith
opens (s_until N.Braces) x = opens_after s_statement (s_until N.Braces) x (statement_step x) (λ st. refl)
    (statement_opens x)
opens s_close (a_terminal T.Close) = λ st. omega arith
opens s_program (a_terminal T.Processes) = λ st. refl
opens s_number (a_number v) = λ st. refl
opens s_semicolon (a_terminal T.Semicolon) = λ st. refl
opens s_names (a_name n) = λ st. refl
opens s_more (a_terminal T.Comma) = λ st. refl
opens s_more (a_terminal T.Semicolon) = λ st. refl
opens s_name (a_name n) = λ st. refl
opens s_becomes (a_terminal T.Becomes) = λ st. refl
opens s_else (a_terminal T.Else) = λ st. refl
opens s_operator (a_terminal (T.Operator op)) = λ st. refl
opens s_block (a_terminal T.OpenBrace) = λ st. refl
opens s x = tt

pub opens_to : (s : Symbol) (x : Lexeme) (new : List Symbol) → step s x ≡ Some new → (st : List Symbol)
    → opened (new ++ st) ≡ open_by x (opened (s ∷ st))
opens_to s x new h = subst (Opens s x) h (opens s x)

pub full_is : (limit : ℕ) (x : Lexeme) (depth : ℕ) → is_full limit x depth ≡ true → IsOpening x × (depth ≡ limit)
full_is limit (a_terminal T.Open) depth h = (tt, eqb-true depth limit h)
full_is limit (a_terminal T.OpenBrace) depth h = (tt, eqb-true depth limit h)
full_is limit x depth h = absurd (cc)

pub fits_by : (x : Lexeme) (depth : ℕ) → depth ≤ 64 → is_full 64 x depth ≡ false → open_by x depth ≤ 64
fits_by (a_terminal T.Open) depth l h = let n : depth ≢ 64 = eqb-false depth 64 h in omega arith
fits_by (a_terminal T.OpenBrace) depth l h = let n : depth ≢ 64 = eqb-false depth 64 h in omega arith
fits_by (a_terminal T.Close) depth l h = omega arith
fits_by (a_terminal T.CloseBrace) depth l h = omega arith
fits_by x depth l h = l

grows_by : (x : Lexeme) (depth : ℕ) → open_by x depth ≤ suc depth
grows_by (a_terminal T.Open) depth = omega arith
grows_by (a_terminal T.OpenBrace) depth = omega arith
grows_by (a_terminal T.Close) depth = omega arith
grows_by (a_terminal T.CloseBrace) depth = omega arith
grows_by x depth = omega arith

free_by : (limit : ℕ) (x : Lexeme) (depth : ℕ) → depth < limit → is_full limit x depth ≡ false
free_by limit (a_terminal T.Open) depth l = let n : depth ≢ limit = omega arith in ne_eqb depth limit n
free_by limit (a_terminal T.OpenBrace) depth l = let n : depth ≢ limit = omega arith in ne_eqb depth limit n
free_by limit x depth l = refl

-- a way to complete each symbol
abbrev complete : Symbol → List Lexeme
complete s_program = a_terminal T.Processes ∷ a_number 1 ∷ a_terminal T.Semicolon ∷ a_terminal T.Begin
    ∷ a_terminal T.End ∷ []
complete s_number = a_number 0 ∷ []
complete s_semicolon = a_terminal T.Semicolon ∷ []
complete s_variables = a_terminal T.Begin ∷ a_terminal T.End ∷ []
complete s_scans = a_terminal T.Begin ∷ a_terminal T.End ∷ []
complete s_registers = a_terminal T.Begin ∷ a_terminal T.End ∷ []
complete s_begin = a_terminal T.Begin ∷ a_terminal T.End ∷ []
complete s_names = a_name (record { letters = 120 ∷ []; span = nowhere }) ∷ a_terminal T.Semicolon ∷ []
complete s_more = a_terminal T.Semicolon ∷ []
complete s_name = a_name (record { letters = 120 ∷ []; span = nowhere }) ∷ []
complete s_becomes = a_terminal T.Becomes ∷ []
complete s_else = a_terminal T.Else ∷ []
complete s_close = a_terminal T.Close ∷ []
complete s_operator = a_terminal (T.Operator O.Add) ∷ []
complete s_expression = a_terminal T.Me ∷ []
complete s_right = a_terminal T.Me ∷ a_terminal T.Semicolon ∷ []
complete s_block = a_terminal T.OpenBrace ∷ a_terminal T.CloseBrace ∷ []
complete s_statement = a_terminal T.Stamp ∷ a_terminal T.Semicolon ∷ []
complete (s_until N.Program) = a_terminal T.End ∷ []
complete (s_until N.Braces) = a_terminal T.CloseBrace ∷ []

completes : (s : Symbol) (ts : List Lexeme) (st : List Symbol) → run (complete s ++ ts) (s ∷ st) ≡ run ts st
completes s_program ts st = refl
completes s_number ts st = refl
completes s_semicolon ts st = refl
completes s_variables ts st = refl
completes s_scans ts st = refl
completes s_registers ts st = refl
completes s_begin ts st = refl
completes s_names ts st = refl
completes s_more ts st = refl
completes s_name ts st = refl
completes s_becomes ts st = refl
completes s_else ts st = refl
completes s_close ts st = refl
completes s_operator ts st = refl
completes s_expression ts st = refl
completes s_right ts st = refl
completes s_block ts st = refl
completes s_statement ts st = refl
completes (s_until N.Program) ts st = refl
completes (s_until N.Braces) ts st = refl

abbrev complete_all : List Symbol → List Lexeme
complete_all [] = []
complete_all (s ∷ st) = complete s ++ complete_all st

completes_all : (st : List Symbol) → run (complete_all st) st ≡ Some []
completes_all [] = refl
completes_all (s ∷ st) = completes s (complete_all st) st ∙ completes_all st

-- and one that a text can have
complete_stands : (s : Symbol) → AllCanStand (complete s)
complete_stands s_program = (tt, (omega arith, (tt, (tt, (tt, tt)))))
complete_stands s_number = (omega arith, tt)
complete_stands s_semicolon = (tt, tt)
complete_stands s_variables = (tt, (tt, tt))
complete_stands s_scans = (tt, (tt, tt))
complete_stands s_registers = (tt, (tt, tt))
complete_stands s_begin = (tt, (tt, tt))
complete_stands s_names = ((refl, refl, omega arith), (tt, tt))
complete_stands s_more = (tt, tt)
complete_stands s_name = ((refl, refl, omega arith), tt)
complete_stands s_becomes = (tt, tt)
complete_stands s_else = (tt, tt)
complete_stands s_close = (tt, tt)
complete_stands s_operator = (tt, tt)
complete_stands s_expression = (tt, tt)
complete_stands s_right = (tt, (tt, tt))
complete_stands s_block = (tt, (tt, tt))
complete_stands s_statement = (tt, (tt, tt))
complete_stands (s_until N.Program) = (tt, tt)
complete_stands (s_until N.Braces) = (tt, tt)

pub all_append : (xs ys : List Lexeme) → AllCanStand xs → AllCanStand ys → AllCanStand (xs ++ ys)
all_append [] ys a b = b
all_append (x ∷ xs) ys a b = (a.0, all_append xs ys a.1 b)

completed_stand : (st : List Symbol) → AllCanStand (complete_all st)
completed_stand [] = tt
completed_stand (s ∷ st) = all_append (complete s) (complete_all st) (complete_stands s) (completed_stand st)

run_by_by : (o : Option (List Symbol)) (f g : List Symbol → Option (List Symbol))
    → run_by (run_by o f) g ≡ run_by o (λ st. run_by (f st) g)
run_by_by None f g = refl
run_by_by (Some st) f g = refl

run_by_same : (o : Option (List Symbol)) (f g : List Symbol → Option (List Symbol)) → ((st : List Symbol) → f st ≡ g st)
    → run_by o f ≡ run_by o g
run_by_same None f g h = refl
run_by_same (Some st) f g h = h st

pub run_append : (xs ys : List Lexeme) (st : List Symbol) → run (xs ++ ys) st ≡ run_by (run xs st) (run ys)
run_append [] ys st = refl
run_append (x ∷ xs) ys [] = refl
run_append (x ∷ xs) ys (s ∷ st) =
    run_by_same (on_stack (step s x) st) (run (xs ++ ys)) (λ z. run_by (run xs z) (run ys)) (λ z. run_append xs ys z)
    ∙ sym (run_by_by (on_stack (step s x) st) (run xs) (run ys))

-- What a text can have some tokens say; those that say no name stand here.
one_says : (span : Span) (x : Lexeme) → CanStand x → (i : ValuedToken) × (said i ≡ x)
one_says span (a_name x) c = (
  record { meaning = M.Name (record { ref_ptr = (0, 0); now = x.letters }); span = x.span },
  refl,
)
one_says span (a_number v) c = (record { meaning = M.Number v; span = span }, refl)
one_says span (a_terminal w) c = (record { meaning = M.Terminal w; span = span }, refl)
one_says span nothing c = absurd c

some_say : (span : Span) (xs : List Lexeme) → AllCanStand xs → (is : List ValuedToken) × (says is ≡ xs)
some_say span [] c = ([], refl)
some_say span (x ∷ xs) c =
    let i = one_says span x c.0 in
    let is = some_say span xs c.1 in
    (i.0 ∷ is.0, ap (λ z. z ∷ says is.0) i.1 ∙ ap (λ z. x ∷ z) is.1)

-- where no bracket is one too many, the tokens are read to their end just where they run out of symbols
module _ (end limit : ℕ) where
  runs_step : (ts : List Lexeme) (st : List Symbol) (span : Span) (more : List Symbol → Option TextFault)
      (o : Option (List Symbol)) (b : Bool)
      → fault_by (on_stack o st) b span more ≡ None
      → ((new : List Symbol) → more (new ++ st) ≡ None → run ts (new ++ st) ≡ Some [])
      → run_by (on_stack o st) (run ts) ≡ Some []
  runs_step ts st span more None b k go = absurd (cc)
  runs_step ts st span more (Some new) true k go = absurd (cc)
  runs_step ts st span more (Some new) false k go = go new k

  runs_out : (is : List ValuedToken) (st : List Symbol) → fault end limit is st ≡ None → run (says is) st ≡ Some []
  runs_out [] [] h = refl
  runs_out [] (s ∷ st) h = absurd (cc)
  runs_out (i ∷ is) [] h = absurd (cc)
  runs_out (i ∷ is) (s ∷ st) h =
      runs_step (says is) st i.span (fault end limit is) (step s (said i)) (is_full limit (said i) (opened (s ∷ st))) h
      (λ new k. runs_out is (new ++ st) k)

  fault_step : (x : Lexeme) (ts : List Lexeme) (count : ℕ) (s : Symbol) (st : List Symbol) (span : Span)
      (more : List Symbol → Option TextFault)
      (o : Option (List Symbol)) → step s x ≡ o → run_by (on_stack o st) (run ts) ≡ Some []
      → opened (s ∷ st) + suc count < limit
      → ((new : List Symbol) → run ts (new ++ st) ≡ Some [] → opened (new ++ st) + count < limit
      → more (new ++ st) ≡ None)
      → fault_by (on_stack o st) (is_full limit x (opened (s ∷ st))) span more ≡ None
  fault_step x ts count s st span more None e k l go = absurd (cc)
  fault_step x ts count s st span more (Some new) e k l go =
      let d : opened (new ++ st) ≡ open_by x (opened (s ∷ st)) = opens_to s x new e st in
      let g : open_by x (opened (s ∷ st)) ≤ suc (opened (s ∷ st)) = grows_by x (opened (s ∷ st)) in
      ap (λ z. fault_by (Some (new ++ st)) z span more) (free_by limit x (opened (s ∷ st)) (omega arith))
      ∙ go new k (omega arith)

  no_fault : (is : List ValuedToken) (st : List Symbol) → run (says is) st ≡ Some [] → opened st + length is < limit
      → fault end limit is st ≡ None
  no_fault [] [] h l = refl
  no_fault [] (s ∷ st) h l = absurd (cc)
  no_fault (i ∷ is) [] h l = absurd (cc)
  no_fault (i ∷ is) (s ∷ st) h l =
      fault_step (said i) (says is) (length is) s st i.span (fault end limit is) (step s (said i)) refl h l
      (λ new k j. no_fault is (new ++ st) k j)

number_stands : (span : Span) (p : WholeProgram Name) (c : AllCanStand (program_tokens p))
    → second_span (map plain (some_say span (program_tokens p) c).0) ≡ span
unfolding some_say one_says
number_stands span p c = refl

program_by : (r : Result (WholeProgram Name) TextFault) (ts : List Lexeme)
    → ((p : WholeProgram Name) → r ≡ Ok p → ts ≡ program_tokens p) → ((e : TextFault) → r ≡ Err e → ⊥)
    → (p : WholeProgram Name) × (ts ≡ program_tokens p)
program_by (Ok p) ts f g = (p, f p refl)
program_by (Err e) ts f g = absurd (g e refl)

-- tokens that run out of symbols are a program
pub program_back : (ts : List Lexeme) → AllCanStand ts → run ts (s_program ∷ []) ≡ Some []
    → (p : WholeProgram Name) × (ts ≡ program_tokens p)
program_back ts stand h =
    let is = some_say nowhere ts stand in
    let limit : ℕ = suc (length is.0) in
    let none : fault 0 limit is.0 (s_program ∷ []) ≡ None =
    no_fault 0 limit is.0 (s_program ∷ []) (subst (λ z. run z (s_program ∷ []) ≡ Some []) (sym is.1) h) (omega arith) in
    program_by (program_at 0 limit is.0) ts
    (λ p k. sym is.1 ∙ (program_ok 0 limit is.0 p k).says_it)
    (λ e k. not_none e (sym (program_err 0 limit is.0 e k) ∙ none))
  where
    not_none : (e : TextFault) → Some e ≡ None → ⊥
    not_none e h = cc

-- and a program's tokens run out of symbols
pub program_runs : (ts : List Lexeme) → AllCanStand ts → (p : WholeProgram Name) → ts ≡ program_tokens p
    → run ts (s_program ∷ []) ≡ Some []
program_runs ts stand p same =
    let own : AllCanStand (program_tokens p) = subst AllCanStand same stand in
    let is = some_say p.span (program_tokens p) own in
    let ok : program_at 0 (nesting p) is.0 ≡ Ok p = program_takes 0 (nesting p) p is.0 is.1 (number_stands p.span p _)
    (omega arith) in
    subst (λ z. run z (s_program ∷ []) ≡ Some []) (is.1 ∙ sym same)
    (runs_out 0 (nesting p) is.0 (s_program ∷ []) (program_ok 0 (nesting p) is.0 p ok).none)

one_value : (p q : WholeProgram Name) → (let r : Result (WholeProgram Name) TextFault = Ok p in r) ≡ Ok q → p ≡ q
one_value p q h = cc

-- a list of tokens is one program at most, but for the place of its number
pub one_of_tokens : (p q : WholeProgram Name) → AllCanStand (program_tokens p) → program_tokens p ≡ program_tokens q
    → p.span ≡ q.span → p ≡ q
one_of_tokens p q stand same place =
    let is = some_say p.span (program_tokens p) stand in
    let depth : ℕ = max (nesting p) (nesting q) in
    let a : program_at 0 depth is.0 ≡ Ok p = program_takes 0 depth p is.0 is.1 (number_stands p.span p _)
    (omega arith) in
    let b : program_at 0 depth is.0 ≡ Ok q = program_takes 0 depth q is.0 (is.1 ∙ same)
    (number_stands p.span p stand ∙ place) (omega arith) in
    one_value p q (sym a ∙ b)

pub derives_once : (text : List ℕ) (tokens : List Token) (p q : WholeProgram Name) → AllCanStand (lexemes text tokens)
    → Derives text tokens p → Derives text tokens q → p ≡ q
derives_once text tokens p q stand d f = one_of_tokens p q (subst AllCanStand d.0 stand) (sym d.0 ∙ f.0) (sym d.1 ∙ f.1)

pub goes_on : (ts : List Lexeme) (st : List Symbol) → AllCanStand ts → run ts (s_program ∷ []) ≡ Some st → GoesOn ts
goes_on ts st stand h =
    let b = program_back (ts ++ complete_all st) (all_append ts (complete_all st) stand (completed_stand st))
    (run_append ts (complete_all st) (s_program ∷ []) ∙ ap (λ z. run_by z (run (complete_all st))) h
    ∙ completes_all st) in
    (complete_all st, completed_stand st, b.0, b.1)

none_some : (st : List Symbol) → (let r : Option (List Symbol) = None in r) ≡ Some st → ⊥
none_some st h = cc

pub goes_on_runs : (ts : List Lexeme) → AllCanStand ts → GoesOn ts → run ts (s_program ∷ []) ≡ None → ⊥
goes_on_runs ts stand g h =
    let r : run (ts ++ g.0) (s_program ∷ []) ≡ Some [] =
    program_runs (ts ++ g.0) (all_append ts g.0 stand g.1) g.2 g.3 in
    none_some [] (sym (ap (λ z. run_by z (run g.0)) h) ∙ sym (run_append ts g.0 (s_program ∷ [])) ∙ r)
