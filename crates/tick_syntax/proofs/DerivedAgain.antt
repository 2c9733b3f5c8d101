-- Tokens that are a program's, spans aside, are that program, spans aside.
--
-- The table of symbols sees no spans, so such tokens run out of symbols where the program's own do, and are some
-- program. Its tokens and the first program's are the same spans aside, and so are the trees: with every name and
-- number at no place the tokens are the same list, and a list of tokens is one program at most.
use Rattle.std.proofs.Common.{◌≡◌, List, [], ◌∷◌, map, Option, Some, None, refl, sym, ap, ◌∙◌, subst}
use Rattle.tick_syntax.specs.declared.valued_token.Ending.TheVariants as N
use Rattle.tick_syntax.specs.Lexeme.{Lexeme, a_name, a_number, a_terminal, nothing}
use Rattle.tick_syntax.specs.Grammar.{program_tokens}
use Rattle.tick_syntax.specs.Refusal.{AllCanStand}
use Rattle.base.specs.declared.span.Span.{Span}
use Rattle.base.specs.Plain.{Name, Block, map_block, WholeProgram, without_spans}
use Rattle.tick_syntax.proofs.Symbols.{Symbol, s_program, s_until, step, on_stack, run_by, run}
use Rattle.tick_syntax.proofs.Spanless.{letters_of, spanless, spanless_all}
use Rattle.tick_syntax.proofs.Statements.{name_at_none, block_twice}
use Rattle.tick_syntax.proofs.SpansAside.{program_at_none, program_plain}
use Rattle.tick_syntax.proofs.Continuations.{program_back, program_runs, one_of_tokens}
use Rattle.tick_syntax.proofs.TokensThatStand.{all_spanless}

letters_again : (xs : List Name) → map letters_of (map name_at_none (map letters_of xs)) ≡ map letters_of xs
letters_again [] = refl
letters_again (x ∷ xs) = ap (λ z. x.letters ∷ z) (letters_again xs)

block_again : (b : Block Name) → map_block letters_of (map_block name_at_none (map_block letters_of b)) ≡ map_block letters_of b
block_again b =
    ap (map_block letters_of) (block_twice letters_of name_at_none b)
    ∙ block_twice (λ x. name_at_none (letters_of x)) letters_of b

program_letters : (p : WholeProgram Name) → without_spans (program_at_none (without_spans p)) ≡ without_spans p
program_letters p =
    rw (letters_again p.variables, letters_again p.scans, letters_again p.registers, block_again p.body) refl

-- programs whose tokens are the same, spans aside
same_program : (p q : WholeProgram Name) → AllCanStand (program_tokens p) → spanless_all (program_tokens p) ≡ spanless_all (program_tokens q)
    → without_spans p ≡ without_spans q
same_program p q stand same =
    let a : WholeProgram Name = program_at_none (without_spans p) in
    let b : WholeProgram Name = program_at_none (without_spans q) in
    let one : a ≡ b =
    one_of_tokens a b (subst AllCanStand (program_plain p) (all_spanless (program_tokens p) stand)) (sym (program_plain p) ∙ same ∙ program_plain q) refl in
    sym (program_letters p) ∙ ap without_spans one ∙ program_letters q

-- The table sees no spans.
step_spanless : (s : Symbol) (x : Lexeme) → step s (spanless x) ≡ step s x
step_spanless s_program (a_name x) = refl
step_spanless s_program (a_number v) = refl
step_spanless (s_until N.Program) (a_name x) = refl
step_spanless (s_until N.Program) (a_number v) = refl
step_spanless (s_until N.Braces) (a_name x) = refl
step_spanless (s_until N.Braces) (a_number v) = refl
step_spanless s (a_name x) = refl
step_spanless s (a_number v) = refl
step_spanless s (a_terminal w) = refl
step_spanless s nothing = refl

run_by_spanless : (o : Option (List Symbol)) (ts : List Lexeme) → ((st : List Symbol) → run (spanless_all ts) st ≡ run ts st)
    → run_by o (run (spanless_all ts)) ≡ run_by o (run ts)
run_by_spanless None ts h = refl
run_by_spanless (Some st) ts h = h st

run_spanless : (ts : List Lexeme) (st : List Symbol) → run (spanless_all ts) st ≡ run ts st
run_spanless [] st = refl
run_spanless (x ∷ ts) [] = refl
run_spanless (x ∷ ts) (s ∷ st) =
    ap (λ z. run_by (on_stack z st) (run (spanless_all ts))) (step_spanless s x)
    ∙ run_by_spanless (on_stack (step s x) st) ts (run_spanless ts)

-- whose number may be said to stand at any place
pub program_again : (span : Span) (p : WholeProgram Name) (ts : List Lexeme) → AllCanStand (program_tokens p) → AllCanStand ts
    → spanless_all ts ≡ spanless_all (program_tokens p) → (q : WholeProgram Name) × (ts ≡ program_tokens q) × (q.span ≡ span) × (without_spans q ≡ without_spans p)
program_again span p ts own stand same =
    let runs : run ts (s_program ∷ []) ≡ Some [] =
    sym (run_spanless ts (s_program ∷ [])) ∙ ap (λ z. run z (s_program ∷ [])) same ∙ run_spanless (program_tokens p) (s_program ∷ [])
    ∙ program_runs (program_tokens p) own p refl in
    let found = program_back ts stand runs in
    (record found.0 { span = span }, found.1, refl, same_program found.0 p (subst AllCanStand found.1 stand) (ap spanless_all (sym found.1) ∙ same))
