-- What may still come, as a stack of symbols, and the first token at which nothing does (`fault`).
--
-- This page is definitions; its one lemma is `says_same`: the values of a text's tokens say what the tokens
-- say. Symbols, and those of expressions and statements, stand in `prover/Reading`, beside what the reader does.
--
-- The idea. `step s x` are the symbols that stand in the place of `s` once `x` was read, or none, where `s` does
-- not begin with `x`. `run` does so token by token and gives the symbols that are left. `fault` does so with a
-- limit on open brackets and gives the first refusal: a token without a place, tokens or symbols left over, or a
-- bracket too many. Two things need care. Brackets have no counter: as many are open as there are symbols that
-- close one (`opened`). And a section may be left out, so its step falls through to the next part's
-- (`variables_step`). `Sound.antt` ties the reader to `fault`, and `Continuations.antt` ties programs to `run`.
-- Read `step` first.
use Rattle.std.proofs.Common.{◌≡◌, refl, ap, ◌∙◌, ℕ, suc, Bool, true, false, List, [], ◌∷◌, ◌++◌, Option, Some, None, nat_eq}
use Rattle.base.specs.declared.span.Span.{Span}
use Rattle.tick_syntax.specs.declared.fault.TextFault.{TextFault}
use Rattle.tick_syntax.specs.declared.fault.TextFault.TheVariants as F
use Rattle.tick_syntax.specs.declared.valued_token.ValuedToken.{ValuedToken}
use Rattle.tick_syntax.specs.declared.valued_token.Ending.{Ending}
use Rattle.tick_syntax.specs.declared.valued_token.Ending.TheVariants as N
use Rattle.tick_syntax.specs.declared.terminals.Terminal.TheVariants as T
use Rattle.tick_syntax.specs.declared.token.Token.{Token}
use Rattle.tick_syntax.specs.Lexeme.{Lexeme, a_name, a_number, a_terminal, lexeme_of, lexemes}
use Rattle.tick_syntax.specs.prover.ValuedTokens.{SayAs}
pub use Rattle.tick_syntax.specs.prover.ValuedTokens.{said_by, said}
pub use Rattle.tick_syntax.specs.prover.Reading.{Symbol, s_program, s_number, s_semicolon, s_variables, s_scans, s_registers, s_begin, s_names, s_more, s_name, s_becomes, s_else, s_close, s_operator, s_expression, s_right, s_block, s_statement, s_until, after, expression_step, right_step, statement_step}

abbrev pub says : List ValuedToken → List Lexeme
says [] = []
says (i ∷ is) = said i ∷ says is

pub says_same : (text : List ℕ) (is : List ValuedToken) (ts : List Token) → SayAs text is ts → says is ≡ lexemes text ts
says_same text [] [] h = refl
says_same text [] (t ∷ ts) h = absurd h
says_same text (i ∷ is) [] h = absurd h
says_same text (i ∷ is) (t ∷ ts) h =
    ap (λ z. z ∷ says is) h.0.0 ∙ ap (λ z. lexeme_of text t ∷ z) (says_same text is ts h.1)

abbrev pub until_step : Ending → Lexeme → Option (List Symbol)
until_step N.Program (a_terminal T.End) = Some []
until_step N.Braces (a_terminal T.CloseBrace) = Some []
until_step e x = after (statement_step x) (s_until e)

abbrev pub begin_step : Lexeme → Option (List Symbol)
begin_step (a_terminal T.Begin) = Some (s_until N.Program ∷ [])
begin_step _ = None

abbrev pub registers_step : Lexeme → Option (List Symbol)
registers_step (a_terminal T.Reg) = Some (s_names ∷ s_begin ∷ [])
registers_step x = begin_step x

abbrev pub scans_step : Lexeme → Option (List Symbol)
scans_step (a_terminal T.Scan) = Some (s_names ∷ s_registers ∷ [])
scans_step x = registers_step x

abbrev pub variables_step : Lexeme → Option (List Symbol)
variables_step (a_terminal T.Var) = Some (s_names ∷ s_scans ∷ [])
variables_step x = scans_step x

-- what stands in the symbol's place once this was read
abbrev pub step : Symbol → Lexeme → Option (List Symbol)
step s_program (a_terminal T.Processes) = Some (s_number ∷ s_semicolon ∷ s_variables ∷ [])
step s_number (a_number v) = Some []
step s_semicolon (a_terminal T.Semicolon) = Some []
step s_variables x = variables_step x
step s_scans x = scans_step x
step s_registers x = registers_step x
step s_begin x = begin_step x
step s_names (a_name x) = Some (s_more ∷ [])
step s_more (a_terminal T.Comma) = Some (s_names ∷ [])
step s_more (a_terminal T.Semicolon) = Some []
step s_name (a_name x) = Some []
step s_becomes (a_terminal T.Becomes) = Some []
step s_else (a_terminal T.Else) = Some []
step s_close (a_terminal T.Close) = Some []
step s_operator (a_terminal (T.Operator op)) = Some []
step s_expression x = expression_step x
step s_right x = right_step x
step s_block (a_terminal T.OpenBrace) = Some (s_until N.Braces ∷ [])
step s_statement x = statement_step x
step (s_until e) x = until_step e x
step _ _ = None

-- how many brackets the symbols close
abbrev pub opened : List Symbol → ℕ
opened [] = 0
opened (s_close ∷ st) = suc (opened st)
opened (s_until N.Braces ∷ st) = suc (opened st)
opened (_ ∷ st) = opened st

-- whether an opening bracket is one too many
abbrev pub is_full : ℕ → Lexeme → ℕ → Bool
is_full limit (a_terminal T.Open) depth = nat_eq depth limit
is_full limit (a_terminal T.OpenBrace) depth = nat_eq depth limit
is_full _ _ _ = false

abbrev pub on_stack : Option (List Symbol) → List Symbol → Option (List Symbol)
on_stack None st = None
on_stack (Some new) st = Some (new ++ st)

-- goes on with the symbols, if there are any
abbrev pub run_by : Option (List Symbol) → (List Symbol → Option (List Symbol)) → Option (List Symbol)
run_by None more = None
run_by (Some new) more = more new

-- the symbols that are left once all was read
abbrev pub run : List Lexeme → List Symbol → Option (List Symbol)
run [] st = Some st
run (x ∷ xs) [] = None
run (x ∷ xs) (s ∷ st) = run_by (on_stack (step s x) st) (run xs)

abbrev pub fault_by : Option (List Symbol) → Bool → Span → (List Symbol → Option TextFault) → Option TextFault
fault_by None full span more = Some (F.Unexpected span)
fault_by (Some new) true span more = Some (F.TooDeep span)
fault_by (Some new) false span more = more new

-- the first token that may not stand where it does
module _ (end limit : ℕ) where
  abbrev pub fault : List ValuedToken → List Symbol → Option TextFault
  fault [] [] = None
  fault [] (s ∷ st) = Some (F.Unexpected (record { start = end; end = end }))
  fault (i ∷ is) [] = Some (F.Unexpected i.span)
  fault (i ∷ is) (s ∷ st) =
      fault_by (on_stack (step s (said i)) st) (is_full limit (said i) (opened (s ∷ st))) i.span (fault is)
