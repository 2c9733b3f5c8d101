-- What of a program does not turn on its spans: its printed form, and how deep its brackets stand.
use Rattle.std.proofs.Common.{◌≡◌, ℕ, List, [], ◌∷◌, ◌++◌, map, refl, sym, ap, ◌∙◌}
use Rattle.std.proofs.lemmas.List.{map-append}
use Rattle.tick_syntax.specs.declared.terminals.Terminal.{Terminal}
use Rattle.tick_syntax.specs.declared.terminals.Terminal.TheVariants as T
use Rattle.tick_syntax.specs.Lexeme.{Lexeme, a_name, a_number, a_terminal, nothing}
use Rattle.base.specs.Plain.{nowhere, Name, map_block, WholeProgram, without_spans}
use Rattle.tick_syntax.specs.Grammar.{names_tokens, section_tokens, program_tokens, nesting}
use Rattle.tick_syntax.specs.Printed.{printed_token, printed_tokens, printed}
use Rattle.tick_syntax.proofs.Spanless.{letters_of, spanless, spanless_all}
use Rattle.tick_syntax.proofs.Statements.{block_as_deep, name_at_none, block_plain}

pub same_nesting : (p q : WholeProgram Name) → without_spans p ≡ without_spans q → nesting p ≡ nesting q
same_nesting p q same =
    sym (block_as_deep letters_of p.body) ∙ ap (λ (w : WholeProgram (List ℕ)). nesting w) same ∙ block_as_deep letters_of q.body

names_plain : (x : Name) (xs : List Name) → spanless_all (names_tokens x xs) ≡ names_tokens (name_at_none x.letters) (map name_at_none (map letters_of xs))
names_plain x [] = refl
names_plain x (y ∷ ys) = ap (λ ts. a_name (name_at_none x.letters) ∷ a_terminal T.Comma ∷ ts) (names_plain y ys)

section_plain : (terminal : Terminal) (xs : List Name) → spanless_all (section_tokens terminal xs) ≡ section_tokens terminal (map name_at_none (map letters_of xs))
section_plain terminal [] = refl
section_plain terminal (x ∷ xs) = simp (map-append, names_plain x xs)

abbrev pub program_at_none : WholeProgram (List ℕ) → WholeProgram Name
program_at_none w = record {
  processes = w.processes;
  span = nowhere;
  variables = map name_at_none w.variables;
  scans = map name_at_none w.scans;
  registers = map name_at_none w.registers;
  body = map_block name_at_none w.body;
}

pub program_plain : (p : WholeProgram Name) → spanless_all (program_tokens p) ≡ program_tokens (program_at_none (without_spans p))
program_plain p =
    simp (map-append, section_plain T.Var p.variables, section_plain T.Scan p.scans, section_plain T.Reg p.registers, block_plain p.body)

-- tokens are printed without regard to their spans
token_plain : (t : Lexeme) → printed_token (spanless t) ≡ printed_token t
token_plain (a_name x) = refl
token_plain (a_number v) = refl
token_plain (a_terminal w) = refl
token_plain nothing = refl

tokens_plain : (ts : List Lexeme) → printed_tokens (spanless_all ts) ≡ printed_tokens ts
tokens_plain [] = refl
tokens_plain (t ∷ ts) =
    ap (λ bytes. bytes ++ printed_tokens (spanless_all ts)) (token_plain t) ∙ ap (λ bytes. printed_token t ++ bytes) (tokens_plain ts)

printed_plain : (p : WholeProgram Name) → printed p ≡ printed (program_at_none (without_spans p))
printed_plain p = sym (tokens_plain (program_tokens p)) ∙ ap printed_tokens (program_plain p)

pub same_printed : (p q : WholeProgram Name) → without_spans p ≡ without_spans q → printed p ≡ printed q
same_printed p q same =
    printed_plain p ∙ ap (λ (w : WholeProgram (List ℕ)). printed (program_at_none w)) same ∙ sym (printed_plain q)
