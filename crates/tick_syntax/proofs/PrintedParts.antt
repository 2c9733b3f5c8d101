-- The printed tokens of statements with blocks and of sections, part by part.
use Rattle.std.proofs.Common.{◌≡◌, List, Vec, Global, [], ◌∷◌, ◌++◌, ◌∙◌, ap, refl, append_assoc}
use Rattle.std.proofs.lemmas.Grind.{flat_map-append}
use Rattle.base.specs.declared.tree.Expr.{Expr}
use Rattle.base.specs.declared.tree.Stmt.{Stmt}
use Rattle.base.specs.declared.tree.Stmt.TheVariants.{If, While}
use Rattle.tick_syntax.specs.declared.terminals.Terminal.{Terminal}
use Rattle.tick_syntax.specs.declared.terminals.Terminal.TheVariants as T
use Rattle.tick_syntax.specs.Lexeme.{a_name, a_terminal}
use Rattle.base.specs.Plain.{Name, Statement, expression_of, statement_of, block_of}
use Rattle.tick_syntax.specs.Grammar.{expression_tokens, in_braces, statement_tokens, block_tokens, names_tokens, section_tokens}
use Rattle.tick_syntax.specs.Printed.{printed_token, printed_tokens}
use Rattle.tick_syntax.specs.prover.Printing.{more_names}
use Rattle.base.proofs.Blocks.{statement_of_branch, statement_of_repeat}

-- the tokens of a statement with blocks
pub tokens_branch : (s : Stmt) (e : Expr) (a b : Vec Stmt Global) → s ≡ If e a b → printed_tokens (statement_tokens (statement_of s)) ≡ printed_token (a_terminal T.If) ++ (printed_tokens (expression_tokens (expression_of e)) ++ (printed_tokens (in_braces (block_tokens (block_of a.items))) ++ (printed_token (a_terminal T.Else) ++ printed_tokens (in_braces (block_tokens (block_of b.items))))))
tokens_branch s e a b is =
    ap (λ (x : Stmt). printed_tokens (statement_tokens (statement_of x))) is ∙ ap (λ (x : Statement Name). printed_tokens (statement_tokens x)) (statement_of_branch e a b) ∙ simp (flat_map-append, append_assoc)

pub tokens_repeat : (s : Stmt) (e : Expr) (a : Vec Stmt Global) → s ≡ While e a → printed_tokens (statement_tokens (statement_of s)) ≡ printed_token (a_terminal T.While) ++ (printed_tokens (expression_tokens (expression_of e)) ++ printed_tokens (in_braces (block_tokens (block_of a.items))))
tokens_repeat s e a is =
    ap (λ (x : Stmt). printed_tokens (statement_tokens (statement_of x))) is ∙ ap (λ (x : Statement Name). printed_tokens (statement_tokens x)) (statement_of_repeat e a) ∙ simp (flat_map-append, append_assoc)

-- names with a comma between two are the first, and each other after a comma
pub names_are : (x : Name) (xs : List Name) → names_tokens x xs ≡ a_name x ∷ more_names xs
names_are x [] = refl
names_are x (y ∷ ys) = ap (λ ts. a_name x ∷ a_terminal T.Comma ∷ ts) (names_are y ys)

pub tokens_section : (terminal : Terminal) (x : Name) (xs : List Name) → printed_tokens (section_tokens terminal (x ∷ xs)) ≡ printed_token (a_terminal terminal) ++ (printed_token (a_name x) ++ (printed_tokens (more_names xs) ++ printed_token (a_terminal T.Semicolon)))
tokens_section terminal x xs =
    ap (λ ts. printed_tokens (a_terminal terminal ∷ (ts ++ a_terminal T.Semicolon ∷ []))) (names_are x xs)
    ∙ ap (λ bytes. printed_token (a_terminal terminal) ++ (printed_token (a_name x) ++ bytes)) (flat_map-append printed_token (more_names xs) (a_terminal T.Semicolon ∷ []))
