-- What the grammar has the reader reads: whole programs (`program_takes`). As `Takes` does it for expressions and
-- `Statements` for statements: names, sections and the body are taken from the front, one after the other.
--
-- One thing can't be read off the tree: a section that is left out is skipped, since what follows it begins with
-- another terminal (`IsLater`).
use Rattle.std.proofs.Common.{append_assoc, map, ◌≡◌, ℕ, suc, ◌≤◌, false, List, [], ◌∷◌, ◌++◌, length, Ok, Bor, refl, sym, ◌∙◌, ap, arith}
use Rattle.base.specs.declared.span.Span.{Span}
use Rattle.tick_syntax.specs.declared.valued_token.ValuedToken.{ValuedToken}
use Rattle.tick_syntax.specs.declared.valued_token.Ending.TheVariants as N
use Rattle.tick_syntax.specs.declared.valued_token.Section.{Section}
use Rattle.tick_syntax.specs.declared.valued_token.Section.TheVariants as C
use Rattle.tick_syntax.specs.declared.valued_token.Meaning.TheVariants as M
use Rattle.tick_syntax.specs.declared.terminals.Terminal.{Terminal}
use Rattle.tick_syntax.specs.declared.terminals.Terminal.TheVariants as T
use Rattle.tick_syntax.specs.Lexeme.{Lexeme, a_terminal}
use Rattle.base.specs.Plain.{Name, Block, WholeProgram}
use Rattle.tick_syntax.specs.Grammar.{block_tokens, names_tokens, section_tokens, program_tokens, second_span, nesting}
use Rattle.base.specs.Refusing.{◌>>=◌}
use Rattle.tick_syntax.specs.prover.ValuedTokens.{plain}
use Rattle.tick_syntax.specs.prover.Reading.{next_at, terminal_at, number_at, statement_at, statements_with, statements_at, names_at, begins, section_by, section_at, body_at, sections_at, headed_at, whole_at, program_at}
use Rattle.tick_syntax.proofs.Symbols.{says}
use Rattle.tick_syntax.proofs.Takes.{token, terminal_in, number_in, name_in, Takes, terminal_gives, terminal_takes, number_gives}
use Rattle.tick_syntax.proofs.Statements.{list_takes}

module _ (end : ℕ) where
  names_last_gives : (l : Bor (List ℕ)) (s t : Span) (js : List ValuedToken)
      → names_at end (token (M.Name l) s ∷ token (M.Terminal T.Semicolon) t ∷ js) ≡ Ok
      (record { letters = l.now; span = s } ∷ [], js)
  unfolding names_at
  names_last_gives l s t js = refl

  names_more_gives : (l : Bor (List ℕ)) (s t : Span) (js r : List ValuedToken) (xs : List Name)
      → names_at end js ≡ Ok (xs, r)
      → names_at end (token (M.Name l) s ∷ token (M.Terminal T.Comma) t ∷ js) ≡ Ok
      (record { letters = l.now; span = s } ∷ xs, r)
  unfolding names_at
  names_more_gives l s t js r xs h = ap (λ z. z >>= λ ys. Ok (record { letters = l.now; span = s } ∷ ys.0, ys.1)) h

  names_take : (x : Name) (xs : List Name) (is : List ValuedToken) (rest : List Lexeme)
      → says is ≡ names_tokens x xs ++ a_terminal T.Semicolon ∷ rest → Takes end (names_at end is) (x ∷ xs) rest
  names_take x [] is rest d =
      let n = name_in x is _ d in
      let w = terminal_in T.Semicolon n.2 rest n.3 in (
        w.1,
        w.2,
        ap (names_at end) (n.5 ∙ ap (λ z. token (M.Name n.0) n.1 ∷ z) w.3) ∙ names_last_gives n.0 n.1 w.0 w.1
            ∙ ap (λ z. Ok (z ∷ [], w.1)) n.4,
      )
  names_take x (y ∷ ys) is rest d =
      let n = name_in x is _ d in
      let w = terminal_in T.Comma n.2 _ n.3 in
      let r = names_take y ys w.1 rest w.2 in (
        r.0,
        r.1,
        ap (names_at end) (n.5 ∙ ap (λ z. token (M.Name n.0) n.1 ∷ z) w.3)
            ∙ names_more_gives n.0 n.1 w.0 w.1 r.0 (y ∷ ys) r.2 ∙ ap (λ z. Ok (z ∷ y ∷ ys, r.0)) n.4,
      )

  abbrev terminal_of_section : Section → Terminal
  terminal_of_section C.Variables = T.Var
  terminal_of_section C.Scans = T.Scan
  terminal_of_section C.Registers = T.Reg

  -- what begins with a terminal that begins no such section
  abbrev IsLater : Section → List Lexeme → Type 0
  IsLater section ts = (w : Terminal) × (t : List Lexeme) × (ts ≡ a_terminal w ∷ t) ×
      (begins section (M.Terminal w) ≡ false)

  section_skips : (section : Section) (w : Terminal) (span : Span) (js : List ValuedToken)
      → begins section (M.Terminal w) ≡ false
      → section_at end section (token (M.Terminal w) span ∷ js) ≡ Ok ([], token (M.Terminal w) span ∷ js)
  unfolding section_at next_at
  section_skips section w span js h = ap (λ z. section_by end z (token (M.Terminal w) span ∷ js) js) h

  section_names : (section : Section) (span : Span) (js : List ValuedToken)
      → section_at end section (token (M.Terminal (terminal_of_section section)) span ∷ js) ≡ names_at end js
  unfolding section_at next_at
  section_names C.Variables span js = refl
  section_names C.Scans span js = refl
  section_names C.Registers span js = refl

  section_takes : (section : Section) (xs : List Name) (is : List ValuedToken) (rest : List Lexeme)
      → says is ≡ section_tokens (terminal_of_section section) xs ++ rest → IsLater section rest
      → Takes end (section_at end section is) xs rest
  section_takes section [] is rest d l =
      let w = terminal_in l.0 is l.1 (d ∙ l.2) in
      (is, d, ap (section_at end section) w.3 ∙ section_skips section l.0 w.0 w.1 l.3 ∙ ap (λ z. Ok ([], z)) (sym w.3))
  section_takes section (x ∷ xs) is rest d l =
      let w = terminal_in (terminal_of_section section) is _ d in
      let n = names_take x xs w.1 rest (w.2 ∙ append_assoc (names_tokens x xs) (a_terminal T.Semicolon ∷ []) rest) in
      (n.0, n.1, ap (section_at end section) w.3 ∙ section_names section w.0 w.1 ∙ n.2)

  later_than : (section : Section) (w : Terminal) (xs : List Name) (rest : List Lexeme)
      → begins section (M.Terminal w) ≡ false → IsLater section rest → IsLater section (section_tokens w xs ++ rest)
  later_than section w [] rest b l = l
  later_than section w (x ∷ xs) rest b l = (w, _, refl, b)

  body_gives : (room : ℕ) (is p q : List ValuedToken) (b : Block Name)
      → terminal_at end T.Begin is ≡ Ok (tt, p) → statements_with end (statement_at end room) N.Program
      (suc (length p)) p ≡ Ok (b, q)
      → body_at end room is ≡ Ok (b, q)
  unfolding body_at statements_at
  body_gives room is p q b h k = rw (h, k) refl

  whole_gives : (room : ℕ) (is i1 i2 i3 i4 i5 i6 i7 : List ValuedToken) (p : WholeProgram Name)
      → terminal_at end T.Processes is ≡ Ok (tt, i1) → number_at end i1 ≡ Ok ((p.processes, p.span), i2)
      → terminal_at end T.Semicolon i2 ≡ Ok (tt, i3)
      → section_at end C.Variables i3 ≡ Ok (p.variables, i4) → section_at end C.Scans i4 ≡ Ok (p.scans, i5)
      → section_at end C.Registers i5 ≡ Ok (p.registers, i6) → body_at end room i6 ≡ Ok (p.body, i7)
      → whole_at end room is ≡ Ok (p, i7)
  unfolding whole_at headed_at sections_at
  whole_gives room is i1 i2 i3 i4 i5 i6 i7 p a b c d e f g = rw (a, b, c, d, e, f, g) refl

  finishes : (room : ℕ) (is r : List ValuedToken) (p : WholeProgram Name) → whole_at end room is ≡ Ok (p, r)
      → says r ≡ [] → program_at end room is ≡ Ok p
  unfolding program_at
  finishes room is [] p h e = rw h refl
  finishes room is (i ∷ r) p h e = absurd (cc)

  pub program_takes : (room : ℕ) (p : WholeProgram Name) (is : List ValuedToken) → says is ≡ program_tokens p
      → second_span (map plain is) ≡ p.span → nesting p ≤ room → program_at end room is ≡ Ok p
  program_takes room p is d place n =
      let last : List Lexeme = a_terminal T.Begin ∷ (block_tokens p.body ++ a_terminal T.End ∷ []) in
      let registers : List Lexeme = section_tokens T.Reg p.registers ++ last in
      let lr : IsLater C.Registers last = (T.Begin, _, refl, refl) in
      let ls : IsLater C.Scans registers = later_than C.Scans T.Reg p.registers last refl (T.Begin, _, refl, refl) in
      let lv : IsLater C.Variables (section_tokens T.Scan p.scans ++ registers) =
      later_than C.Variables T.Scan p.scans registers refl
      (later_than C.Variables T.Reg p.registers last refl (T.Begin, _, refl, refl)) in
      let i1 = terminal_in T.Processes is _ d in
      let i2 = number_in p.processes i1.1 _ i1.2 in
      let i3 = terminal_takes end T.Semicolon (λ span js. refl) i2.1 _ i2.2 in
      let i4 = section_takes C.Variables p.variables i3.0 _ i3.1 lv in
      let i5 = section_takes C.Scans p.scans i4.0 _ i4.1 ls in
      let i6 = section_takes C.Registers p.registers i5.0 _ i5.1 lr in
      let i7 = terminal_takes end T.Begin (λ span js. refl) i6.0 _ i6.1 in
      let i8 = list_takes end room N.Program p.body (suc (length i7.0)) i7.0 [] i7.1 n (omega arith) in
      let first : terminal_at end T.Processes is ≡ Ok (tt, i1.1) = ap (terminal_at end T.Processes) i1.3
      ∙ terminal_gives end T.Processes (λ span js. refl) i1.0 i1.1 in
      let stands : i2.0 ≡ p.span =
      sym (ap (λ z. second_span (map plain z)) (i1.3 ∙ ap (λ z. token (M.Terminal T.Processes) i1.0 ∷ z) i2.3))
      ∙ place in
      let second : number_at end i1.1 ≡ Ok ((p.processes, p.span), i2.1) =
      ap (number_at end) i2.3 ∙ number_gives end p.processes i2.0 i2.1 ∙ ap (λ z. Ok ((p.processes, z), i2.1)) stands in
      finishes room is i8.0 p (whole_gives room is i1.1 i2.1 i3.0 i4.0 i5.0 i6.0 i8.0 p first second i3.2 i4.2 i5.2 i6.2
      (body_gives room i6.0 i7.0 i8.0 p.body i7.2 i8.2)) i8.1
