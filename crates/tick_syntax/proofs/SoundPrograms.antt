-- What the reader reads is what the grammar has: whole programs. Where it answers a program, the tokens say
-- that program (`program_ok`); where it refuses, the symbols refuse with the same fault (`program_err`).
--
-- The idea. As in `Sound` and `Statements`, each part of a program is read as its symbols are (`Reads`):
-- names, sections, the body. `processes_front` puts these in a row, and `whole_reads` is the program. The
-- difficulty is a section that is left out: it takes no token, and `Reads` wants one taken. So
-- `section_reads` takes what is read after the section as an argument. Where there is no section, its symbol
-- takes what the symbol of the next part takes (`section_front`). Read `IsRead` and `program_ok` first, then
-- `whole_reads`.
use Rattle.std.proofs.Common.{append_assoc, map, ◌≡◌, ℕ, ◌≤◌, List, [], ◌∷◌, ◌++◌, Some, None, Ok, Err, refl, sym, ◌∙◌, ap, subst, arith, inl, inr}
use Rattle.base.specs.declared.span.Span.{Span}
use Rattle.tick_syntax.specs.declared.fault.TextFault.{TextFault}
use Rattle.tick_syntax.specs.declared.fault.TextFault.TheVariants as F
use Rattle.tick_syntax.specs.declared.valued_token.ValuedToken.{ValuedToken}
use Rattle.tick_syntax.specs.declared.valued_token.Ending.TheVariants as N
use Rattle.tick_syntax.specs.declared.valued_token.Section.{Section}
use Rattle.tick_syntax.specs.declared.valued_token.Section.TheVariants as C
use Rattle.tick_syntax.specs.declared.valued_token.Meaning.{Meaning}
use Rattle.tick_syntax.specs.declared.valued_token.Meaning.TheVariants as M
use Rattle.tick_syntax.specs.declared.terminals.Terminal.{Terminal}
use Rattle.tick_syntax.specs.declared.terminals.Terminal.TheVariants as T
use Rattle.tick_syntax.specs.Lexeme.{Lexeme, a_name, a_number, a_terminal}
use Rattle.base.specs.Plain.{Name, Block, WholeProgram}
use Rattle.tick_syntax.specs.Grammar.{block_tokens, names_tokens, section_tokens, program_tokens, second_span, block_nesting, nesting}
use Rattle.base.specs.Refusing.{◌>>=◌}
use Rattle.tick_syntax.specs.prover.Reading.{Reading, next_at, terminal_at, terminal_by, number_at, number_by, name_by, names_by, names_at, begins, section_by, section_at, statements_at, body_at, sections_at, headed_at, whole_at, program_at, nothing_after}
use Rattle.std.proofs.lemmas.List.{append-nil}
use Rattle.tick_syntax.specs.prover.ValuedTokens.{plain}
use Rattle.tick_syntax.proofs.Symbols.{said_by, said, says, Symbol, s_program, s_number, s_semicolon, s_variables, s_scans, s_registers, s_begin, s_names, s_more, s_until, fault}
use Rattle.tick_syntax.proofs.Sound.{bind_ok, bind_err, Reads, reads_bind, reads_map, refuse, accept, enter, by_next, by_next_then, stand_in, weaken, nothing_left, semicolon_one, terminal_reads}
use Rattle.tick_syntax.proofs.Statements.{statements_reads}

program_regroups : (v s r : List Lexeme) (x : Lexeme) (b : List Lexeme) (y : Lexeme) (rest : List Lexeme)
    → v ++ (s ++ (r ++ x ∷ (b ++ y ∷ rest))) ≡ (v ++ (s ++ (r ++ x ∷ (b ++ y ∷ [])))) ++ rest
program_regroups v s r x b y rest = simp append_assoc

module _ (end limit : ℕ) where
  -- one name or more, and the `;` after them
  abbrev pub AreSome : List Lexeme → List Name → List Lexeme → Type 0
  AreSome ts xs rest = (x : Name) × (ys : List Name) × (xs ≡ x ∷ ys) × (ts ≡ names_tokens x ys ++ a_terminal T.Semicolon ∷ rest)

  more_front : (room : ℕ) (x : Name) (m : Meaning) (span : Span) (rest : List ValuedToken) (more : Reading (List Name))
      → Reads end limit (s_names ∷ []) (AreSome (says rest)) room rest more
      → Reads end limit (s_more ∷ []) (AreSome (a_name x ∷ said_by m span ∷ says rest)) room
      (record { meaning = m; span = span } ∷ rest) (names_by end m span rest x more)
  more_front room x (M.Terminal T.Comma) span rest more h =
      enter end limit _ _ room room _ span rest _ _ refl (λ st o. (refl, o))
      (reads_map end limit (s_names ∷ []) _ _ room rest more (λ xs. x ∷ xs) h
      (λ xs r d. (x, d.0 ∷ d.1, ap (λ z. x ∷ z) d.2, ap (λ z. a_name x ∷ a_terminal T.Comma ∷ z) d.3)))
  more_front room x (M.Terminal T.Semicolon) span rest more h = accept end limit _ _ room _ span rest _ refl (λ st. refl) (x, [], refl, refl)
  more_front room x m span rest more h = refuse end limit _ _ room m span rest refl

  one_name : (room : ℕ) (m : Meaning) (span : Span)
      → Reads end limit (s_names ∷ []) (AreSome (said_by m span ∷ [])) room (record { meaning = m; span = span } ∷ [])
      (name_by m span [] >>= λ x. next_at end [] >>= λ y. Ok ([], y.1))
  unfolding next_at
  one_name room (M.Name letters) span = enter end limit _ _ room room _ span [] (s_more ∷ []) _ refl (λ st o. (refl, o)) (nothing_left end limit s_more _ room)
  one_name room m span = refuse end limit _ _ room m span [] refl

  two_names : (room : ℕ) (m : Meaning) (span : Span) (j : ValuedToken) (is : List ValuedToken)
      → Reads end limit (s_names ∷ []) (AreSome (says is)) room is (names_at end is)
      → Reads end limit (s_names ∷ []) (AreSome (said_by m span ∷ said j ∷ says is)) room (record { meaning = m; span = span } ∷ j ∷ is)
      (name_by m span is >>= λ x. names_by end j.meaning j.span is x.0 (names_at end is))
  two_names room (M.Name letters) span j is h = enter end limit _ _ room room _ span (j ∷ is) (s_more ∷ []) _ refl (λ st o. (refl, o))
      (more_front room _ j.meaning j.span is _ h)
  two_names room m span j is h = refuse end limit _ _ room m span (j ∷ is) refl

  names_reads : (room : ℕ) (is : List ValuedToken) → Reads end limit (s_names ∷ []) (AreSome (says is)) room is (names_at end is)
  unfolding names_at next_at
  names_reads room [] = nothing_left end limit s_names _ room
  names_reads room (i ∷ []) = one_name room i.meaning i.span
  names_reads room (i ∷ j ∷ is) = two_names room i.meaning i.span j is (names_reads room is)

  abbrev section_symbol : Section → Symbol
  section_symbol C.Variables = s_variables
  section_symbol C.Scans = s_scans
  section_symbol C.Registers = s_registers

  abbrev after_section : Section → Symbol
  after_section C.Variables = s_scans
  after_section C.Scans = s_registers
  after_section C.Registers = s_begin

  abbrev section_terminal : Section → Terminal
  section_terminal C.Variables = T.Var
  section_terminal C.Scans = T.Scan
  section_terminal C.Registers = T.Reg

  declared : (terminal : Terminal) (ts : List Lexeme) (xs : List Name) (rest : List Lexeme) → AreSome ts xs rest
      → a_terminal terminal ∷ ts ≡ section_tokens terminal xs ++ rest
  declared terminal ts xs rest d =
      subst (λ z. a_terminal terminal ∷ ts ≡ section_tokens terminal z ++ rest) (sym d.2)
      (ap (λ z. a_terminal terminal ∷ z) (d.3 ∙ sym (append_assoc (names_tokens d.0 d.1) (a_terminal T.Semicolon ∷ []) rest)))

  section_front : {V : Type 0} (room : ℕ) (section : Section) (Q : V → List Lexeme → Type 0) (F : List Name × List ValuedToken → Reading V)
      (m : Meaning) (span : Span) (rest : List ValuedToken)
      → ((x : List Name × List ValuedToken) → said_by m span ∷ says rest ≡ section_tokens (section_terminal section) x.0 ++ says x.1
      → Reads end limit (after_section section ∷ []) Q room x.1 (F x))
      → Reads end limit (section_symbol section ∷ []) Q room (record { meaning = m; span = span } ∷ rest)
      (section_by end (begins section m) (record { meaning = m; span = span } ∷ rest) rest >>= F)
  section_front room C.Variables Q F (M.Terminal T.Var) span rest h =
      enter end limit _ Q room room _ span rest (s_names ∷ s_scans ∷ []) _ refl (λ st o. (refl, o))
      (reads_bind end limit (s_names ∷ []) (s_scans ∷ []) _ Q room rest _ F (λ st. refl) (names_reads room rest)
      (λ x d. h x (declared T.Var (says rest) x.0 (says x.1) d)))
  section_front room C.Scans Q F (M.Terminal T.Scan) span rest h =
      enter end limit _ Q room room _ span rest (s_names ∷ s_registers ∷ []) _ refl (λ st o. (refl, o))
      (reads_bind end limit (s_names ∷ []) (s_registers ∷ []) _ Q room rest _ F (λ st. refl) (names_reads room rest)
      (λ x d. h x (declared T.Scan (says rest) x.0 (says x.1) d)))
  section_front room C.Registers Q F (M.Terminal T.Reg) span rest h =
      enter end limit _ Q room room _ span rest (s_names ∷ s_begin ∷ []) _ refl (λ st o. (refl, o))
      (reads_bind end limit (s_names ∷ []) (s_begin ∷ []) _ Q room rest _ F (λ st. refl) (names_reads room rest)
      (λ x d. h x (declared T.Reg (says rest) x.0 (says x.1) d)))
  section_front room section Q F m span rest h =
      let is : List ValuedToken = record { meaning = m; span = span } ∷ rest in
      stand_in end limit (section_symbol section) (after_section section ∷ []) Q room is _ (λ st. refl) (λ st. refl) (h ([], is) refl)

  section_reads : {V : Type 0} (room : ℕ) (section : Section) (Q : V → List Lexeme → Type 0) (F : List Name × List ValuedToken → Reading V) (is : List ValuedToken)
      → ((x : List Name × List ValuedToken) → says is ≡ section_tokens (section_terminal section) x.0 ++ says x.1
      → Reads end limit (after_section section ∷ []) Q room x.1 (F x))
      → Reads end limit (section_symbol section ∷ []) Q room is (section_at end section is >>= F)
  unfolding section_at next_at
  section_reads room section Q F [] h = nothing_left end limit (section_symbol section) Q room
  section_reads room section Q F (i ∷ is) h = section_front room section Q F i.meaning i.span is h

  -- `begin`, a block and `end`
  abbrev pub IsBody : ℕ → List Lexeme → Block Name → List Lexeme → Type 0
  IsBody room ts b rest = (ts ≡ a_terminal T.Begin ∷ (block_tokens b ++ a_terminal T.End ∷ rest)) × (block_nesting b ≤ room)

  begin_front : (room : ℕ) (m : Meaning) (span : Span) (rest : List ValuedToken)
      → Reads end limit (s_begin ∷ []) (IsBody room (said_by m span ∷ says rest)) room (record { meaning = m; span = span } ∷ rest)
      (terminal_by T.Begin m span rest >>= λ b. statements_at end room N.Program b.1)
  begin_front room (M.Terminal T.Begin) span rest = enter end limit _ _ room room _ span rest (s_until N.Program ∷ []) _ refl (λ st o. (refl, o))
      (weaken end limit _ _ _ room rest _ (statements_reads end limit room N.Program rest) (λ b r d. (ap (λ z. a_terminal T.Begin ∷ z) d.0, d.1)))
  begin_front room m span rest = refuse end limit _ _ room m span rest refl

  body_reads : (room : ℕ) (is : List ValuedToken) → Reads end limit (s_begin ∷ []) (IsBody room (says is)) room is (body_at end room is)
  unfolding body_at terminal_at
  body_reads room is = by_next_then end limit s_begin (λ js. IsBody room (says js)) room (terminal_by T.Begin) (λ b. statements_at end room N.Program b.1) (begin_front room) is

  -- a number, and where it stands if one token is before it
  abbrev IsNumber : List ValuedToken → ℕ × Span → List Lexeme → Type 0
  IsNumber is v rest = (says is ≡ a_number v.0 ∷ rest) × ((i : ValuedToken) → second_span (map plain (i ∷ is)) ≡ v.1)

  number_front : (room : ℕ) (m : Meaning) (span : Span) (rest : List ValuedToken)
      → Reads end limit (s_number ∷ []) (IsNumber (record { meaning = m; span = span } ∷ rest)) room
      (record { meaning = m; span = span } ∷ rest) (number_by m span rest)
  number_front room (M.Number v) span rest = accept end limit _ _ room _ span rest _ refl (λ st. refl) (refl, λ i. refl)
  number_front room m span rest = refuse end limit _ _ room m span rest refl

  number_reads : (room : ℕ) (is : List ValuedToken) → Reads end limit (s_number ∷ []) (IsNumber is) room is (number_at end is)
  unfolding number_at
  number_reads room is = by_next end limit s_number IsNumber room number_by (number_front room) is

  -- a program and what follows it
  abbrev pub IsProgram : ℕ → List ValuedToken → WholeProgram Name → List Lexeme → Type 0
  IsProgram room is p rest =
      (says is ≡ program_tokens p ++ rest) × (second_span (map plain is) ≡ p.span) × (nesting p ≤ room)

  abbrev made : ℕ × Span → List Name → List Name → List Name → Block Name → WholeProgram Name
  made n variables scans registers body =
      record { processes = n.0; span = n.1; variables = variables; scans = scans; registers = registers; body = body }

  abbrev after_processes : ℕ → Unit {0} × List ValuedToken → Reading (WholeProgram Name)
  after_processes room p =
      number_at end p.1 >>= λ n. terminal_at end T.Semicolon n.1 >>= λ s. section_at end C.Variables s.1
      >>= λ variables. section_at end C.Scans variables.1 >>= λ scans. section_at end C.Registers scans.1
      >>= λ registers. body_at end room registers.1 >>= λ body. Ok (made n.0 variables.0 scans.0 registers.0 body.0, body.1)

  processes_front : (room : ℕ) (m : Meaning) (span : Span) (rest : List ValuedToken)
      → Reads end limit (s_program ∷ []) (IsProgram room (record { meaning = m; span = span } ∷ rest)) room (record { meaning = m; span = span } ∷ rest)
      (terminal_by T.Processes m span rest >>= after_processes room)
  processes_front room (M.Terminal T.Processes) span rest =
      let first : ValuedToken = record { meaning = M.Terminal T.Processes; span = span } in
      let Q : WholeProgram Name → List Lexeme → Type 0 = IsProgram room (first ∷ rest) in
      enter end limit _ Q room room _ span rest (s_number ∷ s_semicolon ∷ s_variables ∷ []) _ refl (λ st o. (refl, o))
      (reads_bind end limit (s_number ∷ []) (s_semicolon ∷ s_variables ∷ []) _ Q room rest _ _ (λ st. refl) (number_reads room rest) (λ n dn.
      reads_bind end limit (s_semicolon ∷ []) (s_variables ∷ []) _ Q room n.1 _ _ (λ st. refl)
      (terminal_reads end limit s_semicolon T.Semicolon (semicolon_one end limit) room n.1) (λ s ds.
      section_reads room C.Variables Q _ s.1 (λ variables dv.
      section_reads room C.Scans Q _ variables.1 (λ scans dc.
      section_reads room C.Registers Q _ scans.1 (λ registers dr.
      reads_map end limit (s_begin ∷ []) _ Q room registers.1 _ (λ body. made n.0 variables.0 scans.0 registers.0 body) (body_reads room registers.1) (λ body tail db. (
        ap (λ z. a_terminal T.Processes ∷ z) (dn.0 ∙ ap (λ z. a_number n.0.0 ∷ z) (ds ∙ ap (λ z. a_terminal T.Semicolon ∷ z)
            (dv ∙ ap (λ z. section_tokens T.Var variables.0 ++ z) (dc ∙ ap (λ z. section_tokens T.Scan scans.0 ++ z) (dr ∙ ap (λ z. section_tokens T.Reg registers.0 ++ z) db.0))
            ∙ program_regroups (section_tokens T.Var variables.0) (section_tokens T.Scan scans.0) (section_tokens T.Reg registers.0)
            (a_terminal T.Begin) (block_tokens body) (a_terminal T.End) tail))),
        dn.1 first,
        db.1,
      ))))))))
  processes_front room m span rest = refuse end limit _ _ room m span rest refl

  pub whole_reads : (room : ℕ) (is : List ValuedToken) → Reads end limit (s_program ∷ []) (IsProgram room is) room is (whole_at end room is)
  unfolding whole_at headed_at sections_at terminal_at
  whole_reads room is = by_next_then end limit s_program (IsProgram room) room (terminal_by T.Processes) (after_processes room) (processes_front room) is

-- what the reader answers, for whatever limit on the brackets
module _ (end room : ℕ) where
  at_end : (p : WholeProgram Name) (is : List ValuedToken) (q : WholeProgram Name) → nothing_after end p is ≡ Ok q
      → (p ≡ q) × (is ≡ []) × (fault end room is [] ≡ None)
  at_end p [] q h = (cc, refl, refl)
  at_end p (i ∷ is) q h = absurd (cc)

  past_end : (p : WholeProgram Name) (is : List ValuedToken) (e : TextFault) → nothing_after end p is ≡ Err e → fault end room is [] ≡ Some e
  past_end p [] e h = absurd (cc)
  past_end p (i ∷ is) e h = let k : F.Unexpected i.span ≡ e = cc in ap Some k

  -- what the tokens are where the reader answers a program
  pub record IsRead (is : List ValuedToken) (p : WholeProgram Name) : Type 0 where
    pub says_it : says is ≡ program_tokens p
    pub stands : second_span (map plain is) ≡ p.span
    pub shallow : nesting p ≤ room
    pub none : fault end room is (s_program ∷ []) ≡ None

  pub program_ok : (is : List ValuedToken) (p : WholeProgram Name) → program_at end room is ≡ Ok p → IsRead is p
  unfolding program_at
  program_ok is p h =
      let b = bind_ok (whole_at end room is) (λ x. nothing_after end x.0 x.1) p h in
      let r = whole_reads end room room is in
      let a = at_end b.0.0 b.0.1 p b.2 in
      let d : IsProgram end room room is b.0.0 (says b.0.1) = r.found b.0 b.1 in
      let g : fault end room is (s_program ∷ []) ≡ fault end room b.0.1 [] = r.goes b.0 b.1 [] (omega arith) in
      subst (IsRead is) a.0 (record {
        says_it = d.0 ∙ ap (λ z. program_tokens b.0.0 ++ says z) a.1 ∙ append-nil (program_tokens b.0.0);
        stands = d.1;
        shallow = d.2;
        none = g ∙ a.2;
      })

  pub program_err : (is : List ValuedToken) (e : TextFault) → program_at end room is ≡ Err e → fault end room is (s_program ∷ []) ≡ Some e
  unfolding program_at
  program_err is e h =
      let r = whole_reads end room room is in
      elim (bind_err (whole_at end room is) (λ x. nothing_after end x.0 x.1) e h) [
        | inl b ↦ r.stops e b [] (omega arith)
        | inr b ↦ r.goes b.0 b.1 [] (omega arith) ∙ past_end b.0.0 b.0.1 e b.2
      ]
