-- One line more, and the header before all lines.
-- The idea. Lines are written and read one after another, and a further line stands at the end of those before it
-- (`lines_more`, by induction over them). So a loop that writes goes on by `written_more`, and one that reads by
-- `read_more`. What reads stops at a bad line (`bad_line`), or has read the whole text (`text_read`). `header_added` puts a
-- header together from two pairs of sizes.
-- Read `lines_more` first, then `read_more` and `text_read`.
use Rattle.std.proofs.Common.{codes, Result, Ok, Err, MatchOption, OnOk, is_ok, if◌then◌else◌, ◌≡◌, ℕ, zero, suc, false, ◌+◌, ◌<◌, List, [], ◌∷◌, ◌++◌, length, take, refl, ap, ◌∙◌, sym, arith, append_assoc, length-append, subst, Option, Some, None}
use Rattle.std.specs.Prelude.{◌==◌, slice_get}
use Rattle.std.specs.Borrow.{Bor}
use Rattle.std.proofs.lemmas.List.{append-nil, take_more}
use Rattle.std.proofs.lemmas.Option.{slice_get_within, get_or_from_slice_get}
use Rattle.base.specs.Lines.{line_end}
use Rattle.code_core.specs.declared.instr.Instr.{Instr}
use Rattle.std.specs.Fmt.{decimal}
use Rattle.code_core.specs.Instructions.{CodeSizes, AreSizes}
use Rattle.code_text.specs.CodeText.{header_line, instr_text, instr_line, code_lines, IsIn, MayStand, AllMayStand, IsVersion, IsTextOf, HasBadLine}
use Rattle.code_text.specs.prover.Guess.{guess, Follows, FollowsHeader}
use Rattle.code_text.proofs.Guessing.{no_line}

pub lines_more : (is : List Instr) (i : Instr) → code_lines (is ++ i ∷ []) ≡ code_lines is ++ instr_line i
lines_more [] i = append-nil (instr_line i)
lines_more (j ∷ is) i = ap (λ x. instr_line j ++ x) (lines_more is i) ∙ sym (append_assoc (instr_line j) (code_lines is) (instr_line i))

pub may_more : (version : ℕ) (is : List Instr) (i : Instr) → AllMayStand version is → MayStand version i → AllMayStand version (is ++ i ∷ [])
may_more version [] i all may = (may, tt)
may_more version (j ∷ is) i all may = (all.0, may_more version is i all.1 may)

pub written_more : (is : List Instr) (k : ℕ) (i : Instr) → slice_get is k ≡ Some i → code_lines (take (k + 1) is) ≡ code_lines (take k is) ++ instr_line i
written_more is k i here =
    ap code_lines (take_more is k i (slice_get_within is k i here) ∙ ap (λ j. take k is ++ j ∷ []) (get_or_from_slice_get is k i i here))
    ∙ lines_more (take k is) i

-- a line more was read
pub read_more : (is : List Instr) (i : Instr) (rest more text : List ℕ) → code_lines is ++ rest ≡ text → instr_line i ++ more ≡ rest
    → code_lines (is ++ i ∷ []) ++ more ≡ text
read_more is i rest more text so_far here =
    ap (λ x. x ++ more) (lines_more is i) ∙ append_assoc (code_lines is) (instr_line i) more ∙ ap (λ x. code_lines is ++ x) here ∙ so_far

pub shorter : (i : Instr) (more rest : List ℕ) → instr_line i ++ more ≡ rest → length more < length rest
shorter i more rest here =
    omega (arith, ap length here, length-append (instr_line i) more, length-append (instr_text i) line_end)

-- the version lacks what was guessed, or its line does not stand there
pub bad_line : (version : ℕ) (is : List Instr) (rest text : List ℕ) → AllMayStand version is → code_lines is ++ rest ≡ text → 0 < length rest
    → (IsIn version (guess rest) → (more : List ℕ) → instr_line (guess rest) ++ more ≡ rest → ⊥) → HasBadLine version (length is) text
bad_line version is rest text lines so_far some not_this = record {
  good = is;
  lines = lines;
  rest = rest;
  some = some;
  spelled = so_far;
  bad = no_line version rest not_this;
  line = refl;
}

pub not_empty : (n : ℕ) → (n == 0) ≡ false → 0 < n
not_empty zero e = absurd (cc)
not_empty (suc n) e = omega arith

pub follows_some : (version : ℕ) (i : Instr) (text : List ℕ) (found : Option (Bor (List ℕ))) (rest : Bor (List ℕ)) → found ≡ Some rest
    → Follows version i text found → Follows version i text (Some rest)
follows_some version i text found rest is follows = subst (Follows version i text) is follows

-- no line follows, in the words of the line that was guessed
pub none_follows : (version : ℕ) (i j : Instr) (text : List ℕ) (found : Option (Bor (List ℕ))) → ((rest : Bor (List ℕ)) → found ≡ Some rest → ⊥)
    → i ≡ j → Follows version i text found → IsIn version j → (more : List ℕ) → instr_line j ++ more ≡ text → ⊥
none_follows version i j text None not same follows = subst (λ k. Follows version k text None) same follows
none_follows version i j text (Some rest) not same follows = absurd (not rest refl)

regrouped : (o w p v s r b e : List ℕ) → ((((o ++ w) ++ (p ++ b ++ v)) ++ b) ++ (s ++ b ++ r)) ++ e ≡ o ++ (w ++ (p ++ b ++ v ++ b ++ s ++ b ++ r ++ e))
regrouped o w p v s r b e = simp append_assoc

-- the header was added, in two pairs of sizes
pub header_added : {E : Type 0} (result : Result (Unit {0}) E) (old front pair space other new : List ℕ) (version : ℕ) (z : CodeSizes)
    → front ≡ old ++ (codes "tickcode " ++ decimal version ++ codes " ")
    → pair ≡ front ++ (decimal z.processes ++ codes " " ++ decimal z.variables)
    → space ≡ pair ++ codes " "
    → other ≡ space ++ (decimal z.scans ++ codes " " ++ decimal z.rows)
    → new ≡ (if is_ok result then other ++ line_end else other)
    → OnOk result (new ≡ old ++ header_line version z)
header_added (Err e) old front pair space other new version z a b c d last = tt
header_added (Ok u) old front pair space other new version z a b c d last =
    last
    ∙ ap (λ x. x ++ line_end) d
    ∙ ap (λ x. (x ++ (decimal z.scans ++ codes " " ++ decimal z.rows)) ++ line_end) c
    ∙ ap (λ x. ((x ++ codes " ") ++ (decimal z.scans ++ codes " " ++ decimal z.rows)) ++ line_end) b
    ∙ ap (λ x. (((x ++ (decimal z.processes ++ codes " " ++ decimal z.variables)) ++ codes " ") ++ (decimal z.scans ++ codes " " ++ decimal z.rows)) ++ line_end) a
    ∙ regrouped old (codes "tickcode " ++ decimal version ++ codes " ") (decimal z.processes) (decimal z.variables) (decimal z.scans) (decimal z.rows) (codes " ") line_end

module _ (version : ℕ) (z : CodeSizes) (text : List ℕ) where
  pub follows_header : (front : List ℕ) (found : Option (Bor (List ℕ))) → front ≡ header_line version z
      → MatchOption found ((more : List ℕ) → front ++ more ≡ text → ⊥) (λ rest. front ++ rest.now ≡ text) → FollowsHeader version z text found
  follows_header front None same follows = λ more is. follows more (ap (λ x. x ++ more) same ∙ is)
  follows_header front (Some rest) same follows = ap (λ x. x ++ rest.now) (sym same) ∙ follows

  pub no_header_follows : (found : Option (Bor (List ℕ))) → ((rest : Bor (List ℕ)) → found ≡ Some rest → ⊥)
      → FollowsHeader version z text found → (more : List ℕ) → header_line version z ++ more ≡ text → ⊥
  no_header_follows None not follows = follows
  no_header_follows (Some rest) not follows = absurd (not rest refl)

  pub header_follows : (found : Option (Bor (List ℕ))) (rest : Bor (List ℕ)) → found ≡ Some rest → FollowsHeader version z text found
      → header_line version z ++ rest.now ≡ text
  header_follows found rest is follows = subst (FollowsHeader version z text) is follows

-- a text of a header and of lines of instructions
pub text_read : (version : ℕ) (z : CodeSizes) (is : List Instr) (rest text : List ℕ) → IsVersion version → AreSizes z → AllMayStand version is
    → code_lines is ≡ rest → header_line version z ++ rest ≡ text → IsTextOf (record { sizes = z; instructions = is }) text
text_read version z is rest text known sizes lines all whole = record {
  version = version;
  known = known;
  sizes = sizes;
  lines = lines;
  spelled = ap (λ x. header_line version z ++ x) all ∙ whole;
}
