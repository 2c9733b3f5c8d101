-- How many tokens statements and sections have, and so where the heads of statements stand. `rest_more` and
-- `one_more` take one statement more of a block: the first for the tokens that follow, the second for the
-- heads.
-- The idea. The tokens of a statement are pieces in a row, so its length is their sum (`branch_long`,
-- `repeat_long`). To drop two pieces in turn is to drop their sum (`past_two`).
-- The difficulty is bookkeeping. The code passes head, braces and blocks one by one, with an equation for
-- each. The definitions drop several at once. `branch_past` and `repeat_past` join these equations for the
-- tokens. `branch_heads` and `repeat_heads` do it for the heads, which the code pushes at the end.
-- Read `past_two` first, then `branch_past`.
use Rattle.std.proofs.Common.{◌≡◌, ℕ, ◌+◌, ◌-◌, ◌*◌, ◌<◌, List, Vec, Global, [], ◌∷◌, ◌++◌, length, refl, ap, ◌∙◌, sym, subst, arith, append_assoc, length-append, length-drop, drop, take, take_all, drop-drop, get_or, ⊎_elim}
use Rattle.std.proofs.lemmas.Bool.{cases_lt}
use Rattle.base.specs.declared.operator.Op.{Op}
use Rattle.tick_syntax.specs.declared.terminals.Terminal.{Terminal}
use Rattle.tick_syntax.specs.declared.terminals.Terminal.TheVariants as T
use Rattle.base.specs.declared.span.Span.{Span}
use Rattle.tick_syntax.specs.declared.token.Token.{Token}
use Rattle.base.specs.declared.tree.Expr.{Expr}
use Rattle.base.specs.declared.tree.Stmt.{Stmt}
use Rattle.base.specs.declared.tree.Stmt.TheVariants as S
use Rattle.tick_syntax.specs.Grammar.{block_tokens, expression_tokens, in_braces, names_tokens, section_tokens, statement_tokens}
use Rattle.tick_syntax.specs.Lexeme.{Lexeme, a_terminal}
use Rattle.base.specs.Plain.{Name, Expression, binary, Statement, assign, get, put, stamp, clear, scan, copy, older, held, out, branch, repeat, Block, cons, WholeProgram}
use Rattle.base.specs.View.{block_of, expression_of, statement_of}
use Rattle.base.proofs.Offered.{statement_of_branch, statement_of_repeat}
use Rattle.ticklab_trace.specs.Places.{extent, head_tokens, heads, inner_heads, opening_tokens}
use Rattle.ticklab_trace.specs.prover.Heads.{names_count, whole_heads}
use Rattle.ticklab_trace.proofs.Slices.{next_item}

names_long : (x : Name) (xs : List Name) → length (names_tokens x xs) ≡ 2 * length xs + 1
names_long x [] = refl
names_long x (y ∷ ys) = omega (arith, names_long y ys)

section_long : (t : Terminal) (xs : List Name) → length (section_tokens t xs) ≡ names_count (length xs)
section_long t [] = refl
section_long t (x ∷ xs) = omega (arith, length-append (names_tokens x xs) (a_terminal T.Semicolon ∷ []), names_long x xs)

pub opening_long : (a : WholeProgram Name)
    → length (opening_tokens a) ≡ 3 + names_count (length a.variables) + names_count (length a.scans) + names_count (length a.registers) + 1
opening_long a =
    let vars = section_tokens T.Var a.variables in
    let scans = section_tokens T.Scan a.scans in
    let regs = section_tokens T.Reg a.registers in
    let begin = a_terminal T.Begin ∷ [] in
    omega (
      arith,
      length-append vars (scans ++ (regs ++ begin)),
      length-append scans (regs ++ begin),
      length-append regs begin,
      section_long T.Var a.variables,
      section_long T.Scan a.scans,
      section_long T.Reg a.registers,
    )

pub binary_long : (a : Expression Name) (op : Op) (b : Expression Name)
    → length (expression_tokens (binary a op b)) ≡ 1 + length (expression_tokens a) + 1 + length (expression_tokens b) + 1
binary_long a op b =
    let close = a_terminal T.Close ∷ [] in
    omega (arith, length-append (expression_tokens a) (a_terminal (T.Operator op) ∷ (expression_tokens b ++ close)), length-append (expression_tokens b) close)

-- what follows two parts follows both
pub past_two : {A : Type 0} (i j k : ℕ) (xs : List A) → i + j ≡ k → drop j (drop i xs) ≡ drop k xs
past_two i j k xs e = drop-drop j i xs ∙ ap (λ n. drop n xs) e

-- what stands before the rest
pub before_rest : {A : Type 0} (n : ℕ) (xs : List A) → take (length xs - length (drop n xs)) xs ≡ take n xs
before_rest n xs = ⊎_elim
    (λ l. ap (λ k. take k xs) (omega (arith, length-drop n xs)))
    (λ l. take_all _ xs (omega (arith, length-drop n xs)) ∙ sym (take_all n xs (omega arith)))
    (cases_lt n (length xs))

braces_long : (ts : List Lexeme) → length (in_braces ts) ≡ length ts + 2
braces_long ts = omega (arith, length-append ts (a_terminal T.CloseBrace ∷ []))

pub branch_long : (e : Expression Name) (a b : Block Name)
    → length (statement_tokens (branch e a b)) ≡ length (head_tokens (branch e a b)) + 1 + length (block_tokens a) + 3 + length (block_tokens b) + 1
branch_long e a b =
    let first = in_braces (block_tokens a) in
    let second = in_braces (block_tokens b) in
    omega (
      arith,
      length-append (expression_tokens e) (first ++ a_terminal T.Else ∷ second),
      length-append first (a_terminal T.Else ∷ second),
      braces_long (block_tokens a),
      braces_long (block_tokens b),
    )

pub repeat_long : (e : Expression Name) (a : Block Name)
    → length (statement_tokens (repeat e a)) ≡ length (head_tokens (repeat e a)) + 1 + length (block_tokens a) + 1
repeat_long e a =
    omega (arith, length-append (expression_tokens e) (in_braces (block_tokens a)), braces_long (block_tokens a))

-- a statement that was matched, whose blocks are lent as slices
pub branch_lent : (s : Stmt) (e : Expr) (a b : Vec Stmt Global) (x y : List Stmt) → s ≡ S.If e a b → x ≡ a.items → y ≡ b.items
    → statement_of s ≡ branch (expression_of e) (block_of x) (block_of y)
branch_lent s e a b x y is first second =
    ap statement_of is ∙ statement_of_branch e a b ∙ λ i. branch (expression_of e) (block_of (sym first i)) (block_of (sym second i))

pub repeat_lent : (s : Stmt) (e : Expr) (a : Vec Stmt Global) (x : List Stmt) → s ≡ S.While e a → x ≡ a.items
    → statement_of s ≡ repeat (expression_of e) (block_of x)
repeat_lent s e a x is first = ap statement_of is ∙ statement_of_repeat e a ∙ ap (λ r. repeat (expression_of e) (block_of r)) (sym first)

-- what follows its blocks follows a statement
pub branch_past : (s : Statement Name) (e : Expression Name) (a b : Block Name) (tokens rest one between three end last : List Token)
    → s ≡ branch e a b → rest ≡ drop (length (head_tokens s)) tokens → one ≡ drop 1 rest → between ≡ drop (length (block_tokens a)) one
    → three ≡ drop 3 between → end ≡ drop (length (block_tokens b)) three → last ≡ drop 1 end
    → last ≡ drop (length (statement_tokens s)) tokens
branch_past s e a b tokens rest one between three end last is head first inner second other end_is =
    let h = length (head_tokens s) in
    let i = length (block_tokens a) in
    let j = length (block_tokens b) in
    end_is ∙ ap (drop 1) (other ∙ ap (drop j) (second ∙ ap (drop 3) (inner ∙ ap (drop i) (first ∙ ap (drop 1) head
    ∙ past_two h 1 (h + 1) tokens refl) ∙ past_two (h + 1) i (h + 1 + i) tokens refl)
    ∙ past_two (h + 1 + i) 3 (h + 1 + i + 3) tokens refl) ∙ past_two (h + 1 + i + 3) j (h + 1 + i + 3 + j) tokens refl)
    ∙ past_two (h + 1 + i + 3 + j) 1 (length (statement_tokens s)) tokens
    (sym (ap (λ x. length (statement_tokens x)) is ∙ branch_long e a b ∙ ap (λ x. length (head_tokens x) + 1 + i + 3 + j + 1) (sym is)))

pub repeat_past : (s : Statement Name) (e : Expression Name) (a : Block Name) (tokens rest one end last : List Token)
    → s ≡ repeat e a → rest ≡ drop (length (head_tokens s)) tokens → one ≡ drop 1 rest → end ≡ drop (length (block_tokens a)) one
    → last ≡ drop 1 end → last ≡ drop (length (statement_tokens s)) tokens
repeat_past s e a tokens rest one end last is head first inner end_is =
    let h = length (head_tokens s) in
    let i = length (block_tokens a) in
    end_is ∙ ap (drop 1) (inner ∙ ap (drop i) (first ∙ ap (drop 1) head ∙ past_two h 1 (h + 1) tokens refl)
    ∙ past_two (h + 1) i (h + 1 + i) tokens refl)
    ∙ past_two (h + 1 + i) 1 (length (statement_tokens s)) tokens
    (sym (ap (λ x. length (statement_tokens x)) is ∙ repeat_long e a ∙ ap (λ x. length (head_tokens x) + 1 + i + 1) (sym is)))

-- what was pushed is the head
pub head_pushed : (s : Statement Name) (tokens rest : List Token) (old pushed : List Span) (span : Span)
    → rest ≡ drop (length (head_tokens s)) tokens → span ≡ extent (take (length tokens - length rest) tokens) → pushed ≡ old ++ span ∷ []
    → pushed ≡ old ++ extent (take (length (head_tokens s)) tokens) ∷ []
head_pushed s tokens rest old pushed span is told push =
    push ∙ ap (λ x. old ++ x ∷ []) (told ∙ ap (λ r. extent (take (length tokens - length r) tokens)) is
    ∙ ap extent (before_rest (length (head_tokens s)) tokens))

-- then come those of its blocks, one after the other
pub branch_heads : (s : Statement Name) (e : Expression Name) (a b : Block Name) (tokens rest one between three : List Token) (old pushed first both : List Span)
    → s ≡ branch e a b → rest ≡ drop (length (head_tokens s)) tokens → one ≡ drop 1 rest → between ≡ drop (length (block_tokens a)) one
    → three ≡ drop 3 between → pushed ≡ old ++ extent (take (length (head_tokens s)) tokens) ∷ []
    → first ≡ pushed ++ heads one a → both ≡ first ++ heads three b → both ≡ old ++ whole_heads tokens s
branch_heads s e a b tokens rest one between three old pushed first both is head next inner second push add more =
    let i = length (block_tokens a) in
    let far : three ≡ drop (i + 4) rest =
    second ∙ ap (drop 3) (inner ∙ ap (drop i) next ∙ past_two 1 i (1 + i) rest refl) ∙ past_two (1 + i) 3 (i + 4) rest (omega arith) in
    let front = extent (take (length (head_tokens s)) tokens) in
    let blocks : heads one a ++ heads three b ≡ inner_heads (drop (length (head_tokens s)) tokens) s =
    (λ k. heads (next k) a ++ heads (far k) b) ∙ ap (λ x. inner_heads rest x) (sym is) ∙ ap (λ x. inner_heads x s) head in
    more ∙ ap (λ x. x ++ heads three b) (add ∙ ap (λ x. x ++ heads one a) push)
    ∙ append_assoc (old ++ front ∷ []) (heads one a) (heads three b)
    ∙ append_assoc old (front ∷ []) (heads one a ++ heads three b) ∙ ap (λ x. old ++ front ∷ x) blocks

pub repeat_heads : (s : Statement Name) (e : Expression Name) (a : Block Name) (tokens rest one : List Token) (old pushed all : List Span)
    → s ≡ repeat e a → rest ≡ drop (length (head_tokens s)) tokens → one ≡ drop 1 rest
    → pushed ≡ old ++ extent (take (length (head_tokens s)) tokens) ∷ [] → all ≡ pushed ++ heads one a → all ≡ old ++ whole_heads tokens s
repeat_heads s e a tokens rest one old pushed all is head next push add =
    let front = extent (take (length (head_tokens s)) tokens) in
    let blocks : heads one a ≡ inner_heads (drop (length (head_tokens s)) tokens) s =
    (λ k. heads (next k) a) ∙ ap (λ x. inner_heads rest x) (sym is) ∙ ap (λ x. inner_heads x s) head in
    add ∙ ap (λ x. x ++ heads one a) push ∙ append_assoc old (front ∷ []) (heads one a) ∙ ap (λ x. old ++ front ∷ x) blocks

-- a statement without blocks
abbrev pub IsPlain : Statement Name → Type 0
IsPlain (branch e a b) = ⊥
IsPlain (repeat e a) = ⊥
IsPlain _ = Unit {0}

no_inner : (s : Statement Name) → IsPlain s → (tokens : List Token) → inner_heads tokens s ≡ []
no_inner (branch e a b) plain tokens = absurd plain
no_inner (repeat e a) plain tokens = absurd plain
no_inner (assign x e) plain tokens = refl
no_inner (get x r e) plain tokens = refl
no_inner (put r e) plain tokens = refl
no_inner stamp plain tokens = refl
no_inner clear plain tokens = refl
no_inner (scan s) plain tokens = refl
no_inner (copy t s) plain tokens = refl
no_inner (older x s e f) plain tokens = refl
no_inner (held x s e) plain tokens = refl
no_inner (out e) plain tokens = refl

pub plain_heads : (s : Statement Name) (tokens : List Token) (old pushed : List Span) → IsPlain s
    → pushed ≡ old ++ extent (take (length (head_tokens s)) tokens) ∷ [] → pushed ≡ old ++ whole_heads tokens s
plain_heads s tokens old pushed plain push =
    push ∙ ap (λ x. old ++ extent (take (length (head_tokens s)) tokens) ∷ x) (sym (no_inner s plain (drop (length (head_tokens s)) tokens)))

-- a statement that was matched is one
pub plain_as : (s x : Stmt) → s ≡ x → IsPlain (statement_of x) → IsPlain (statement_of s)
plain_as s x is plain = subst (λ y. IsPlain (statement_of y)) (sym is) plain

-- the statements of a list from one on
pub next_statement : (ss : List Stmt) (k : ℕ) (s : Stmt) → k < length ss → s ≡ get_or ss k s
    → block_of (drop k ss) ≡ cons (statement_of s) (block_of (drop (k + 1) ss))
next_statement = next_item block_of (λ s more. cons (statement_of s) more) (λ s more. refl)

-- a statement more
pub one_more : (s : Statement Name) (before after : Block Name) (tokens rest : List Token) (old mid new whole : List Span)
    → before ≡ cons s after → rest ≡ drop (length (statement_tokens s)) tokens → new ≡ mid ++ whole_heads tokens s
    → mid ++ heads tokens before ≡ whole → new ++ heads rest after ≡ whole
one_more s before after tokens rest old mid new whole next is add so_far =
    ap (λ x. x ++ heads rest after) add ∙ append_assoc mid (whole_heads tokens s) (heads rest after)
    ∙ ap (λ x. mid ++ (whole_heads tokens s ++ heads x after)) is ∙ ap (λ b. mid ++ heads tokens b) (sym next) ∙ so_far

pub rest_more : (s : Statement Name) (before after : Block Name) (tokens rest end : List Token)
    → before ≡ cons s after → rest ≡ drop (length (statement_tokens s)) tokens → drop (length (block_tokens before)) tokens ≡ end
    → drop (length (block_tokens after)) rest ≡ end
rest_more s before after tokens rest end next is so_far =
    ap (drop (length (block_tokens after))) is
    ∙ past_two (length (statement_tokens s)) (length (block_tokens after)) (length (block_tokens (cons s after))) tokens
    (omega (arith, length-append (statement_tokens s) (block_tokens after)))
    ∙ ap (λ b. drop (length (block_tokens b)) tokens) (sym next) ∙ so_far
