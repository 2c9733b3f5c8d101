-- The links of a program are right for what remains at each number (`table_of`).
-- The idea. A function `R` says what remains at each number. The links of a block are right for every `R`
-- that has at their numbers what remains of the block. `adds_plain`, `adds_repeat` and `adds_branch` show
-- this for a statement, `adding_more` for one statement more of a block. The induction is the code's, which
-- calls itself for inner blocks. At the end `R` is what remains of the whole body.
-- The difficulty. A link may have a number whose own link isn't there yet, so the lemmas speak of `R` and not
-- of the table. A block has as many numbers as its size says (`length_remains`). An empty block begins where
-- it goes on (`begins`).
-- Read `begins` first, then `adding_more`.
use Rattle.std.proofs.Common.{◌≡◌, ℕ, zero, suc, ◌+◌, ◌<◌, ◌≤◌, List, [], ◌∷◌, ◌++◌, length, refl, ap, ◌∙◌, sym, subst, arith, append_assoc, drop, get_or, drop_of_length-le, false, Some}
use Rattle.std.specs.Prelude.{slice_get, slice_index_or}
use Rattle.std.specs.Prelude.{◌==◌}
use Rattle.std.proofs.lemmas.List.{length-append, append-nil, get_or_past}
use Rattle.std.proofs.lemmas.Option.{same_Some, none-some}
use Rattle.base.specs.Plain.{Expression, Statement, assign, get, put, stamp, clear, scan, copy, older, held, out, branch, repeat, Block, nil, cons, onto}
use Rattle.tick_kinds.specs.declared.resolved.Statement as DeclaredStatement
use Rattle.tick_kinds.specs.Resolved.{resolved_statement, resolved_block}
use Rattle.ticklab_trace.specs.declared.links.Link.{Link}
use Rattle.ticklab_trace.specs.Numbers.{size, size_of, remains, inside}
use Rattle.ticklab_trace.proofs.Slices.{next_item}
use Rattle.ticklab_trace.specs.prover.Links.{rest_next, rest_past, IsLinked, AreLinked, AreAt, Begins, Adds, AddsOne, Adding, IsPlain, rest_at, IsTable}

mutual
  pub length_remains : (b rest : Block ℕ) → length (remains b rest) ≡ size b
  length_remains nil rest = refl
  length_remains (cons s b) rest =
      omega (arith, length-append (inside s (onto b rest)) (remains b rest), length_inside s (onto b rest), length_remains b rest)

  pub length_inside : (s : Statement ℕ) (rest : Block ℕ) → suc (length (inside s rest)) ≡ size_of s
  length_inside (assign x e) rest = refl
  length_inside (get x r e) rest = refl
  length_inside (put r e) rest = refl
  length_inside stamp rest = refl
  length_inside clear rest = refl
  length_inside (branch e a b) rest =
      omega (arith, length-append (remains a rest) (remains b rest), length_remains a rest, length_remains b rest)
  length_inside (repeat e a) rest = ap suc (length_remains a (cons (repeat e a) rest))
  length_inside (scan s) rest = refl
  length_inside (copy t s) rest = refl
  length_inside (older x s e f) rest = refl
  length_inside (held x s e) rest = refl
  length_inside (out e) rest = refl

module _ (R : ℕ → Block ℕ) where
  at_split : (k : ℕ) (xs ys : List (Block ℕ)) → AreAt R k (xs ++ ys) → AreAt R k xs × AreAt R (k + length xs) ys
  at_split k [] ys at = (tt, subst (λ j. AreAt R j ys) (omega arith) at)
  at_split k (x ∷ xs) ys at =
      let more = at_split (suc k) xs ys at.1 in
      let place : suc k + length xs ≡ k + suc (length xs) = omega arith in
      ((at.0, more.0), subst (λ j. AreAt R j ys) place more.1)

  linked_more : (k : ℕ) (xs ys : List Link) → AreLinked R k xs → AreLinked R (k + length xs) ys → AreLinked R k (xs ++ ys)
  linked_more k [] ys first second = subst (λ j. AreLinked R j ys) (omega arith) second
  linked_more k (x ∷ xs) ys first second =
      let place : k + suc (length xs) ≡ suc k + length xs = omega arith in
      (first.0, linked_more (suc k) xs ys first.1 (subst (λ j. AreLinked R j ys) place second))

  -- what remains where a block begins
  begins : (a : Block ℕ) (first after begin : ℕ) → Begins a first after begin → AreAt R first (remains a (R after)) → R begin ≡ onto a (R after)
  begins nil first after begin is at = ap R is
  begins (cons s b) first after begin is at = ap R is ∙ at.0

  linked_at : (k : ℕ) (links : List Link) → AreLinked R k links → (i : ℕ) (link : Link) → slice_get links i ≡ Some link → IsLinked R (k + i) link
  linked_at k (l ∷ links) are zero link is =
      subst (λ m. IsLinked R (k + 0) m) (same_Some l link is) (subst (λ j. IsLinked R j l) (omega arith) are.0)
  linked_at k (l ∷ links) are (suc i) link is =
      let place : suc k + i ≡ k + suc i = omega arith in
      subst (λ j. IsLinked R j link) place (linked_at (suc k) links are.1 i link is)
  linked_at k [] are i link is = absurd (none-some link is)

-- a block is added statement by statement
pub adding_start : (block : Block ℕ) (after : ℕ) (old : List Link) → Adding block block after old old
adding_start block after old = record {
  links = [];
  list = sym (append-nil old);
  count = omega arith;
  linked = λ R at. (tt, at);
}

pub adding_more : (block rest : Block ℕ) (s : Statement ℕ) (after next : ℕ) (old mid new : List Link)
    → Adding block (cons s rest) after old mid → AddsOne s next mid new → Begins rest (length mid + size_of s) after next → Adding block rest after old new
adding_more block rest s after next old mid new so_far one begin =
    let longer : length new ≡ length mid + size_of s = ap length one.list ∙ length-append mid one.links ∙ ap (λ k. length mid + k) one.count in
    let middle : length mid ≡ length old + length so_far.links = ap length so_far.list ∙ length-append old so_far.links in
    let both : new ≡ old ++ (so_far.links ++ one.links) =
    one.list ∙ ap (λ l. l ++ one.links) so_far.list ∙ append_assoc old so_far.links one.links in
    record {
      links = so_far.links ++ one.links;
      list = both;
      count = omega (arith, length-append so_far.links one.links, so_far.count, one.count);
      linked = λ R at.
          let before = so_far.linked R at in
          let rests = remains rest (R after) in
          let parts = at_split R (suc (length mid)) (inside s (onto rest (R after))) rests before.1.1 in
          let place : suc (length mid) + length (inside s (onto rest (R after))) ≡ length mid + size_of s =
          omega (arith, length_inside s (onto rest (R after))) in
          let there : AreAt R (length mid + size_of s) rests = subst (λ k. AreAt R k rests) place parts.1 in
          let next_is : onto rest (R after) ≡ R next = sym (begins R rest (length mid + size_of s) after next begin there) in
          let here : R (length mid) ≡ cons s (R next) = before.1.0 ∙ ap (λ r. cons s r) next_is in
          let inner : AreAt R (suc (length mid)) (inside s (R next)) =
          subst (λ r. AreAt R (suc (length mid)) (inside s r)) next_is parts.0 in (
            linked_more R (length old) so_far.links one.links before.0
                (subst (λ k. AreLinked R k one.links) middle (one.linked R here inner)),
            subst (λ k. AreAt R k rests) (sym longer) there,
          );
    }

pub adding_end : (block : Block ℕ) (after : ℕ) (old new : List Link) → Adding block nil after old new → Adds block after old new
adding_end block after old new so_far = record {
  links = so_far.links;
  list = so_far.list;
  count = omega (arith, so_far.count);
  linked = λ R at. (so_far.linked R at).0;
}

-- a statement without blocks
plain_rests : (s : Statement ℕ) → IsPlain s → (rest : Block ℕ) → (size_of s ≡ 1) × (rest_next s rest ≡ rest) × (rest_past s rest ≡ rest)
plain_rests (branch e a b) plain rest = absurd plain
plain_rests (repeat e a) plain rest = absurd plain
plain_rests (assign x e) plain rest = (refl, refl, refl)
plain_rests (get x r e) plain rest = (refl, refl, refl)
plain_rests (put r e) plain rest = (refl, refl, refl)
plain_rests stamp plain rest = (refl, refl, refl)
plain_rests clear plain rest = (refl, refl, refl)
plain_rests (scan s) plain rest = (refl, refl, refl)
plain_rests (copy t s) plain rest = (refl, refl, refl)
plain_rests (older x s e f) plain rest = (refl, refl, refl)
plain_rests (held x s e) plain rest = (refl, refl, refl)
plain_rests (out e) plain rest = (refl, refl, refl)

pub adds_plain : (s : Statement ℕ) (after : ℕ) (old new : List Link) (link : Link) → IsPlain s → new ≡ old ++ link ∷ []
    → resolved_statement link.statement.now ≡ s → link.next ≡ after → link.past ≡ after → AddsOne s after old new
adds_plain s after old new link plain list same next past = record {
  links = link ∷ [];
  list = list;
  count = sym (plain_rests s plain nil).0;
  linked = λ R here inner.
      let rest = R after in (
        record {
          rest = rest;
          here = here ∙ ap (λ x. cons x rest) (sym same);
          next = ap R next ∙ sym (ap (λ x. rest_next x rest) same ∙ (plain_rests s plain rest).1);
          past = ap R past ∙ sym (ap (λ x. rest_past x rest) same ∙ (plain_rests s plain rest).2);
        },
        tt,
      );
}

pub adds_repeat : (e : Expression ℕ) (a : Block ℕ) (after : ℕ) (old mid new : List Link) (link : Link) → mid ≡ old ++ link ∷ []
    → Adds a (length old) mid new → resolved_statement link.statement.now ≡ repeat e a
    → Begins a (suc (length old)) (length old) link.next → link.past ≡ after → AddsOne (repeat e a) after old new
adds_repeat e a after old mid new link list adds same next past =
    let one_more : length mid ≡ suc (length old) = omega (arith, ap length list, length-append old (link ∷ [])) in
    record {
      links = link ∷ adds.links;
      list = adds.list ∙ ap (λ l. l ++ adds.links) list ∙ append_assoc old (link ∷ []) adds.links;
      count = ap suc adds.count;
      linked = λ R here inner.
          let rest = R after in
          let again : cons (repeat e a) rest ≡ R (length old) = sym here in
          let block : AreAt R (suc (length old)) (remains a (R (length old))) =
          subst (λ r. AreAt R (suc (length old)) (remains a r)) again inner in
          let inside_mid : AreAt R (length mid) (remains a (R (length old))) =
          subst (λ k. AreAt R k (remains a (R (length old)))) (sym one_more) block in (
            record {
              rest = rest;
              here = here ∙ ap (λ x. cons x rest) (sym same);
              next = begins R a (suc (length old)) (length old) link.next next block ∙ ap (onto a) here ∙ sym (ap (λ x. rest_next x rest) same);
              past = ap R past ∙ sym (ap (λ x. rest_past x rest) same);
            },
            subst (λ k. AreLinked R k adds.links) one_more (adds.linked R inside_mid),
          );
    }

pub adds_branch : (e : Expression ℕ) (a b : Block ℕ) (after : ℕ) (old mid part new : List Link) (link : Link) → mid ≡ old ++ link ∷ []
    → Adds a after mid part → Adds b after part new → resolved_statement link.statement.now ≡ branch e a b
    → Begins a (suc (length old)) after link.next → Begins b (suc (length old) + size a) after link.past → AddsOne (branch e a b) after old new
adds_branch e a b after old mid part new link list first second same next past =
    let one_more : length mid ≡ suc (length old) = omega (arith, ap length list, length-append old (link ∷ [])) in
    let part_is : length part ≡ suc (length old) + size a =
    omega (arith, ap length first.list, length-append mid first.links, first.count, one_more) in
    record {
      links = link ∷ (first.links ++ second.links);
      list = second.list ∙ ap (λ l. l ++ second.links) (first.list ∙ ap (λ l. l ++ first.links) list)
          ∙ append_assoc (old ++ link ∷ []) first.links second.links ∙ append_assoc old (link ∷ []) (first.links ++ second.links);
      count = omega (arith, length-append first.links second.links, first.count, second.count);
      linked = λ R here inner.
          let rest = R after in
          let parts = at_split R (suc (length old)) (remains a rest) (remains b rest) inner in
          let else_place : suc (length old) + length (remains a rest) ≡ suc (length old) + size a = omega (arith, length_remains a rest) in
          let else_at : AreAt R (suc (length old) + size a) (remains b rest) = subst (λ k. AreAt R k (remains b rest)) else_place parts.1 in
          let then_mid : AreAt R (length mid) (remains a rest) = subst (λ k. AreAt R k (remains a rest)) (sym one_more) parts.0 in
          let else_part : AreAt R (length part) (remains b rest) = subst (λ k. AreAt R k (remains b rest)) (sym part_is) else_at in
          let after_first : length part ≡ suc (length old) + length first.links = omega (arith, part_is, first.count) in (
            record {
              rest = rest;
              here = here ∙ ap (λ x. cons x rest) (sym same);
              next = begins R a (suc (length old)) after link.next next parts.0 ∙ sym (ap (λ x. rest_next x rest) same);
              past = begins R b (suc (length old) + size a) after link.past past else_at ∙ sym (ap (λ x. rest_past x rest) same);
            },
            linked_more R (suc (length old)) first.links second.links
                (subst (λ k. AreLinked R k first.links) one_more (first.linked R then_mid))
                (subst (λ k. AreLinked R k second.links) after_first (second.linked R else_part)),
          );
    }

-- The table of a whole program.
indexed : (R : ℕ → Block ℕ) (k : ℕ) (rests : List (Block ℕ)) → ((i : ℕ) → i < length rests → R (k + i) ≡ slice_index_or rests i nil) → AreAt R k rests
indexed R k [] each = tt
indexed R k (rest ∷ rests) each = (
  ap R (omega arith) ∙ each 0 (omega arith),
  indexed R (suc k) rests (λ i inside. ap R (omega arith) ∙ each (suc i) (omega (arith, inside))),
)

pub table_of : (body : Block ℕ) (after : ℕ) (old new : List Link) → old ≡ [] → after ≡ size body → Adds body after old new → IsTable body new
table_of body after old new empty all adds =
    let rests = remains body nil in
    let none : length old ≡ 0 = ap length empty in
    let past : rest_at body after ≡ nil =
    get_or_past rests after nil (omega (arith, length_remains body nil, all)) in
    let start : AreAt (rest_at body) 0 rests = indexed (rest_at body) 0 rests (λ i inside. ap (rest_at body) (omega arith)) in
    let placed : AreAt (rest_at body) (length old) (remains body (rest_at body after)) =
    subst (λ r. AreAt (rest_at body) (length old) (remains body r)) (sym past)
    (subst (λ k. AreAt (rest_at body) k rests) (sym none) start) in
    let whole : new ≡ adds.links = adds.list ∙ ap (λ l. l ++ adds.links) empty in
    let linked : AreLinked (rest_at body) 0 new =
    subst (λ l. AreLinked (rest_at body) 0 l) (sym whole) (subst (λ k. AreLinked (rest_at body) k adds.links) none (adds.linked (rest_at body) placed)) in
    record {
      count = ap length whole ∙ adds.count ∙ sym (length_remains body nil);
      each = λ k link is. subst (λ j. IsLinked (rest_at body) j link) (omega arith) (linked_at (rest_at body) 0 new linked k link is);
    }

-- Blocks as slices.
pub next_statement : (ss : List DeclaredStatement.Statement) (k : ℕ) (s : DeclaredStatement.Statement) → k < length ss → s ≡ get_or ss k s
    → resolved_block (drop k ss) ≡ cons (resolved_statement s) (resolved_block (drop (k + 1) ss))
next_statement = next_item resolved_block (λ s more. cons (resolved_statement s) more) (λ s more. refl)

pub no_statement : (ss : List DeclaredStatement.Statement) (k : ℕ) → length ss ≤ k → resolved_block (drop k ss) ≡ nil
no_statement ss k over = ap resolved_block (drop_of_length-le ss over)

pub more_of : (ss : List DeclaredStatement.Statement) → (length ss == 0) ≡ false → 0 < length ss
more_of [] e = absurd (cc)
more_of (s ∷ ss) e = omega arith

pub begins_first : (ss : List DeclaredStatement.Statement) (first after : ℕ) → 0 < length ss → Begins (resolved_block ss) first after first
begins_first [] first after some = absurd (omega (arith, some))
begins_first (s ∷ ss) first after some = refl

pub begins_none : (ss : List DeclaredStatement.Statement) (first after : ℕ) → length ss ≡ 0 → Begins (resolved_block ss) first after after
begins_none [] first after none = refl
begins_none (s ∷ ss) first after none = absurd (omega (arith, none))

pub one_long : (s : Statement ℕ) (after : ℕ) (old new : List Link) → AddsOne s after old new → length new ≡ length old + size_of s
one_long s after old new one = ap length one.list ∙ length-append old one.links ∙ ap (λ k. length old + k) one.count

pub block_long : (b : Block ℕ) (after : ℕ) (old new : List Link) → Adds b after old new → length new ≡ length old + size b
block_long b after old new adds = ap length adds.list ∙ length-append old adds.links ∙ ap (λ k. length old + k) adds.count

pub pushed_long : (old new : List Link) (link : Link) → new ≡ old ++ link ∷ [] → length new ≡ suc (length old)
pushed_long old new link list = omega (arith, ap length list, length-append old (link ∷ []))
