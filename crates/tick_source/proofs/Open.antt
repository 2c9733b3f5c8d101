-- What joined blocks are after a change of the innermost one, which is the last.
-- The idea. A process keeps the blocks that it is in. What it still does is all of them, joined, and the last is done first
-- (`joined_more`). So the list is parted into the blocks before the last, and the last (`split`). Each change leaves of the
-- joined blocks what follows their first statement (`after_first`). For that the last block is shortened (`joined_set`) or
-- taken away (`joined_take`). Or another block is to be done first: it comes behind the shortened one (`joined_both`) or in
-- its place (`joined_instead`).
-- Read `joined_more` first, then `joined_set`.
use Rattle.std.proofs.Common.{◌≡◌, ℕ, suc, ◌+◌, ◌-◌, ◌<◌, ◌≤◌, List, [], ◌∷◌, ◌++◌, refl, ap, ◌∙◌, sym, subst, length, take, drop, set, get_or, arith, Bor, Option, Some, None, slice_get, false}
use Rattle.std.specs.Prelude.{◌==◌}
use Rattle.std.specs.Option.{option_map, option_copied}
use Rattle.std.proofs.Math.Seq.{take-suc, take-suc-set, take-length}
use Rattle.std.proofs.lemmas.List.{length-set, set-append_left}
use Rattle.base.specs.Plain.{Block, nil, cons, onto}
use Rattle.tick_kinds.specs.Resolved.{resolved_block, resolved_statement}
use Rattle.tick_kinds.specs.declared.resolved.Statement as DeclaredStatement
use Rattle.tick_source.specs.prover.Remaining.{first_of, after_first, joined, HasMore, IsUndone}

pub onto-nil : (a : Block ℕ) → onto a nil ≡ a
onto-nil nil = refl
onto-nil (cons s a) = ap (λ r. cons s r) (onto-nil a)

pub onto_assoc : (a b c : Block ℕ) → onto (onto a b) c ≡ onto a (onto b c)
onto_assoc nil b c = refl
onto_assoc (cons s a) b c = ap (λ r. cons s r) (onto_assoc a b c)

abbrev Open : Type 0
Open = Bor (List DeclaredStatement.Statement)

-- one block more is done first
pub joined_more : (bs : List Open) (b : Open) → joined (bs ++ b ∷ []) ≡ onto (resolved_block b.now) (joined bs)
joined_more [] b = sym (onto-nil (resolved_block b.now))
joined_more (x ∷ bs) b =
    ap (λ r. onto r (resolved_block x.now)) (joined_more bs b)
    ∙ onto_assoc (resolved_block b.now) (joined bs) (resolved_block x.now)

pub undone_more : (bs : List Open) (b : Open) → IsUndone bs → HasMore b.now → IsUndone (bs ++ b ∷ [])
undone_more [] b u h = (h, tt)
undone_more (x ∷ bs) b u h = (u.0, undone_more bs b u.1 h)

pub undone_front : (bs : List Open) (b : Open) → IsUndone (bs ++ b ∷ []) → IsUndone bs × HasMore b.now
undone_front [] b u = (tt, u.0)
undone_front (x ∷ bs) b u = let more = undone_front bs b u.1 in ((u.0, more.0), more.1)

-- what follows the first statement, as a slice of the block
abbrev pub rest_of : List DeclaredStatement.Statement → List DeclaredStatement.Statement
rest_of b = take (length b - 1) (drop 1 b)

pub opened : (b : List DeclaredStatement.Statement) → HasMore b → (s : DeclaredStatement.Statement) × (b ≡ s ∷ rest_of b)
opened [] h = absurd h
opened (s ∷ b) h =
    let same : length (s ∷ b) - 1 ≡ length b = omega arith in
    (s, ap (λ r. s ∷ r) (sym (take-length b) ∙ ap (λ j. take j b) (sym same)))

pub long_rest : (b : List DeclaredStatement.Statement) → 1 < length b → HasMore (rest_of b)
long_rest [] h = absurd (omega arith)
long_rest (s ∷ []) h = absurd (omega arith)
long_rest (s ∷ t ∷ b) h = let more : length (s ∷ t ∷ b) - 1 ≡ suc (length b) = omega arith in rw more tt

pub short_rest : (b : List DeclaredStatement.Statement) → length b ≤ 1 → rest_of b ≡ []
short_rest [] h = refl
short_rest (s ∷ []) h = refl
short_rest (s ∷ t ∷ b) h = absurd (omega arith)

pub more_of : (b : List DeclaredStatement.Statement) → (length b == 0) ≡ false → HasMore b
more_of [] e = absurd (cc)
more_of (s ∷ b) e = tt

-- a statement that is seen through a reference
pub seen_first : (r : Option (Bor DeclaredStatement.Statement)) → option_map (λ s. resolved_statement s.now) r ≡ option_map resolved_statement (option_copied r)
seen_first None = refl
seen_first (Some s) = refl

-- the blocks before the last, and the last
pub split : (bs : List Open) (k : ℕ) (b : Open) → length bs ≡ k + 1 → b ≡ get_or bs k b → bs ≡ take k bs ++ b ∷ []
split bs k b long here =
    let inside : k < length bs = omega arith in
    let whole : suc k ≡ length bs = omega arith in
    sym (take-length bs) ∙ ap (λ j. take j bs) (sym whole) ∙ take-suc bs k b inside ∙ ap (λ x. take k bs ++ x ∷ []) (sym here)

-- another last one
pub split_set : (bs : List Open) (k : ℕ) (b : Open) → length bs ≡ k + 1 → set bs k b ≡ take k bs ++ b ∷ []
split_set bs k b long =
    let inside : k < length bs = omega arith in
    let whole : suc k ≡ length (set bs k b) = omega (arith, length-set bs k b) in
    sym (take-length (set bs k b)) ∙ ap (λ j. take j (set bs k b)) (sym whole) ∙ take-suc-set bs k b inside

-- Where b is the last.
module _ (bs : List Open) (k : ℕ) (b : Open) (long : length bs ≡ k + 1) (here : b ≡ get_or bs k b) where
  joined_last : joined bs ≡ onto (resolved_block b.now) (joined (take k bs))
  joined_last = ap joined (split bs k b long here) ∙ joined_more (take k bs) b

  undone_last : IsUndone bs → IsUndone (take k bs) × HasMore b.now
  undone_last u = undone_front (take k bs) b (subst IsUndone (split bs k b long here) u)

  pub more_last : IsUndone bs → HasMore b.now
  more_last u = (undone_last u).1

  after_last : IsUndone bs → after_first (joined bs) ≡ onto (resolved_block (rest_of b.now)) (joined (take k bs))
  after_last u =
      let o = opened b.now (more_last u) in
      ap after_first (joined_last ∙ ap (λ a. onto (resolved_block a) (joined (take k bs))) o.1)

  pub first_last : IsUndone bs → option_map resolved_statement (slice_get b.now 0) ≡ first_of (joined bs)
  first_last u =
      let o = opened b.now (more_last u) in
      ap (λ a. option_map resolved_statement (slice_get a 0)) o.1
      ∙ ap first_of (sym (joined_last ∙ ap (λ a. onto (resolved_block a) (joined (take k bs))) o.1))

  -- its first statement is left out, and others follow
  pub joined_set : IsUndone bs → (rest : Open) → rest.now ≡ rest_of b.now → joined (set bs k rest) ≡ after_first (joined bs)
  joined_set u rest e =
      ap joined (split_set bs k rest long) ∙ joined_more (take k bs) rest
      ∙ ap (λ a. onto (resolved_block a) (joined (take k bs))) e ∙ sym (after_last u)

  pub undone_set : (rest : Open) → HasMore rest.now → IsUndone bs → IsUndone (set bs k rest)
  undone_set rest more u =
      subst IsUndone (sym (split_set bs k rest long)) (undone_more (take k bs) rest (undone_last u).0 more)

  -- its first statement is left out, and none follows
  pub joined_take : IsUndone bs → length b.now ≤ 1 → joined (take k bs) ≡ after_first (joined bs)
  joined_take u few = ap (λ a. onto (resolved_block a) (joined (take k bs))) (sym (short_rest b.now few)) ∙ sym (after_last u)

  pub undone_take : IsUndone bs → IsUndone (take k bs)
  undone_take u = (undone_last u).0

  -- its first statement is left out, and a block is put before what follows
  pub joined_both : IsUndone bs → (rest block : Open) (both : List Open) → both ≡ bs ++ block ∷ [] → rest.now ≡ rest_of b.now
      → joined (set both k rest) ≡ onto (resolved_block block.now) (after_first (joined bs))
  joined_both u rest block both e same =
      let inside : k < length bs = omega arith in
      ap (λ all. joined (set all k rest)) e ∙ ap joined (set-append_left bs (block ∷ []) k rest inside)
      ∙ joined_more (set bs k rest) block ∙ ap (onto (resolved_block block.now)) (joined_set u rest same)

  pub undone_both : (rest block : Open) (both : List Open) → both ≡ bs ++ block ∷ [] → HasMore rest.now → HasMore block.now
      → IsUndone bs → IsUndone (set both k rest)
  undone_both rest block both e more many u =
      let inside : k < length bs = omega arith in
      subst IsUndone (sym (ap (λ all. set all k rest) e ∙ set-append_left bs (block ∷ []) k rest inside))
      (undone_more (set bs k rest) block (undone_set rest more u) many)

  -- a block is put in the place of its only statement
  pub joined_instead : IsUndone bs → length b.now ≤ 1 → (block : Open)
      → joined (set bs k block) ≡ onto (resolved_block block.now) (after_first (joined bs))
  joined_instead u few block =
      ap joined (split_set bs k block long) ∙ joined_more (take k bs) block
      ∙ ap (onto (resolved_block block.now)) (joined_take u few)
