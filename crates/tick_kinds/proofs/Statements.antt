-- What checking says of each statement, in one place: a new statement has its cases here, and in no other page of
-- proofs.
--
-- Two things are said, each by an induction on the tree: checking tells the first refusal of the names that a
-- statement uses, or resolves them (`statement_told`); and where nothing refuses them, each resolved number is within
-- its section (`statement_within`).
--
-- The idea. Two steps of checking in a row answer `told` of both lists of refusals (`told-then` of `Telling`), and
-- where a list of uses has no refusal, no part of it has one (`front_of`, `back_of`).
use Rattle.std.proofs.Common.{◌≡◌, ◌<◌, ℕ, Bool, true, false, if◌then◌else◌, List, [], ◌∷◌, ◌++◌, length, Option, Some, None, Ok, Err, refl, sym, ap, ◌∙◌, subst}
use Rattle.std.proofs.lemmas.Grind.{flat_map-append}
use Rattle.std.specs.List.{flat_map}
use Rattle.tick_kinds.specs.declared.fault.KindFault.{KindFault}
use Rattle.tick_kinds.specs.declared.fault.KindFault.TheVariants as F
use Rattle.tick_kinds.specs.declared.kind.Kind.{Kind}
use Rattle.tick_kinds.specs.declared.kind.Kind.TheVariants as K
use Rattle.tick_kinds.specs.prover.Checked.{number_if, checked_name, checked_expression, checked_valued, checked_asked, checked_copy, checked_older, checked_statement, checked_block}
use Rattle.tick_kinds.specs.Declarations.{Slot, declarations, slot_in, section}
use Rattle.tick_kinds.specs.Refusals.{is_kind, use_refusals, use_refusals_by}
use Rattle.tick_kinds.specs.Resolution.{number_by, slot_number}
use Rattle.tick_kinds.specs.Uses.{Use, a_variable, a_scan, a_register, expression_uses, statement_uses, block_uses, IsExpressionWithin, IsStatementWithin, IsWithin}
use Rattle.base.specs.Plain.{Name, Expression, number, named, me, count, binary, Statement, assign, get, put, stamp, clear, scan, copy, older, held, out, branch, repeat, Block, nil, cons, map_expression, map_statement, map_block, WholeProgram}
use Rattle.tick_kinds.proofs.Telling.{told, told-then, told-last}
use Rattle.tick_kinds.proofs.Accepting.{front_empty, back_empty}
use Rattle.tick_kinds.proofs.Using.{use_within}

module _ (look : List ℕ → Option Slot) where
  abbrev faults : List Use → List KindFault
  faults us = flat_map (use_refusals look) us

  abbrev num : Name → ℕ
  num x = slot_number look x

  split : {A : Type 0} (us vs : List Use) (a : A) → told (faults us ++ faults vs) a ≡ told (faults (us ++ vs)) a
  split us vs a = ap (λ fs. told fs a) (sym (flat_map-append (use_refusals look) us vs))

  name_told : (wanted : Kind) (x : Name) → checked_name look wanted x ≡ told (use_refusals look (record { wanted = wanted; name = x })) (num x)
  unfolding checked_name
  name_told wanted x = by (look x.letters)
    where
      by : (o : Option Slot) → number_if wanted x.span o ≡ told (use_refusals_by (record { wanted = wanted; name = x }) o) (number_by o)
      by None = refl
      by (Some slot) = by_kind (is_kind wanted slot.0)
        where
          by_kind :
              (b : Bool)
              → (if b then Ok slot.1 else Err (F.WrongKind x.span wanted slot.0))
              ≡ told (if b then [] else F.WrongKind x.span wanted slot.0 ∷ []) slot.1
          by_kind true = refl
          by_kind false = refl

  pub expression_told :
      (e : Expression Name)
      → checked_expression look e ≡ told (faults (expression_uses e)) (map_expression num e)
  unfolding checked_expression
  expression_told (number v) = refl
  expression_told (named x) = told-then _ _ [] _ _ _ (name_told K.Variable x) refl
  expression_told me = refl
  expression_told count = refl
  expression_told (binary a op b) =
      told-then _ _ _ _ _ _ (expression_told a) (told-last _ _ _ _ (expression_told b))
      ∙ split (expression_uses a) (expression_uses b) _

  valued_told :
      (wanted : Kind) (x : Name) (e : Expression Name)
      → checked_valued look wanted x e
      ≡ told (faults (record { wanted = wanted; name = x } ∷ expression_uses e)) (num x, map_expression num e)
  unfolding checked_valued
  valued_told wanted x e = told-then _ _ _ _ _ _ (name_told wanted x) (told-last _ _ _ _ (expression_told e))

  asked_told :
      (wanted : Kind) (x s : Name) (e : Expression Name)
      → checked_asked look wanted x s e
      ≡ told (faults (a_variable x ∷ record { wanted = wanted; name = s } ∷ expression_uses e)) (num x, num s, map_expression num e)
  unfolding checked_asked
  asked_told wanted x s e =
      told-then _ _ _ _ _ _ (name_told K.Variable x)
      (told-then _ _ _ _ _ _ (name_told wanted s) (told-last _ _ _ _ (expression_told e)))

  mutual
    unfolding checked_copy checked_older

    pub statement_told :
        (s : Statement Name) → checked_statement look s ≡ told (faults (statement_uses s)) (map_statement num s)
    statement_told (assign x e) = told-last _ _ _ _ (valued_told K.Variable x e)
    statement_told (get x r e) = told-last _ _ _ _ (asked_told K.Register x r e)
    statement_told (put r e) = told-last _ _ _ _ (valued_told K.Register r e)
    statement_told stamp = refl
    statement_told clear = refl
    statement_told (scan s) = told-then _ _ [] _ _ _ (name_told K.Scan s) refl
    statement_told (copy t s) =
        told-then _ _ _ _ _ _ (name_told K.Scan t) (told-then _ _ [] _ _ _ (name_told K.Scan s) refl)
    statement_told (older x s a b) =
        told-then _ _ _ _ _ _ (name_told K.Variable x)
        (told-then _ _ _ _ _ _ (name_told K.Scan s)
        (told-then _ _ _ _ _ _ (expression_told a) (told-last _ _ _ _ (expression_told b))
        ∙ split (expression_uses a) (expression_uses b) _))
    statement_told (held x s e) = told-last _ _ _ _ (asked_told K.Scan x s e)
    statement_told (out e) = told-last _ _ _ _ (expression_told e)
    statement_told (branch e a b) =
        told-then _ _ _ _ _ _ (expression_told e)
        (told-then _ _ _ _ _ _ (block_told a) (told-last _ _ _ _ (block_told b)) ∙ split (block_uses a) (block_uses b) _)
        ∙ split (expression_uses e) (block_uses a ++ block_uses b) _
    statement_told (repeat e a) =
        told-then _ _ _ _ _ _ (expression_told e) (told-last _ _ _ _ (block_told a))
        ∙ split (expression_uses e) (block_uses a) _

    pub block_told : (b : Block Name) → checked_block look b ≡ told (faults (block_uses b)) (map_block num b)
    block_told nil = refl
    block_told (cons s b) =
        told-then _ _ _ _ _ _ (statement_told s) (told-last _ _ _ _ (block_told b))
        ∙ split (statement_uses s) (block_uses b) _

module _ (p : WholeProgram Name) where
  abbrev number_at : Name → ℕ
  number_at x = num (slot_in (declarations p)) x

  abbrev faults_in : List Use → List KindFault
  faults_in us = faults (slot_in (declarations p)) us

  first_within : (u : Use) (fs : List KindFault) → use_refusals (slot_in (declarations p)) u ++ fs ≡ [] → number_at u.name < length (section p u.wanted)
  first_within u fs h =
      let w = use_within p u (front_empty _ fs h) in
      subst (λ o. number_by o < length (section p u.wanted)) (sym w.1) w.2

  rest_of : (u : Use) (fs : List KindFault) → use_refusals (slot_in (declarations p)) u ++ fs ≡ [] → fs ≡ []
  rest_of u fs h = back_empty (use_refusals (slot_in (declarations p)) u) fs h

  front_of : (us vs : List Use) → faults_in (us ++ vs) ≡ [] → faults_in us ≡ []
  front_of us vs h = front_empty _ (faults_in vs) (sym (flat_map-append _ us vs) ∙ h)

  back_of : (us vs : List Use) → faults_in (us ++ vs) ≡ [] → faults_in vs ≡ []
  back_of us vs h = back_empty (faults_in us) _ (sym (flat_map-append _ us vs) ∙ h)

  abbrev InExpression : Expression ℕ → Type 0
  InExpression e = IsExpressionWithin (length p.variables) (length p.scans) (length p.registers) e

  abbrev InStatement : Statement ℕ → Type 0
  InStatement s = IsStatementWithin (length p.variables) (length p.scans) (length p.registers) s

  abbrev pub InBlock : Block ℕ → Type 0
  InBlock b = IsWithin (length p.variables) (length p.scans) (length p.registers) b

  expression_within : (e : Expression Name) → faults_in (expression_uses e) ≡ [] → InExpression (map_expression number_at e)
  expression_within (number v) h = tt
  expression_within (named x) h = first_within (a_variable x) _ h
  expression_within me h = tt
  expression_within count h = tt
  expression_within (binary a op b) h =
      (expression_within a (front_of (expression_uses a) _ h), expression_within b (back_of (expression_uses a) _ h))

  mutual
    statement_within : (s : Statement Name) → faults_in (statement_uses s) ≡ [] → InStatement (map_statement number_at s)
    statement_within (assign x e) h = (first_within (a_variable x) _ h, expression_within e (rest_of (a_variable x) _ h))
    statement_within (get x r e) h =
        let h1 = rest_of (a_variable x) _ h in
        (first_within (a_variable x) _ h, first_within (a_register r) _ h1, expression_within e (rest_of (a_register r) _ h1))
    statement_within (put r e) h = (first_within (a_register r) _ h, expression_within e (rest_of (a_register r) _ h))
    statement_within stamp h = tt
    statement_within clear h = tt
    statement_within (scan s) h = first_within (a_scan s) _ h
    statement_within (copy t s) h = (first_within (a_scan t) _ h, first_within (a_scan s) _ (rest_of (a_scan t) _ h))
    statement_within (older x s a b) h =
        let h1 = rest_of (a_variable x) _ h in
        let h2 = rest_of (a_scan s) _ h1 in (
          first_within (a_variable x) _ h,
          first_within (a_scan s) _ h1,
          expression_within a (front_of (expression_uses a) _ h2),
          expression_within b (back_of (expression_uses a) _ h2),
        )
    statement_within (held x s e) h =
        let h1 = rest_of (a_variable x) _ h in
        (first_within (a_variable x) _ h, first_within (a_scan s) _ h1, expression_within e (rest_of (a_scan s) _ h1))
    statement_within (out e) h = expression_within e h
    statement_within (branch e a b) h =
        let h1 = back_of (expression_uses e) _ h in (
          expression_within e (front_of (expression_uses e) _ h),
          block_within a (front_of (block_uses a) _ h1),
          block_within b (back_of (block_uses a) _ h1),
        )
    statement_within (repeat e a) h =
        (expression_within e (front_of (expression_uses e) _ h), block_within a (back_of (expression_uses e) _ h))

    pub block_within : (b : Block Name) → faults_in (block_uses b) ≡ [] → InBlock (map_block number_at b)
    block_within nil h = tt
    block_within (cons s b) h =
        (statement_within s (front_of (statement_uses s) _ h), block_within b (back_of (statement_uses s) _ h))
