use Rattle.std.proofs.Common.{◌≡◌, ⊎_elim, suc, ◌+◌, ◌-◌, ◌<◌, ◌++◌, length, take, drop, ap, ◌∙◌, sym, subst, arith}
use Rattle.std.specs.Prelude.{slice_get}
use Rattle.tick_kinds.specs.Resolution.{resolved}
use Rattle.searches_explore.specs.Lines.{lines_of}
use Rattle.searches_hunt.specs.Hunts.{without}
use Rattle.searches_hunt.specs.Never.{IsFaultless}
use Rattle.searches_hunt.specs.prover.Parts.{IsFaultOf}
use Rattle.searches_hunt.proofs.Runs.{most_or_more}
use Rattle.searches_hunt.proofs.Left.{fault_all, fault_seen, left_short, length_without, none_at, some_at, without_same}
use Rattle.searches_hunt.proofs.shrinking.Shrinker.without_items.Goals as goal
use Rattle.searches_hunt.proofs.shrinking.Shrinker.without_items.Goals.{in-Some, in-None+then-size-gt1, in-None+else-size-gt1}

pub items-init : goal.items-init
items-init c = (
  fault_all (resolved c.args.self.now.program.now) (lines_of c.args.self.now.lines.now) c.args.schedule.items c.requires,
  λ same place h. absurd (omega arith),
  omega arith,
)

pub items-preserved-then-is_as_before : goal.items-preserved-then-is_as_before
items-preserved-then-is_as_before c =
    let a = resolved c.args.self.now.program.now in
    let lines = lines_of c.args.self.now.lines.now in
    let at = c.items.at in
    let kept = c.items.kept.items in
    let inv = c.items.invariant in
    let like = c.is_as_before.ensures c.if-is_as_before.true in
    let same_item : slice_get kept at ≡ slice_get kept (at - 1) = subst (λ l. slice_get l at ≡ slice_get l (at - 1)) c.deref.ensures.value like.1 in
    let inside : at < length kept = omega (arith, c.items-test.true, c.len.ensures) in (
      inv.0,
      λ same place h. ⊎_elim
          (λ below. inv.1 same place below)
          (λ above. subst (IsFaultless a lines) (sym (ap (λ i. without i kept) (let e : place ≡ at = omega arith in e) ∙ without_same at kept like.0 inside same_item))
          (inv.1 same (at - 1) (omega (arith, like.0))))
          (most_or_more (suc place) at),
      inv.2,
    )

pub items-preserved : goal.items-preserved
items-preserved c =
    let a = resolved c.args.self.now.program.now in
    let lines = lines_of c.args.self.now.lines.now in
    let whole = c.args.schedule.items in
    let at = c.items.at in
    let kept = c.items.kept.items in
    let inv = c.items.invariant in
    let seen = c.deref-else-is_as_before-2.result.now in
    let tried = c.deref-else-is_as_before-3.result.now in
    let is_seen : seen ≡ kept = c.deref-else-is_as_before-2.ensures.value in
    let inside : at < length kept = omega (arith, c.items-test.true, c.len.ensures) in
    elim c.match-branch-3.branch [
      | in-Some w ↦
          let fewer = w.in-Some.left.items in
          let short : length fewer < length seen =
          some_at (λ made. length made.items < length seen) c.in_ok-left.field-0 w.in-Some.left w.in-Some.is c.in_ok-left.ensures.fewer in (
            subst (λ v. IsFaultOf a lines whole v.items) (sym w.kept-is)
                (fault_seen a lines whole kept seen fewer inv.0 is_seen
                (some_at (λ made. IsFaultOf a lines seen made.items) c.in_ok-left.field-0 w.in-Some.left w.in-Some.is c.in_ok-left.ensures.fault)),
            λ same place h. absurd (omega (arith, short, ap length is_seen, left_short kept whole inv.0.left, ap (λ v. length v.items) w.kept-is, same)),
            first_of (omega (arith, w.size-is, w.saturating_mul-size.ensures, inv.2), grind (arith, w.size-is, w.saturating_mul-size.ensures, inv.2)),
          )
      | in-None+then-size-gt1 w ↦ (
        subst (λ v. IsFaultOf a lines whole v.items) (sym w.kept-is) inv.0,
        λ same place h. subst (λ v. IsFaultless a lines (without place v.items)) (sym w.kept-is)
            (inv.1 (sym (ap (λ v. length v.items) w.kept-is) ∙ same) place (omega (arith, h, w.at-is))),
        omega (arith, w.size-is),
      )
      | in-None+else-size-gt1 w ↦
          let one : c.min.result ≡ 1 = first_of (
            omega (arith, c.min.ensures, c.len-else-is_as_before.ensures, c.len.ensures, c.items-test.true, w.if-size-gt1.false, inv.2),
            grind (arith, c.min.ensures, c.len-else-is_as_before.ensures, c.len.ensures, c.items-test.true, w.if-size-gt1.false, inv.2),
          ) in
          let is_rest : tried ≡ without at kept =
          c.deref-else-is_as_before-3.ensures.value ∙ c.in_ok-rest.ensures.rest
          ∙ ap (λ l. take at l ++ drop (at + c.min.result) l) c.deref-else-is_as_before.ensures.value
          ∙ ap (λ i. take at kept ++ drop (at + i) kept) one in
          let shorter : length tried < length seen =
          omega (arith, ap length is_rest, ap length is_seen, length_without at (at + 1) kept (omega arith) (omega (arith, inside))) in
          let none : IsFaultless a lines (without at kept) =
          subst (IsFaultless a lines) is_rest (none_at (length tried < length seen → IsFaultless a lines tried) c.in_ok-left.field-0 w.in-None.is c.in_ok-left.ensures.none shorter) in (
            subst (λ v. IsFaultOf a lines whole v.items) (sym w.kept-is) inv.0,
            λ same place h. subst (λ v. IsFaultless a lines (without place v.items)) (sym w.kept-is) (⊎_elim
                (λ below. inv.1 (sym (ap (λ v. length v.items) w.kept-is) ∙ same) place below)
                (λ above. subst (λ i. IsFaultless a lines (without i kept)) (let e : at ≡ place = omega (arith, above, h, w.at-is, one) in e) none)
                (most_or_more (suc place) at)),
            omega (arith, w.size-is, inv.2),
          )
    ]
