-- The table of the last puts, as marks are added.
use Rattle.std.proofs.Common.{◌≡◌, ℕ, suc, ◌+◌, Bool, true, false, if◌then◌else◌, List, [], ◌∷◌, ◌++◌, length, refl, ap, ◌∙◌, sym, arith, Option, Some, None}
use Rattle.std.specs.Prelude.{◌==◌, ◌&&◌}
use Rattle.std.specs.BTreeMap.{BTreeMap}
use Rattle.base.specs.declared.event.Act.{Act}
use Rattle.base.specs.declared.event.Act.TheVariants as A
use Rattle.base.specs.declared.event.Event.{Event}
use Rattle.ticklab_draw.specs.declared.mark.Mark.{Mark}
use Rattle.ticklab_draw.specs.declared.mark.Holdings.{Holdings}
use Rattle.ticklab_draw.specs.Marks.{is_put, last_put, last_put_from, with_event, with_lost, mark_of}
use Rattle.ticklab_draw.specs.prover.Tables.{IsTable, Notes, writes}

-- the last mark counts last
last_put_more : (at : ℕ) (last : Option ℕ) (r i : ℕ) (marks : List Mark) (m : Mark)
    → last_put_from at last r i (marks ++ m ∷ []) ≡ (if is_put r i m then Some (at + length marks) else last_put_from at last r i marks)
last_put_more at last r i [] m = let e : at ≡ at + 0 = omega arith in ap (λ k. if is_put r i m then Some k else last) e
last_put_more at last r i (mark ∷ marks) m =
    let e : at + 1 + length marks ≡ at + suc (length marks) = omega arith in
    last_put_more (at + 1) (if is_put r i mark then Some at else last) r i marks m
    ∙ ap (λ k. if is_put r i m then Some k else last_put_from (at + 1) (if is_put r i mark then Some at else last) r i marks) e

-- the mark of an event is a put where the event is
mark_writes : (r i number : ℕ) (held : Option Holdings) (marks : List Mark) (p : ℕ) (act : Act)
    → is_put r i (mark_of number held marks (record { process = p; act = act })) ≡ writes r i (record { process = p; act = act })
mark_writes r i number held marks p (A.Get row j v) = refl
mark_writes r i number None marks p A.Stamp = refl
mark_writes r i number (Some held) marks p A.Stamp = refl
mark_writes r i number None marks p A.Clear = refl
mark_writes r i number (Some held) marks p A.Clear = refl
mark_writes r i number held marks p _ = refl

-- what is noted of an event makes it the table of the marks with that of the event
pub noted : (number : ℕ) (held : Option Holdings) (event : Event) (old new : BTreeMap ℕ ℕ) (marks more : List Mark)
    → IsTable old marks → Notes (length marks) event old new → more ≡ with_event number held event marks → IsTable new more
noted number held event old new marks more table notes is r i low =
    let zeroed : 0 + length marks ≡ length marks = omega arith in
    notes r i low
    ∙ ap (λ o. if writes r i event then Some (length marks) else o) (table r i low)
    ∙ sym (ap (λ b. if b then Some (length marks) else last_put r i marks) (mark_writes r i number held marks event.process event.act))
    ∙ sym (ap (λ k. if is_put r i (mark_of number held marks event) then Some k else last_put r i marks) zeroed)
    ∙ sym (last_put_more 0 None r i marks (mark_of number held marks event))
    ∙ ap (last_put r i) (sym is)

both_false : (b : Bool) → (b && false) ≡ false
both_false true = refl
both_false false = refl

-- a lost exchange is no put
pub not_noted : (number p : ℕ) (held : Holdings) (puts : BTreeMap ℕ ℕ) (marks more : List Mark)
    → IsTable puts marks → more ≡ with_lost number p held marks → IsTable puts more
not_noted number p held puts marks more table is r i low =
    table r i low
    ∙ sym (ap (λ b. if b then Some (0 + length marks) else last_put r i marks) (both_false (p == i)))
    ∙ sym (last_put_more 0 None r i marks _)
    ∙ ap (last_put r i) (sym is)
