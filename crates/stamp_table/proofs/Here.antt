-- What is known of a pass at a call on its table, and what the call owes of it.
use Rattle.std.proofs.Common.{◌≡◌, ℕ, ◌<◌, [], refl, sym, ap, ◌∙◌, subst}
use Rattle.atomic_table.specs.Table.{Me}
use Rattle.atomic_table.specs.Seated.{TableId}
use Rattle.word_core.specs.declared.history.Shared.{Shared}
use Rattle.stamp_table.specs.Passes.{Holds, TableView, PassView, Extends, Appends}
use Rattle.stamp_table.specs.Rule.{plain}
use Rattle.stamp_table.specs.prover.Steps.{Does}
use Rattle.stamp_table.specs.declared.rule.View.{View}
use Rattle.stamp_table.specs.declared.pass.Pass.TheInside as P
use Rattle.stamp_table.specs.declared.table.StampTable.TheInside as T
use Rattle.stamp_table.specs.contracts.pass.Pass as pass
use Rattle.stamp_table.specs.contracts.table.StampTable as table

-- the pass is of this table
pub record IsOf (inside : P.Inside) (seen : PassView) (own : T.Inside) : Type 0 where
  pub view : pass.the_view inside ≡ seen
  pub plain : inside.seat.me ≡ (plain inside.held inside.seat.me.0.seen, [])
  pub few : (p : ℕ) → Holds inside.held p → p < inside.n
  pub id : inside.seat.table_id ≡ own.table.shared.table_id
  pub n : own.n ≡ inside.n
  pub rows : own.rows ≡ inside.rows
  pub key_n : own.table.shared.key.n ≡ inside.n
  pub key_rows : own.table.shared.key.rows ≡ inside.rows

pub is_of : (inside : P.Inside) (seen : PassView) → pass.the_view inside ≡ seen → pass.the_invariant inside
    → (own : T.Inside) (t : TableView) → table.the_view own ≡ t → table.the_invariant own → seen.table ≡ t → IsOf inside seen own
is_of inside seen view kept own t own_view own_kept here =
    let same : (pass.the_view inside).table ≡ table.the_view own = ap (λ (z : PassView). z.table) view ∙ here ∙ sym own_view in
    record {
      view = view;
      plain = kept.0;
      few = kept.1;
      id = ap (λ (z : TableView). z.id) same;
      n = sym (ap (λ (z : TableView). z.n) same);
      rows = sym (ap (λ (z : TableView). z.rows) same);
      key_n = sym own_kept.0 ∙ sym (ap (λ (z : TableView). z.n) same);
      key_rows = sym own_kept.1 ∙ sym (ap (λ (z : TableView). z.rows) same);
    }

module _ (inside : P.Inside) (seen : PassView) (own : T.Inside) (of : IsOf inside seen own) where
  pub held_inside : (p : ℕ) → Holds seen.held p → Holds inside.held p
  held_inside p holds = subst (λ (z : PassView). Holds z.held p) (sym of.view) holds

  pub held_seat : (p : ℕ) → Holds seen.held p → Holds inside.seat.me.0.held p
  held_seat p holds = subst (λ (m : Me ℕ View). Holds m.0.held p) (sym of.plain) (held_inside p holds)

  pub in_range : (p : ℕ) → Holds seen.held p → p < inside.n
  in_range p holds = of.few p (held_inside p holds)

  pub in_key : (p : ℕ) → Holds seen.held p → p < own.table.shared.key.n
  in_key p holds = subst (λ k. p < k) (sym of.key_n) (in_range p holds)

  -- the step that was made, in the numbers of the pass
  pub extended : (s : Shared) (new : Me ℕ View) → Does own.table.shared.key.n own.table.shared.key.rows s inside.seat.me new
      → Extends inside.n inside.rows inside.held inside.seat.me.0.seen s new.0.seen
  extended s new did =
      let held : inside.seat.me.0.held ≡ inside.held = ap (λ (m : Me ℕ View). m.0.held) of.plain in
      subst (λ k. Extends k inside.rows inside.held inside.seat.me.0.seen s new.0.seen) of.key_n
      (subst (λ k. Extends own.table.shared.key.n k inside.held inside.seat.me.0.seen s new.0.seen) of.key_rows
      (subst (λ h. Extends own.table.shared.key.n own.table.shared.key.rows h inside.seat.me.0.seen s new.0.seen) held did.1))

  pub appended : (s : Shared) (new_id : TableId) (new : Me ℕ View) → new_id ≡ inside.seat.table_id
      → Does own.table.shared.key.n own.table.shared.key.rows s inside.seat.me new
      → Appends seen s (record { table = record { id = new_id; n = inside.n; rows = inside.rows }; held = inside.held; seen = new.0.seen })
  appended s new_id new same did =
      let after : PassView = record { table = record { id = new_id; n = inside.n; rows = inside.rows }; held = inside.held; seen = new.0.seen } in
      subst (λ (z : PassView). Appends z s after) of.view
      (record {
        table = ap (λ (i : TableId). let t : TableView = record { id = i; n = inside.n; rows = inside.rows } in t) same;
        held = refl;
        extends = extended s new did;
      })

  pub in_own : (p : ℕ) → Holds seen.held p → p < own.n
  in_own p holds = subst (λ k. p < k) (sym of.n) (in_range p holds)

  -- a number of the table is that of its rule
  pub row_in_key : (t : TableView) → table.the_view own ≡ t → table.the_invariant own → (r : ℕ) → r < t.rows → r < own.table.shared.key.rows
  row_in_key t view kept r in_r = subst (λ k. r < k) kept.1 (subst (λ (z : TableView). r < z.rows) (sym view) in_r)

  pub index_in_key : (t : TableView) → table.the_view own ≡ t → table.the_invariant own → (i : ℕ) → i < t.n → i < own.table.shared.key.n
  index_in_key t view kept i in_i = subst (λ k. i < k) kept.0 (subst (λ (z : TableView). i < z.n) (sym view) in_i)

  -- a pass has taken in no other
  pub plain_seat : inside.seat.me.0 ≡ plain inside.seat.me.0.held inside.seat.me.0.seen
  plain_seat =
      let me : Me ℕ View = inside.seat.me in
      let held : me.0.held ≡ inside.held = ap (λ (m : Me ℕ View). m.0.held) of.plain in
      ap (λ (m : Me ℕ View). m.0) of.plain ∙ ap (λ h. plain h me.0.seen) (sym held)
