-- Cutting a process off a pass, taking another pass in, and finding which of the two saw more keep the rule.
--
-- The idea. The rule of a table (`IsKept`, `specs/Rule.antt`) has six parts, and three of them speak of views only
-- through one list: what each view knows (`knows`), that no process is held twice (`apart`), and that some view has
-- seen all (`newest`). A table's step changes one view and adds one step. The three things of this page add no step;
-- they only deal with views. So `history`, `words` and `legal` are what they were, and each of the three parts is
-- shown for every view `j` of the new list by asking whether `j` is a view that was changed or one that stood by.
-- `at_set`, `at_end` and `who` are that question; `there`, `by` and `among` are the answers under which the old rule
-- serves as it is.
--
-- Cutting off (`splits`). The pass keeps the others (`without p v`), and a new pass at the list's end has `p` alone
-- (`alone p v`). Both have seen what the one had seen, so each knows what it must know. A process is held by one of
-- the two: the left one doesn't hold `p`, the right one holds nothing else (`right_is`); whoever held nothing of the
-- pass before still holds nothing of it. If the pass was the newest, its left part is.
--
-- Taking in (`joins`). The two passes may have seen unlike beginnings, and which is the longer isn't known without
-- a look at the table. So the view keeps both (`joined v w`): its own as `seen`, with the processes `held`, and that
-- of the other as `told`, with the processes `more`. This is why a view has two halves, and why `Knows` says things
-- of each. The other pass's place stays in the list as a view of nobody, since views are counted and never taken out.
--
-- Finding which saw more (`settles`). At the next look the two halves become one. Both are beginnings of the one
-- history, so one is a beginning of the other, and the longer one (`longer`) is a beginning too. What is to be shown
-- is that of each process that is held it has all steps: its own half had them all, and between that half and the
-- whole history, where the longer one lies, there are none of that process (`mine-middle`). What the caller learns
-- from it is `Learns`; that it is legal is said of any beginning of a legal history (`beginning`).
use Rattle.std.proofs.Common.{◌≡◌, ◌≢◌, ◌⊎◌, ℕ, zero, suc, Bool, true, false, List, [], ◌∷◌, ◌++◌, length, set, refl, sym, ap, ◌∙◌, subst, inl, inr, ⊎_elim, arith}
use Rattle.std.specs.Prelude.{slice_index, slice_set}
use Rattle.std.proofs.lemmas.List.{set-get_or}
use Rattle.std.proofs.lemmas.Bool.{cases_eq}
use mathlib.Core.Option.{some-injective, some-ne-none}
use Rattle.atomic_table.specs.Table.{State, Me, keeps, Allows, Splits, Joins}
use Rattle.atomic_table.proofs.Lists.{at_set, at_longer, set_else}
use Rattle.word_core.specs.History.{IsLegal}
use Rattle.word_core.specs.declared.history.Shared.{Shared}
use Rattle.word_core.proofs.OfferedHistory.{beginning}
use Rattle.stamp_table.specs.Passes.{Holds, none_held, StartsWith, longer}
use Rattle.stamp_table.specs.Rule.{plain, HoldsOne, At, Knows, Apart, Newest, IsKept}
use Rattle.stamp_table.specs.prover.Steps.{without, alone, joined, nobody, settled, Learns, Settles}
use Rattle.stamp_table.specs.declared.rule.View.{View}
use Rattle.stamp_table.proofs.Prefixes.{mine-middle, starts_whole, longer_starts, longer_first, longer_second, longer_whole}
use Rattle.stamp_table.proofs.Sets.{none_holds, holds_without, holds_alone, holds_together}
use Rattle.stamp_table.proofs.Kept.{set_at, at_one, apart_set}

-- a view at the end, and its place
at_end : (views : List View) (v w : View) (j : ℕ) → At (views ++ v ∷ []) j w
    → At views j w ⊎ ((v ≡ w) × (j ≡ length views))
at_end [] v w zero at = inr (some-injective v w at, refl)
at_end [] v w (suc j) at = absurd (some-ne-none w (sym at))
at_end (x ∷ views) v w zero at = inl at
at_end (x ∷ views) v w (suc j) at = ⊎_elim (λ there. inl there) (λ here. inr (here.0, ap suc here.1))
    (at_end views v w j at)

-- a pass that has taken in no other has seen all where its view is the newest
plain_newest : (history : List Shared) (v : View) → v ≡ plain v.held v.seen → StartsWith history v.seen
    → (v.seen ≡ history) ⊎ (v.told ≡ history)
    → v.seen ≡ history
plain_newest history v is starts one =
    ⊎_elim
    (λ seen. seen)
    (λ told.
    let none : [] ≡ history = sym (ap (λ (z : View). z.told) is) ∙ told in
    let short : length history ≡ 0 = sym (ap length none) in
    starts_whole history v.seen starts (omega (arith, short)))
    one

-- the view at a place has seen all, or the one that has stands elsewhere
newest_at : (history : List Shared) (views : List View) (id : ℕ) (v : View) → At views id v → (newest : Newest history views)
    → ((v.seen ≡ history) ⊎ (v.told ≡ history)) ⊎ (newest.0 ≢ id)
newest_at history views id v at newest =
    ⊎_elim
    (λ same. inl
    (subst (λ (z : View). (z.seen ≡ history) ⊎ (z.told ≡ history))
    (at_one views id newest.1 v (subst (λ k. At views k newest.1) same newest.2) at) newest.3))
    (λ other. inr other)
    (cases_eq newest.0 id)

module _ (n rows id p : ℕ) (v : View) (is : v ≡ plain v.held v.seen) (held : Holds v.held p) (s : State ℕ View)
    (kept : IsKept n rows s) (at : At s.views id v) where
  -- a view that has seen the same, and holds nobody else
  knows_part : (part : List Bool) → ((q : ℕ) → Holds part q → Holds v.held q) → Knows kept.history (plain part v.seen)
  knows_part part less =
      let knows = kept.knows id v at in
      record {
        seen = knows.seen;
        told = (kept.history, refl);
        own = λ q holds. knows.own q (less q holds);
        others = λ q holds. absurd (none_holds q holds);
      }

  knows_left : Knows kept.history (without p v)
  knows_left = knows_part (slice_set v.held p false) (λ q holds. (holds_without v.held p q holds).1)

  knows_right : Knows kept.history (alone p v)
  knows_right = knows_part (slice_set none_held p true) (λ q holds. subst (Holds v.held) (sym (holds_alone p q holds)) held)

  less_left : (q : ℕ) → HoldsOne (without p v) q → HoldsOne v q
  less_left q one = ⊎_elim (λ holds. inl (holds_without v.held p q holds).1) (λ none. absurd (none_holds q none)) one

  right_is : (q : ℕ) → HoldsOne (alone p v) q → q ≡ p
  right_is q one = ⊎_elim (λ holds. holds_alone p q holds) (λ none. absurd (none_holds q none)) one

  -- nobody of the others holds the process that was cut off
  cut_off : (j q : ℕ) (x : View) → At (set s.views id (without p v)) j x → HoldsOne x q → HoldsOne (alone p v) q → ⊥
  cut_off j q x at_x one right =
      let same : q ≡ p = right_is q right in
      ⊎_elim
      (λ here. ⊎_elim
      (λ holds. (holds_without v.held p q holds).0 same)
      (λ none. none_holds q none)
      (subst (λ z. HoldsOne z q) (sym here.1) one))
      (λ there. there.0 (kept.apart j id q x v there.1 at one (inl (subst (Holds v.held) (sym same) held))))
      (at_set s.views id j (without p v) x at_x)

  split_kept : IsKept n rows (record {
    words = s.words;
    homes = s.homes;
    views = slice_set s.views id (without p v) ++ alone p v ∷ [];
  })
  split_kept =
      let rest : List View = set s.views id (without p v) in
      let apart : Apart rest = apart_set s.views id v (without p v) at kept.apart less_left in
      record {
        history = kept.history;
        words = kept.words;
        legal = kept.legal;
        knows = λ j x at_x. ⊎_elim
            (λ among. ⊎_elim
            (λ here. subst (Knows kept.history) here.1 knows_left)
            (λ there. kept.knows j x there.1)
            (at_set s.views id j (without p v) x among))
            (λ last. subst (Knows kept.history) last.0 knows_right)
            (at_end rest (alone p v) x j at_x);
        apart = λ j k q x y at_x at_y one_x one_y. ⊎_elim
            (λ among_x. ⊎_elim
            (λ among_y. apart j k q x y among_x among_y one_x one_y)
            (λ last_y. absurd (cut_off j q x among_x one_x (subst (λ z. HoldsOne z q) (sym last_y.0) one_y)))
            (at_end rest (alone p v) y k at_y))
            (λ last_x. ⊎_elim
            (λ among_y. absurd (cut_off k q y among_y one_y (subst (λ z. HoldsOne z q) (sym last_x.0) one_x)))
            (λ last_y. last_x.1 ∙ sym last_y.1)
            (at_end rest (alone p v) y k at_y))
            (at_end rest (alone p v) x j at_x);
        newest = ⊎_elim
            (λ here. (
              id,
              without p v,
              at_longer rest (alone p v ∷ []) id (without p v) (set_at s.views id v (without p v) at),
              inl (plain_newest kept.history v is (kept.knows id v at).seen here),
            ))
            (λ other. (
              kept.newest.0,
              kept.newest.1,
              at_longer rest (alone p v ∷ []) kept.newest.0 kept.newest.1
                  (set_else s.views id kept.newest.0 (without p v) other ∙ kept.newest.2),
              kept.newest.3,
            ))
            (newest_at kept.history s.views id v at kept.newest);
      }

-- A process that is held can be cut off.
pub splits : (n rows id p : ℕ) (v : View) → v ≡ plain v.held v.seen → Holds v.held p
    → Splits (IsKept n rows) id v (without p v) (alone p v)
splits n rows id p v is held s kept at = split_kept n rows id p v is held s kept at

module _ (n rows id other : ℕ) (v w : View) (v_is : v ≡ plain v.held v.seen) (w_is : w ≡ plain w.held w.seen)
    (s : State ℕ View) (kept : IsKept n rows s)
    (at_v : At s.views id v) (differ : ¬ (other ≡ id)) (at_w : At s.views other w) where
  knows_joined : Knows kept.history (joined v w)
  knows_joined =
      let first = kept.knows id v at_v in
      let second = kept.knows other w at_w in
      record { seen = first.seen; told = second.seen; own = first.own; others = second.own }

  knows_nobody : Knows kept.history nobody
  knows_nobody = record {
    seen = (kept.history, refl);
    told = (kept.history, refl);
    own = λ q holds. absurd (none_holds q holds);
    others = λ q holds. absurd (none_holds q holds);
  }

  -- whoever holds a process afterwards is the one that took the other in, or one that stood by
  who : (j q : ℕ) (x : View) → At (set (set s.views id (joined v w)) other nobody) j x → HoldsOne x q
      → ((j ≡ id) × HoldsOne (joined v w) q) ⊎ ((j ≢ id) × (j ≢ other) × At s.views j x)
  who j q x at_x one =
      ⊎_elim
      (λ here. absurd (⊎_elim (λ none. none_holds q none) (λ none. none_holds q none)
      (subst (λ z. HoldsOne z q) (sym here.1) one)))
      (λ there. ⊎_elim
      (λ taker. inl (taker.0, subst (λ z. HoldsOne z q) (sym taker.1) one))
      (λ by. inr (by.0, there.0, by.1))
      (at_set s.views id j (joined v w) x there.1))
      (at_set (set s.views id (joined v w)) other j nobody x at_x)

  -- nobody who stood by holds what one of the two held
  stood_by : (k q : ℕ) (y : View) → HoldsOne (joined v w) q → k ≢ id → k ≢ other → At s.views k y → HoldsOne y q → ⊥
  stood_by k q y one not_id not_other at_y one_y =
      ⊎_elim
      (λ first. not_id (kept.apart k id q y v at_y at_v one_y (inl first)))
      (λ second. not_other (kept.apart k other q y w at_y at_w one_y (inl second)))
      one

  joined_at : At (set (set s.views id (joined v w)) other nobody) id (joined v w)
  joined_at =
      set_else (set s.views id (joined v w)) other id nobody (λ same. differ (sym same))
      ∙ set_at s.views id v (joined v w) at_v

  join_kept : IsKept n rows (record {
    words = s.words;
    homes = s.homes;
    views = slice_set (slice_set s.views id (joined v w)) other nobody;
  })
  join_kept = record {
    history = kept.history;
    words = kept.words;
    legal = kept.legal;
    knows = λ j x at_x. ⊎_elim
        (λ here. subst (Knows kept.history) here.1 knows_nobody)
        (λ there. ⊎_elim
        (λ taker. subst (Knows kept.history) taker.1 knows_joined)
        (λ by. kept.knows j x by.1)
        (at_set s.views id j (joined v w) x there.1))
        (at_set (set s.views id (joined v w)) other j nobody x at_x);
    apart = λ j k q x y at_x at_y one_x one_y. ⊎_elim
        (λ taker_x. ⊎_elim
        (λ taker_y. taker_x.0 ∙ sym taker_y.0)
        (λ by_y. absurd (stood_by k q y taker_x.1 by_y.0 by_y.1 by_y.2 one_y))
        (who k q y at_y one_y))
        (λ by_x. ⊎_elim
        (λ taker_y. absurd (stood_by j q x taker_y.1 by_x.0 by_x.1 by_x.2 one_x))
        (λ by_y. kept.apart j k q x y by_x.2 by_y.2 one_x one_y)
        (who k q y at_y one_y))
        (who j q x at_x one_x);
    newest = ⊎_elim
        (λ first. (id, joined v w, joined_at, inl (plain_newest kept.history v v_is (kept.knows id v at_v).seen first)))
        (λ not_id. ⊎_elim
        (λ second. (id, joined v w, joined_at, inr (plain_newest kept.history w w_is (kept.knows other w at_w).seen second)))
        (λ not_other. (
          kept.newest.0,
          kept.newest.1,
          set_else (set s.views id (joined v w)) other kept.newest.0 nobody not_other
              ∙ (set_else s.views id kept.newest.0 (joined v w) not_id ∙ kept.newest.2),
          kept.newest.3,
        ))
        (newest_at kept.history s.views other w at_w kept.newest))
        (newest_at kept.history s.views id v at_v kept.newest);
  }

-- A pass can be taken in.
pub joins : (n rows id : ℕ) (v : View) (other : ℕ) (w : View) → v ≡ plain v.held v.seen → w ≡ plain w.held w.seen
    → Joins (IsKept n rows) id v other w (joined v w) nobody
joins n rows id v other w v_is w_is s kept at_v differ at_w =
    join_kept n rows id other v w v_is w_is s kept at_v differ
    (sym (set_else s.views id other (joined v w) differ) ∙ at_w)

-- What a pass that has taken in another learns when it looks at the table.
learns : (n rows : ℕ) (history : List Shared) (v : View) → IsLegal n rows history → Knows history v → Learns n rows v
learns n rows history v legal knows =
    let long : StartsWith history (longer v.seen v.told) = longer_starts history v.seen v.told knows.seen knows.told in
    let over_first : StartsWith (longer v.seen v.told) v.seen =
    longer_first history v.seen v.told knows.seen knows.told in
    let over_second : StartsWith (longer v.seen v.told) v.told =
    longer_second history v.seen v.told knows.seen knows.told in
    record {
      first = over_first;
      second = over_second;
      own = λ p holds. mine-middle p history (longer v.seen v.told) v.seen long over_first (knows.own p holds);
      others = λ p holds. mine-middle p history (longer v.seen v.told) v.told long over_second (knows.others p holds);
      legal = beginning n rows (longer v.seen v.told) long.0 (subst (IsLegal n rows) long.1 legal);
    }

knows_settled : (n rows : ℕ) (history : List Shared) (v : View) → IsLegal n rows history → Knows history v
    → Knows history (settled v)
knows_settled n rows history v legal knows =
    let agrees = learns n rows history v legal knows in
    record {
      seen = longer_starts history v.seen v.told knows.seen knows.told;
      told = (history, refl);
      own = λ p holds. ⊎_elim
          (λ first. agrees.own p first ∙ knows.own p first)
          (λ second. agrees.others p second ∙ knows.others p second)
          (holds_together v.held v.more p holds);
      others = λ p holds. absurd (none_holds p holds);
    }

less_settled : (v : View) (p : ℕ) → HoldsOne (settled v) p → HoldsOne v p
less_settled v p one = ⊎_elim (λ holds. holds_together v.held v.more p holds) (λ none. absurd (none_holds p none)) one

settled_kept : (n rows id : ℕ) (v : View) (s : State ℕ View) (kept : IsKept n rows s) → At s.views id v
    → IsKept n rows (record {
      words = slice_set s.words 0 (slice_index s.words 0);
      homes = s.homes;
      views = slice_set s.views id (settled v);
    })
settled_kept n rows id v s kept at =
    let knows : Knows kept.history v = kept.knows id v at in
    record {
      history = kept.history;
      words = set-get_or s.words 0 0 ∙ kept.words;
      legal = kept.legal;
      knows = λ j x at_x. ⊎_elim
          (λ here. subst (Knows kept.history) here.1 (knows_settled n rows kept.history v kept.legal knows))
          (λ there. kept.knows j x there.1)
          (at_set s.views id j (settled v) x at_x);
      apart = apart_set s.views id v (settled v) at kept.apart (less_settled v);
      newest = ⊎_elim
          (λ here. (id, settled v, set_at s.views id v (settled v) at, inl (longer_whole kept.history v.seen v.told knows.seen knows.told here)))
          (λ other. (
            kept.newest.0,
            kept.newest.1,
            set_else s.views id kept.newest.0 (settled v) other ∙ kept.newest.2,
            kept.newest.3,
          ))
          (newest_at kept.history s.views id v at kept.newest);
    }

-- A pass that has taken in another finds which of the two saw more.
pub settles : (n rows slots id : ℕ) (me : Me ℕ View) → Allows (IsKept n rows) slots id me 0 (λ x. x)
    (λ found w. Settles n rows me w)
settles n rows slots id me s kept len at fits = (
  settled me.0,
  keeps,
  tt,
  settled_kept n rows id me.0 s kept at,
  (refl, learns n rows kept.history me.0 kept.legal (kept.knows id me.0 at)),
)
