-- A step of the history keeps the rule, whatever step and whatever word it is.
-- The idea. By the rule (`IsKept`) the words are what one history leaves, each view knows what its processes did, and no
-- two views hold one process. After a step the view that made it has seen all (`knows_all`). The step is of no process that
-- another view holds, so that one still knows what its own did (`knows_on`). No view holds more than before (`apart_set`).
-- Read `kept_step` first, then `moves`.
use Rattle.std.proofs.Common.{◌≡◌, ℕ, zero, suc, Bool, List, [], ◌∷◌, ◌++◌, set, refl, sym, ap, ◌∙◌, subst, inl, inr, ⊎_elim}
use Rattle.std.specs.Prelude.{slice_index, slice_set}
use mathlib.Core.Option.{some-injective, some-ne-none}
use Rattle.atomic_table.specs.Table.{State, Me, keeps, Allows}
use Rattle.atomic_table.proofs.Lists.{at_set}
use Rattle.word_core.specs.History.{memory_of, after, MayFollow, IsLegal}
use Rattle.word_core.specs.declared.history.Shared.{Shared}
use Rattle.word_core.proofs.OfferedHistory.{next_step, one_step}
use Rattle.stamp_table.specs.Passes.{Holds, mine, Extends}
use Rattle.stamp_table.specs.Rule.{table_words, plain, HoldsOne, At, Knows, Apart, IsKept}
use Rattle.stamp_table.specs.prover.Steps.{Does, Goes}
use Rattle.stamp_table.specs.declared.rule.View.{View}
use Rattle.stamp_table.proofs.Prefixes.{mine-rest, mine-snoc_other, starts_itself, starts_further}
use Rattle.stamp_table.proofs.Sets.{none_holds}

-- a new view stands where it was put
pub set_at : (views : List View) (id : ℕ) (v w : View) → At views id v → At (set views id w) id w
set_at [] id v w at = absurd (some-ne-none v (sym at))
set_at (x ∷ views) zero v w at = refl
set_at (x ∷ views) (suc id) v w at = set_at views id v w at

-- one view at a place
pub at_one : (views : List View) (id : ℕ) (v w : View) → At views id v → At views id w → v ≡ w
at_one views id v w at_v at_w = some-injective v w (sym at_v ∙ at_w)

-- a view that holds no more than the one that stood there keeps processes apart
pub apart_set : (views : List View) (id : ℕ) (v w : View) → At views id v → Apart views → ((p : ℕ) → HoldsOne w p → HoldsOne v p) → Apart (set views id w)
apart_set views id v w at apart less j k p x y at_x at_y holds_x holds_y =
    ⊎_elim
    (λ here_j. ⊎_elim
    (λ here_k. here_j.0 ∙ sym here_k.0)
    (λ there_k. absurd (there_k.0 (sym (apart id k p v y at there_k.1 (less p (subst (λ z. HoldsOne z p) (sym here_j.1) holds_x)) holds_y))))
    (at_set views id k w y at_y))
    (λ there_j. ⊎_elim
    (λ here_k. absurd (there_j.0 (apart j id p x v there_j.1 at holds_x (less p (subst (λ z. HoldsOne z p) (sym here_k.1) holds_y)))))
    (λ there_k. apart j k p x y there_j.1 there_k.1 holds_x holds_y)
    (at_set views id k w y at_y))
    (at_set views id j w x at_x)

-- a view that holds no process knows what it did, and one more step
knows_on : (history : List Shared) (s : Shared) (v : View) → Knows history v → (HoldsOne v s.process → ⊥) → Knows (history ++ s ∷ []) v
knows_on history s v knows free = record {
  seen = starts_further history v.seen (s ∷ []) knows.seen;
  told = starts_further history v.told (s ∷ []) knows.told;
  own = λ p holds. knows.own p holds ∙ sym (mine-snoc_other p history s (λ same. free (inl (subst (Holds v.held) (sym same) holds))));
  others = λ p holds. knows.others p holds ∙ sym (mine-snoc_other p history s (λ same. free (inr (subst (Holds v.more) (sym same) holds))));
}

-- a pass that has seen all knows all
pub knows_all : (history : List Shared) (held : List Bool) → Knows history (plain held history)
knows_all history held = record {
  seen = starts_itself history;
  told = (history, refl);
  own = λ p holds. refl;
  others = λ p holds. absurd (none_holds p holds);
}

-- what a pass held it holds
less_plain : (v : View) (seen : List Shared) (p : ℕ) → HoldsOne (plain v.held seen) p → HoldsOne v p
less_plain v seen p one = ⊎_elim (λ holds. inl holds) (λ none. absurd (none_holds p none)) one

-- what stands between the steps seen before and the new one is nobody's that is held
step_extends : (n rows : ℕ) (history : List Shared) (v : View) (s : Shared) → Knows history v → IsLegal n rows (history ++ s ∷ [])
    → Extends n rows v.held v.seen s (history ++ s ∷ [])
step_extends n rows history v s knows legal = record {
  between = knows.seen.0;
  is = ap (λ xs. xs ++ s ∷ []) knows.seen.1;
  others = λ p holds. mine-rest p v.seen knows.seen.0 (knows.own p holds ∙ ap (mine p) knows.seen.1);
  legal = legal;
}

-- the rule after the step
kept_step : (n rows : ℕ) (s : State ℕ View) (id : ℕ) (v : View) (word : ℕ) (value : ℕ) (step : Shared) (kept : IsKept n rows s) → At s.views id v
    → MayFollow n rows (memory_of n rows kept.history) step
    → slice_set (table_words (memory_of n rows kept.history)) word value ≡ table_words (after (memory_of n rows kept.history) step)
    → Holds v.held step.process
    → IsKept n rows (record { words = slice_set s.words word value; homes = s.homes; views = slice_set s.views id (plain v.held (kept.history ++ step ∷ [])) })
kept_step n rows s id v word value step kept at may writes holds =
    let history = kept.history in
    let new : List Shared = history ++ step ∷ [] in
    let w : View = plain v.held new in
    record {
      history = new;
      words = ap (λ (l : List ℕ). slice_set l word value) kept.words ∙ writes ∙ ap table_words (sym (one_step n rows history step).0);
      legal = (next_step n rows history step).1 (kept.legal, may);
      knows = λ j x at_x. ⊎_elim
          (λ here. subst (Knows new) here.1 (knows_all new v.held))
          (λ there. knows_on history step x (kept.knows j x there.1) (λ one. there.0 (kept.apart j id step.process x v there.1 at one (inl holds))))
          (at_set s.views id j w x at_x);
      apart = apart_set s.views id v w at kept.apart (less_plain v new);
      newest = (id, w, set_at s.views id v w at, inl refl);
    }

-- Each step of the history is allowed where its word becomes what the step makes of it.
pub moves : (n rows slots id : ℕ) (me : Me ℕ View) → me ≡ (plain me.0.held me.0.seen, []) → (word : ℕ) (f : ℕ → ℕ) (makes : ℕ → Shared)
    → Goes n rows me.0.held word f makes
    → Allows (IsKept n rows) slots id me word f (λ found w. Does n rows (makes found) me w)
moves n rows slots id me is word f makes goes s kept len at fits =
    let history = kept.history in
    let found : ℕ = slice_index s.words word in
    let go = goes history kept.legal found (ap (λ (l : List ℕ). slice_index l word) kept.words) in
    let step : Shared = makes found in
    let new : List Shared = history ++ step ∷ [] in
    let legal : IsLegal n rows new = (next_step n rows history step).1 (kept.legal, go.0) in (
      plain me.0.held new,
      keeps,
      tt,
      kept_step n rows s id me.0 word (f found) step kept at go.0 go.1 go.2,
      (refl, step_extends n rows history me.0 step (kept.knows id me.0 at) legal),
    )
