-- A table begins with an empty history, and where one pass holds all processes it has seen all.
use Rattle.std.proofs.Common.{◌≡◌, ℕ, zero, suc, ◌<◌, cond, List, [], ◌∷◌, ◌++◌, length, refl, sym, ap, ◌∙◌, subst, inl, arith, append_assoc}
use Rattle.std.proofs.lemmas.Bool.{eq-eqb}
use Rattle.std.proofs.lemmas.List.{append-nil}
use mathlib.Core.Option.{some-injective, some-ne-none}
use Rattle.atomic_table.specs.Table.{opening, Final, Seen}
use Rattle.word_core.specs.History.{start_memory, memory_of, IsLegal}
use Rattle.word_core.specs.declared.history.Shared.{Shared}
use Rattle.word_core.proofs.OfferedHistory.{beginning, next_step}
use Rattle.stamp_table.specs.Passes.{Holds, mine, PassView}
use Rattle.stamp_table.specs.Rule.{table_words, first_view, At, Knows, IsKept}
use Rattle.stamp_table.specs.declared.rule.View.{View}
use Rattle.stamp_table.proofs.Prefixes.{mine-rest}
use Rattle.stamp_table.specs.declared.pass.Pass.TheInside as P
use Rattle.stamp_table.specs.declared.table.StampTable.TheInside as T
use Rattle.stamp_table.proofs.Sets.{none_holds}
use Rattle.stamp_table.proofs.Here.{IsOf, held_seat}

only_at : (v w : View) (j : ℕ) → At (v ∷ []) j w → (v ≡ w) × (j ≡ 0)
only_at v w zero at = (some-injective v w at, refl)
only_at v w (suc j) at = absurd (some-ne-none w (sym at))

knows_start : (n : ℕ) → Knows [] (first_view n)
knows_start n = record {
  seen = ([], refl);
  told = ([], refl);
  own = λ p holds. refl;
  others = λ p holds. absurd (none_holds p holds);
}

-- the rule holds where nothing has been done yet
pub opens : (n rows : ℕ) (words : List ℕ) → words ≡ table_words (start_memory n rows) → IsKept n rows (opening words [] (first_view n))
opens n rows words is = record {
  history = [];
  words = is;
  legal = tt;
  knows = λ j x at. subst (Knows []) (only_at (first_view n) x j at).0 (knows_start n);
  apart = λ j k p x y at_x at_y one_x one_y. (only_at (first_view n) x j at_x).1 ∙ sym (only_at (first_view n) y k at_y).1;
  newest = (0, first_view n, refl, inl refl);
}

-- what follows what was seen is empty where each process has no step in it
nothing_more : (n rows : ℕ) (seen rest : List Shared) → IsLegal n rows (seen ++ rest) → ((p : ℕ) → p < n → mine p rest ≡ []) → rest ≡ []
nothing_more n rows seen [] legal none = refl
nothing_more n rows seen (s ∷ rest) legal none =
    let front : IsLegal n rows (seen ++ s ∷ []) = beginning n rows (seen ++ s ∷ []) rest (subst (IsLegal n rows) (sym (append_assoc seen (s ∷ []) rest)) legal) in
    let inside : s.process < n = ((next_step n rows seen s).0 front).1.0 in
    let here : mine s.process (s ∷ rest) ≡ s ∷ mine s.process rest =
    ap (λ b. cond b (s ∷ mine s.process rest) (mine s.process rest)) (eq-eqb s.process s.process refl) in
    let long : length (s ∷ mine s.process rest) ≡ 0 = ap length (sym here ∙ none s.process inside) in
    absurd (omega (arith, long))

-- a pass that holds all processes has seen the whole history
all_seen : (n rows : ℕ) (history : List Shared) (v : View) → IsLegal n rows history → Knows history v → ((p : ℕ) → p < n → Holds v.held p)
    → v.seen ≡ history
all_seen n rows history v legal knows all =
    let rest : List Shared = knows.seen.0 in
    let is : history ≡ v.seen ++ rest = knows.seen.1 in
    let none : rest ≡ [] = nothing_more n rows v.seen rest (subst (IsLegal n rows) is legal)
    (λ p inside. mine-rest p v.seen rest (knows.own p (all p inside) ∙ ap (mine p) is)) in
    sym (is ∙ ap (λ xs. v.seen ++ xs) none ∙ append-nil v.seen)

-- what stands in the words at the end is what the history that was seen gives
pub ends : (n rows id : ℕ) (v : View) (words slots : List ℕ) → ((p : ℕ) → p < n → Holds v.held p) → Final (Seen (IsKept n rows) id v) words slots
    → (words ≡ table_words (memory_of n rows v.seen)) × IsLegal n rows v.seen
ends n rows id v words slots all final =
    let kept : IsKept n rows final.0 = final.1.0 in
    let same : v.seen ≡ kept.history = all_seen n rows kept.history v kept.legal (kept.knows id v final.1.1) all in (
      sym final.2 ∙ kept.words ∙ ap (λ (h : List Shared). table_words (memory_of n rows h)) (sym same),
      subst (IsLegal n rows) (sym same) kept.legal,
    )

-- the same in the numbers of the pass
pub finished : (inside : P.Inside) (seen : PassView) (own : T.Inside) (of : IsOf inside seen own) (words slots : List ℕ)
    → ((p : ℕ) → p < own.n → Holds seen.held p)
    → Final (Seen (IsKept own.table.shared.key.n own.table.shared.key.rows) inside.seat.id inside.seat.me.0) words slots
    → (words ≡ table_words (memory_of own.n own.rows inside.seat.me.0.seen)) × IsLegal own.n own.rows inside.seat.me.0.seen
finished inside seen own of words slots all final =
    let key = own.table.shared.key in
    let n_is : key.n ≡ own.n = of.key_n ∙ sym of.n in
    let rows_is : key.rows ≡ own.rows = of.key_rows ∙ sym of.rows in
    let done = ends key.n key.rows inside.seat.id inside.seat.me.0 words slots
    (λ p in_p. held_seat inside seen own of p (all p (subst (λ k. p < k) n_is in_p))) final in
    subst (λ r. (words ≡ table_words (memory_of own.n r inside.seat.me.0.seen)) × IsLegal own.n r inside.seat.me.0.seen) rows_is
    (subst (λ k. (words ≡ table_words (memory_of k key.rows inside.seat.me.0.seen)) × IsLegal k key.rows inside.seat.me.0.seen) n_is done)
