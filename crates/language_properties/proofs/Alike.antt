-- States that all see alike have the same values, by induction on the property.
use Rattle.std.proofs.Common.{◌≡◌, ℕ, List, map, Ok, Err, refl, ap, if◌then◌else◌}
use Rattle.std.specs.Prelude.{◌==◌, nat_lt, length, slice_index_or, slice_set}
use Rattle.std.specs.List.{range_with_len}
use Rattle.base.specs.declared.status.Status.TheVariants.{Running}
use Rattle.base.specs.declared.status.Trap.TheVariants as T
use Rattle.base.specs.Operators.{truth_value, operation}
use Rattle.base.specs.Refusing.{◌>>=◌}
use Rattle.base.specs.RegisterRows.{register_at}
use Rattle.language_properties.specs.declared.property.Question.{Question}
use Rattle.language_properties.specs.declared.property.Question.TheVariants as A
use Rattle.language_properties.specs.Properties.{Formula, number, count, bound, asked, older, binary, joined, negated, over}
use Rattle.language_properties.specs.Values.{SeenState, Valued, is_end, is_trap, answer, of_process, value, junction, quantified}
use Rattle.language_properties.specs.Laws.{IsSeenAlike, AlikeLaw}

module _ (s t : SeenState) (alike : IsSeenAlike s t) where
  same_answer : (question : Question) (p : ℕ) → answer s question p ≡ answer t question p
  same_answer (A.Row r) p = ap (λ rows. register_at rows r p) alike.rows
  same_answer A.Held p = ap truth_value (alike.held p)
  same_answer A.Ended p = ap (λ statuses. truth_value (is_end (slice_index_or statuses p Running))) alike.statuses
  same_answer A.Trapped p = ap (λ statuses. truth_value (is_trap (slice_index_or statuses p Running))) alike.statuses

  same_process : (p : ℕ) (one two : Valued) → one ≡ two → of_process s p one ≡ of_process t p two
  same_process p one two same = λ i. if nat_lt p (length (alike.statuses i)) then same i else Err T.Index

  same_order : (p q : ℕ)
      → of_process s p (of_process s q (Ok (truth_value (s.is_older p q))))
      ≡ of_process t p (of_process t q (Ok (truth_value (t.is_older p q))))
  same_order p q = same_process p _ _ (same_process q _ _ (ap (λ b. Ok (truth_value b)) (alike.older p q)))

  same_value : (processes : List ℕ) (e : Formula) → value s processes e ≡ value t processes e
  same_value processes (number v) = refl
  same_value processes count = ap (λ statuses. Ok (length statuses)) alike.statuses
  same_value processes (bound k) = refl
  same_value processes (asked question e) =
      λ i. same_value processes e i >>= λ p. same_process p (Ok (answer s question p)) (Ok (answer t question p)) (ap Ok (same_answer question p)) i
  same_value processes (older e f) = λ i. same_value processes e i >>= λ p. same_value processes f i >>= λ q. same_order p q i
  same_value processes (binary a op b) = λ i. same_value processes a i >>= λ x. same_value processes b i >>= λ y. operation op x y
  same_value processes (joined a by b) = λ i. same_value processes a i >>= λ x. junction by x (same_value processes b i)
  same_value processes (negated e) = λ i. same_value processes e i >>= λ x. Ok (if x == 0 then 1 else 0)
  same_value processes (over quantifier k e) =
      λ i. quantified quantifier (map (λ p. same_value (slice_set processes k p) e i) (range_with_len 0 (length (alike.statuses i))))

pub alike_law : AlikeLaw
alike_law s t alike processes e = same_value s t alike processes e
