-- What a property doesn't ask for doesn't change its value, by induction on the property.
use Rattle.std.proofs.Common.{◌≡◌, ℕ, List, false, map, Ok, Err, refl, ap, if◌then◌else◌}
use Rattle.std.specs.Prelude.{◌==◌, ◌||◌, nat_lt, slice_set}
use Rattle.std.specs.List.{range_with_len}
use Rattle.std.proofs.lemmas.Bool.{or_parts}
use Rattle.base.specs.declared.status.Trap.TheVariants as T
use Rattle.base.specs.Operators.{truth_value, operation}
use Rattle.base.specs.Refusing.{◌>>=◌}
use Rattle.language_properties.specs.declared.asks.Part.{Part}
use Rattle.language_properties.specs.Properties.{Formula, number, count, bound, asked, older, binary, joined, negated, over}
use Rattle.language_properties.specs.Values.{SeenState, Valued, answer, of_process, value, junction, quantified}
use Rattle.language_properties.specs.Asking.{IsAlikeBut, UnaskedLaw, asks, is_of, is_order}

module _ (part : Part) (s t : SeenState) (alike : IsAlikeBut part s t) where
  same_process : (p : ℕ) (one two : Valued) → one ≡ two → of_process s p one ≡ of_process t p two
  same_process p one two same = λ i. if nat_lt p (alike.processes i) then same i else Err T.Index

  same_order : (p q : ℕ) → is_order part ≡ false
      → of_process s p (of_process s q (Ok (truth_value (s.is_older p q))))
      ≡ of_process t p (of_process t q (Ok (truth_value (t.is_older p q))))
  same_order p q none = same_process p _ _ (same_process q _ _ (ap (λ b. Ok (truth_value b)) (alike.order p q none)))

  same_value : (processes : List ℕ) (e : Formula) → asks part e ≡ false → value s processes e ≡ value t processes e
  same_value processes (number v) none = refl
  same_value processes count none = ap Ok alike.processes
  same_value processes (bound k) none = refl
  same_value processes (asked question e) none =
      let parts = or_parts (is_of part question) (asks part e) none in
      λ i. same_value processes e parts.1 i >>= λ p. same_process p (Ok (answer s question p)) (Ok (answer t question p)) (ap Ok (alike.answers question p parts.0)) i
  same_value processes (older e f) none =
      let parts = or_parts (is_order part || asks part e) (asks part f) none in
      let first = or_parts (is_order part) (asks part e) parts.0 in
      λ i. same_value processes e first.1 i >>= λ p. same_value processes f parts.1 i >>= λ q. same_order p q first.0 i
  same_value processes (binary a op b) none =
      let parts = or_parts (asks part a) (asks part b) none in
      λ i. same_value processes a parts.0 i >>= λ x. same_value processes b parts.1 i >>= λ y. operation op x y
  same_value processes (joined a by b) none =
      let parts = or_parts (asks part a) (asks part b) none in
      λ i. same_value processes a parts.0 i >>= λ x. junction by x (same_value processes b parts.1 i)
  same_value processes (negated e) none = λ i. same_value processes e none i >>= λ x. Ok (if x == 0 then 1 else 0)
  same_value processes (over quantifier k e) none =
      λ i. quantified quantifier (map (λ p. same_value (slice_set processes k p) e none i) (range_with_len 0 (alike.processes i)))

pub unasked_law : UnaskedLaw
unasked_law part s t alike processes e none = same_value part s t alike processes e none
