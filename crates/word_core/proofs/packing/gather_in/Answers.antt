use Rattle.std.proofs.Common.{◌≡◌, ℕ, ◌+◌, ◌-◌, ◌<◌, ◌≤◌, ◌++◌, ◌∷◌, [], arith, ap, sym, subst, ◌∙◌, length, length-append, take, set, replicate, None, Some, ⊎_elim}
use Rattle.std.proofs.lemmas.Bool.{both_ways, cases_lt}
use Rattle.std.proofs.lemmas.List.{take_all}
use Rattle.base.proofs.Offered.{padded_set}
use Rattle.word_core.specs.Stamps.{Labels, label_at, present}
use Rattle.word_core.specs.prover.Packing.{Counts, byte_in, presence_in, labels_in, length-labels_in}
use Rattle.word_core.proofs.Gathering.{present_none, present_some}
use Rattle.word_core.proofs.Views.{label_at-labels_in}
use Rattle.word_core.proofs.packing.gather_in.Goals as goal
use Rattle.word_core.proofs.packing.gather_in.Goals.{in-Some, in_default}

-- not more are present than there are
few_present : (labels : Labels) → length (present labels) ≤ length labels
few_present [] = omega arith
few_present (None ∷ labels) = omega (arith, few_present labels)
few_present (Some label ∷ labels) = omega (arith, few_present labels)

-- one process more has what it may have
counted_more : (n bits at : ℕ) → ((k : ℕ) → k < at → Counts (n - 1) (byte_in bits k) (presence_in bits k))
    → Counts (n - 1) (byte_in bits at) (presence_in bits at) → (k : ℕ) → k < at + 1 → Counts (n - 1) (byte_in bits k) (presence_in bits k)
counted_more n bits at before here k inside =
    ⊎_elim (λ below. before k below)
    (λ past. subst (λ i. Counts (n - 1) (byte_in bits i) (presence_in bits i)) (let same : at ≡ k = omega (arith, past, inside) in same) here)
    (cases_lt k at)

pub returns-then-not-counts : goal.returns-then-not-counts
returns-then-not-counts c = λ all. both_ways _ c.if-not-counts.true (c.counts.ensures.1 (all c.loop-i.i c.loop-i-test.true))

pub loop-i-preserved : goal.loop-i-preserved
loop-i-preserved c =
    let n = c.args.n in
    let bits = c.args.bits in
    let labels = labels_in n bits in
    let at = c.loop-i.i in
    let count = c.loop-i.count in
    let in_n : at < n = c.loop-i-test.true in
    let inside : at < length labels = omega (arith, in_n, length-labels_in n bits) in
    let read = label_at-labels_in n bits at in_n in
    let counted = counted_more n bits at c.loop-i.invariant.counted (c.counts.ensures.0 c.if-not-counts.false) in
    let front = present (take at labels) in
    elim c.match-label_in.branch [
      | in-Some w ↦
          let label = w.in-Some.label in
          let here : label_at labels at ≡ Some label = read ∙ sym c.label_in.ensures ∙ w.in-Some.is in
          let more = present_some labels at label inside here in
          record {
            counted = counted;
            row = w.row-is ∙ ap (λ row. set row count label) c.loop-i.invariant.row
                ∙ padded_set 6 [] front count label (sym c.loop-i.invariant.count) (omega (arith, in_n, c.requires.at_most_six, c.loop-i.invariant.few))
                ∙ ap (λ all. all ++ replicate (6 - (count + 1)) []) (sym more)
                ∙ ap (λ k. present (take (at + 1) labels) ++ replicate (6 - k) []) (sym w.count-is);
            count = w.count-is ∙ omega (arith, c.loop-i.invariant.count, ap length more, length-append front (label ∷ []));
            few = omega (arith, w.count-is, c.loop-i.invariant.few);
          }
      | in_default w ↦
          let more = present_none labels at inside (read ∙ sym c.label_in.ensures ∙ w.in_default.is) in
          record {
            counted = counted;
            row = w.row-is ∙ c.loop-i.invariant.row
                ∙ ap (λ all. all ++ replicate (6 - count) []) (sym more)
                ∙ ap (λ k. present (take (at + 1) labels) ++ replicate (6 - k) []) (sym w.count-is);
            count = w.count-is ∙ c.loop-i.invariant.count ∙ ap length (sym more);
            few = omega (arith, w.count-is, c.loop-i.invariant.few);
          }
    ]

pub returns : goal.returns
returns c =
    let n = c.args.n in
    let labels = labels_in n c.args.bits in
    let len = length-labels_in n c.args.bits in
    let all = take_all c.loop-i.i labels (omega (arith, len, c.loop-i-test.false)) in
    let many = c.loop-i.invariant.count ∙ ap (λ gathered. length (present gathered)) all in (
      (λ i inside. c.loop-i.invariant.counted i (omega (arith, inside, c.loop-i-test.false))),
      record {
        there = c.loop-i.invariant.row ∙ ap (λ k. present (take c.loop-i.i labels) ++ replicate (6 - k) []) many
            ∙ ap (λ gathered. present gathered ++ replicate (6 - length (present labels)) []) all;
        many = many;
        few = omega (arith, many, few_present labels, len);
      },
    )
