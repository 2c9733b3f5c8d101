use Rattle.std.proofs.Common.{◌≡◌, ◌+◌, ◌-◌, ◌<◌, ◌++◌, ◌∷◌, [], arith, ap, sym, ◌∙◌, length, length-append, take, set, replicate, Some}
use Rattle.base.proofs.Offered.{padded_set}
use Rattle.word_core.specs.Stamps.{label_at, present}
use Rattle.word_core.proofs.Gathering.{present_none, present_some}
use Rattle.word_core.proofs.words.LabelWord.gather.Goals as goal
use Rattle.word_core.proofs.words.LabelWord.gather.Goals.{in-Some, in_default}

pub loop-i-preserved : goal.loop-i-preserved
loop-i-preserved c =
    let labels = c.args.self.now in
    let at = c.loop-i.i in
    let count = c.loop-i.count in
    let inside : at < length labels = omega (arith, c.loop-i-test.true, c.n-n.ensures.count) in
    let front = present (take at labels) in
    elim c.match-label.branch [
      | in-Some w ↦
          let label = w.in-Some.label in
          let here : label_at labels at ≡ Some label = sym c.label.ensures ∙ w.in-Some.is in
          let more = present_some labels at label inside here in
          record {
            row = w.row-is ∙ ap (λ row. set row count label) c.loop-i.invariant.row
                ∙ padded_set 6 [] front count label (sym c.loop-i.invariant.count) (omega (arith, inside, c.n-n.ensures.count, c.n-n.ensures.at_most_six, c.loop-i.invariant.few))
                ∙ ap (λ all. all ++ replicate (6 - (count + 1)) []) (sym more)
                ∙ ap (λ k. present (take (at + 1) labels) ++ replicate (6 - k) []) (sym w.count-is);
            count = w.count-is ∙ omega (arith, c.loop-i.invariant.count, ap length more, length-append front (label ∷ []));
            few = omega (arith, w.count-is, c.loop-i.invariant.few);
          }
      | in_default w ↦
          let more = present_none labels at inside (sym c.label.ensures ∙ w.in_default.is) in
          record {
            row = w.row-is ∙ c.loop-i.invariant.row
                ∙ ap (λ all. all ++ replicate (6 - count) []) (sym more)
                ∙ ap (λ k. present (take (at + 1) labels) ++ replicate (6 - k) []) (sym w.count-is);
            count = w.count-is ∙ c.loop-i.invariant.count ∙ ap length (sym more);
            few = omega (arith, w.count-is, c.loop-i.invariant.few);
          }
    ]
