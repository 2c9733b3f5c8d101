use Rattle.std.proofs.Common.{◌≡◌, ℕ, ◌+◌, ◌-◌, ◌<◌, ◌≤◌, ◌++◌, Bool, List, arith, ap, sym, ◌∙◌, length, get_or, map, replicate, set, take, true, None}
use Rattle.std.proofs.lemmas.List.{length-map, get_or-map}
use Rattle.std.proofs.lemmas.List.Sums.{count_by-le-length}
use Rattle.base.proofs.Offered.{padded_next}
use Rattle.label_core.specs.Labels.{dominated}
use Rattle.word_core.specs.Stamps.{Labels, label_at, is_present, present}
use Rattle.word_core.specs.Order.{above, labels_below, label_ranks}
use Rattle.word_core.proofs.Gathering.{RankFound, rank_found, below_none, absent_label, present_none, zero_next}
use Rattle.word_core.proofs.words.LabelWord.ranks_from.Goals as goal
use Rattle.word_core.proofs.words.LabelWord.ranks_from.Goals.{then-held, else-held}

-- where the process is present its rank is found at the place
at_place : (labels : Labels) (row : List ℕ) (i place count n : ℕ) (held : Bool)
    → row ≡ map (dominated (present labels)) (present labels) ++ replicate (6 - length (present labels)) 0 → count ≡ length (present labels) → count ≤ length labels
    → n ≡ length labels → i < n → place ≡ length (present (take i labels)) → held ≡ is_present (label_at labels i) → held ≡ true
    → RankFound labels row i place count
at_place labels row i place count n held row_is count_is few many inside here tells present_i =
    rank_found labels row i place count row_is count_is few (omega (arith, inside, many)) here (sym tells ∙ present_i)

pub bounds-among-place : goal.bounds-among-place
bounds-among-place c =
    let found =
    at_place c.args.self.now c.args.among.now c.loop-i.i c.loop-i.place c.args.count c.n-n.result c.held.result c.requires.among c.requires.many c.requires.few
    c.n-n.ensures.count c.loop-i-test.true c.loop-i.invariant.place c.held.ensures c.if-held.true in
    omega (arith, found.inside, c.requires.many, c.requires.few, c.n-n.ensures.count, c.n-n.ensures.at_most_six)

pub overflow_add-ranks : goal.overflow_add-ranks
overflow_add-ranks c =
    let labels = c.args.self.now in
    let found =
    at_place labels c.args.among.now c.loop-i.i c.loop-i.place c.args.count c.n-n.result c.held.result c.requires.among c.requires.many c.requires.few
    c.n-n.ensures.count c.loop-i-test.true c.loop-i.invariant.place c.held.ensures c.if-held.true in
    omega (arith, found.rank, count_by-le-length (above (label_at labels c.loop-i.i)) labels, c.n-n.ensures.count, c.n-n.ensures.at_most_six)

pub overflow_add-place : goal.overflow_add-place
overflow_add-place c =
    let found =
    at_place c.args.self.now c.args.among.now c.loop-i.i c.loop-i.place c.args.count c.n-n.result c.held.result c.requires.among c.requires.many c.requires.few
    c.n-n.ensures.count c.loop-i-test.true c.loop-i.invariant.place c.held.ensures c.if-held.true in
    omega (arith, found.inside, c.requires.many, c.requires.few, c.n-n.ensures.count, c.n-n.ensures.at_most_six)

pub loop-i-preserved : goal.loop-i-preserved
loop-i-preserved c =
    let labels = c.args.self.now in
    let at = c.loop-i.i in
    let items = label_ranks labels in
    let inside : at < length labels = omega (arith, c.loop-i-test.true, c.n-n.ensures.count) in
    let in_items : at < length items = omega (arith, inside, length-map labels (labels_below labels)) in
    let six : at < 6 = omega (arith, inside, c.n-n.ensures.count, c.n-n.ensures.at_most_six) in
    let item : get_or items at 0 ≡ labels_below labels (label_at labels at) = get_or-map (labels_below labels) labels at None 0 inside in
    elim c.if-held.branch [
      | then-held w ↦
          let found : RankFound labels c.args.among.now at c.loop-i.place c.args.count =
          rank_found labels c.args.among.now at c.loop-i.place c.args.count c.requires.among c.requires.many c.requires.few inside c.loop-i.invariant.place (sym c.held.ensures ∙ w.if-held.true) in
          let rank : c.n-n.result - c.args.count + get_or c.args.among.now c.loop-i.place 0 ≡ get_or items at 0 =
          ap (λ n. n - c.args.count + get_or c.args.among.now c.loop-i.place 0) c.n-n.ensures.count ∙ found.rank ∙ sym item in
          record {
            ranks = w.ranks-is ∙ ap (λ row. set row at (c.n-n.result - c.args.count + get_or c.args.among.now c.loop-i.place 0)) c.loop-i.invariant.ranks
                ∙ rw rank (padded_next 6 0 items at 0 in_items six);
            place = w.place-is ∙ sym found.next;
          }
      | else-held w ↦
          let gone = absent_label (label_at labels at) (sym c.held.ensures ∙ w.if-held.false) in
          let none : get_or items at 0 ≡ 0 = item ∙ ap (labels_below labels) gone ∙ below_none labels in
          record {
            ranks = w.ranks-is ∙ c.loop-i.invariant.ranks ∙ zero_next items at in_items six none;
            place = w.place-is ∙ c.loop-i.invariant.place ∙ ap length (sym (present_none labels at inside gone));
          }
    ]
