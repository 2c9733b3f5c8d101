use Rattle.std.proofs.Common.{◌-◌, Option, arith, ap, sym, subst, ◌∙◌, take}
use Rattle.std.specs.Prelude.{All, MatchOption}
use Rattle.std.proofs.lemmas.Bool.{both_ways}
use Rattle.label_core.specs.Labels.{IsLabel}
use Rattle.word_core.specs.Stamps.{Labels, present}
use Rattle.word_core.specs.Packed.{IsWordOf}
use Rattle.word_core.specs.Order.{IsOrdered}
use Rattle.word_core.specs.prover.Packing.{labels_in}
use Rattle.word_core.proofs.Apart.{apart_from_ordered, ordered_from_apart}
use Rattle.word_core.proofs.Choosing.{All-present}
use Rattle.word_core.proofs.Gathered.{apart, few, few_there, there}
use Rattle.word_core.proofs.Views.{is_word, labels_read, word_counts, word_fits}
use Rattle.word_core.proofs.words.LabelWord.read_ordered.Goals as goal

pub returns-then-not-fits : goal.returns-then-not-fits
returns-then-not-fits c = λ labels is _. both_ways _ c.if-not-fits.true (c.fits.ensures.1 (word_fits c.args.n c.args.bits labels c.requires.at_most_six is))

pub returns-in_err-count : goal.returns-in_err-count
returns-in_err-count c =
    let n = c.args.n in
    let bits = c.args.bits in
    subst (λ (read : Option Labels). MatchOption read ((labels : Labels) → IsWordOf n bits labels → ¬ IsOrdered labels) (λ labels. IsWordOf n bits labels × IsOrdered labels))
    (sym c.from_residual.ensures)
    (λ labels is _. c.in_err-count.ensures (word_counts n bits labels c.requires.at_most_six is))

pub shared_whole_as_front-differ_in_rank : goal.shared_whole_as_front-differ_in_rank
shared_whole_as_front-differ_in_rank c =
    (few c.args.n c.args.bits c.in_ok-count.count c.gather_in.new.row c.requires.at_most_six c.in_ok-count.ensures.1, omega arith)

pub differ_in_rank-requires-clause-few : goal.differ_in_rank-requires-clause-few
differ_in_rank-requires-clause-few c =
    few_there c.args.n c.args.bits c.in_ok-count.count c.gather_in.new.row c.requires.at_most_six c.in_ok-count.ensures.1

pub differ_in_rank-requires-clause-alike : goal.differ_in_rank-requires-clause-alike
differ_in_rank-requires-clause-alike c =
    let labels = labels_in c.args.n c.args.bits in
    let digits = c.args.n - 1 in
    let is = is_word c.args.n c.args.bits c.requires.at_most_six (c.fits.ensures.0 c.if-not-fits.false) c.in_ok-count.ensures.0 in
    (digits, subst (All (IsLabel digits)) (sym (there labels c.gather_in.new.row c.in_ok-count.count c.in_ok-count.ensures.1)) (All-present (IsLabel digits) labels is.are.each))

pub returns-then-not-differ_in_rank : goal.returns-then-not-differ_in_rank
returns-then-not-differ_in_rank c = λ labels is ordered.
    let front = there (labels_in c.args.n c.args.bits) c.gather_in.new.row c.in_ok-count.count c.in_ok-count.ensures.1
    ∙ ap present (labels_read c.args.n c.args.bits labels c.requires.at_most_six is) in
    both_ways _ c.if-not-differ_in_rank.true
    (c.differ_in_rank.ensures.1 (apart (present labels) (take c.in_ok-count.count c.gather_in.new.row) (sym front) (apart_from_ordered labels ordered)))

pub invariant_of-result : goal.invariant_of-result
invariant_of-result c = (
  c.requires.at_least_one,
  c.requires.at_most_six,
  is_word c.args.n c.args.bits c.requires.at_most_six (c.fits.ensures.0 c.if-not-fits.false) c.in_ok-count.ensures.0,
)

pub returns : goal.returns
returns c =
    let labels = labels_in c.args.n c.args.bits in (
      is_word c.args.n c.args.bits c.requires.at_most_six (c.fits.ensures.0 c.if-not-fits.false) c.in_ok-count.ensures.0,
      ordered_from_apart labels
          (apart (take c.in_ok-count.count c.gather_in.new.row) (present labels) (there labels c.gather_in.new.row c.in_ok-count.count c.in_ok-count.ensures.1)
          (c.differ_in_rank.ensures.0 c.if-not-differ_in_rank.false)),
    )
