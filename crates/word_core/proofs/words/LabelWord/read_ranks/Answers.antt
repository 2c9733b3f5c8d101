use Rattle.std.proofs.Common.{◌≡◌, ◌-◌, ◌<◌, ◌++◌, List, ℕ, Option, arith, ap, sym, subst, length, replicate}
use Rattle.std.specs.Prelude.{All, MatchOption}
use Rattle.std.proofs.lemmas.Bool.{both_ways}
use Rattle.label_core.specs.Labels.{IsLabel}
use Rattle.word_core.specs.Stamps.{Labels, present}
use Rattle.word_core.specs.Packed.{IsWordOf}
use Rattle.word_core.specs.Order.{IsOrdered, label_ranks}
use Rattle.word_core.specs.prover.Numbers.{AreApart}
use Rattle.word_core.specs.prover.Packing.{labels_in}
use Rattle.word_core.proofs.Apart.{apart_from_ordered, ordered_from_apart, ranks_small}
use Rattle.word_core.proofs.Choosing.{All-present}
use Rattle.word_core.proofs.Gathered.{apart, few, few_there, ranks_among, ranks_there, there}
use Rattle.word_core.proofs.Views.{is_word, labels_read, word_counts, word_fits}
use Rattle.word_core.proofs.words.LabelWord.read_ranks.Goals as goal

pub returns-then-not-fits : goal.returns-then-not-fits
returns-then-not-fits c = λ labels is _. both_ways _ c.if-not-fits.true (c.fits.ensures.1 (word_fits c.args.n c.args.bits labels c.requires.at_most_six is))

pub returns-in_err-count : goal.returns-in_err-count
returns-in_err-count c =
    let n = c.args.n in
    let bits = c.args.bits in
    subst (λ (read : Option (List ℕ)). MatchOption read ((labels : Labels) → IsWordOf n bits labels → ¬ IsOrdered labels) (λ ranks. (labels : Labels) × IsWordOf n bits labels × IsOrdered labels × (ranks ≡ label_ranks labels ++ replicate (6 - length labels) 0)))
    (sym c.from_residual.ensures)
    (λ labels is _. c.in_err-count.ensures (word_counts n bits labels c.requires.at_most_six is))

pub shared_whole_as_front-ranks : goal.shared_whole_as_front-ranks
shared_whole_as_front-ranks c =
    (few c.args.n c.args.bits c.in_ok-count.count c.gather_in.new.row c.requires.at_most_six c.in_ok-count.ensures.1, omega arith)

pub ranks-among-requires-clause-few : goal.ranks-among-requires-clause-few
ranks-among-requires-clause-few c =
    few_there c.args.n c.args.bits c.in_ok-count.count c.gather_in.new.row c.requires.at_most_six c.in_ok-count.ensures.1

pub ranks-among-requires-clause-alike : goal.ranks-among-requires-clause-alike
ranks-among-requires-clause-alike c =
    let labels = labels_in c.args.n c.args.bits in
    let digits = c.args.n - 1 in
    let is = is_word c.args.n c.args.bits c.requires.at_most_six (c.fits.ensures.0 c.if-not-fits.false) c.in_ok-count.ensures.0 in
    (digits, subst (All (IsLabel digits)) (sym (there labels c.gather_in.new.row c.in_ok-count.count c.in_ok-count.ensures.1)) (All-present (IsLabel digits) labels is.are.each))

pub are_apart-requires : goal.are_apart-requires
are_apart-requires c =
    let n = c.args.n in
    let labels = labels_in n c.args.bits in
    let gathered = c.in_ok-count.ensures.1 in
    let ranks = ranks_among labels c.gather_in.new.row c.in_ok-count.count c.ranks-among.result gathered c.ranks-among.ensures in
    subst (All (λ rank. rank < 8)) (sym (ranks_there labels c.ranks-among.result c.in_ok-count.count ranks))
    (ranks_small (present labels) (omega (arith, few n c.args.bits c.in_ok-count.count c.gather_in.new.row c.requires.at_most_six gathered, gathered.many)))

pub returns-then-not-are_apart : goal.returns-then-not-are_apart
returns-then-not-are_apart c = λ labels is ordered.
    let held = labels_in c.args.n c.args.bits in
    let ranks = ranks_among held c.gather_in.new.row c.in_ok-count.count c.ranks-among.result c.in_ok-count.ensures.1 c.ranks-among.ensures in
    let same = labels_read c.args.n c.args.bits labels c.requires.at_most_six is in
    both_ways _ c.if-not-are_apart.true
    (c.are_apart.ensures.1 (subst AreApart (sym (ranks_there held c.ranks-among.result c.in_ok-count.count ranks))
    (apart (present labels) (present held) (ap present (sym same)) (apart_from_ordered labels ordered))))

pub invariant_of-word : goal.invariant_of-word
invariant_of-word c = (
  c.requires.at_least_one,
  c.requires.at_most_six,
  is_word c.args.n c.args.bits c.requires.at_most_six (c.fits.ensures.0 c.if-not-fits.false) c.in_ok-count.ensures.0,
)

pub ranks_from-requires : goal.ranks_from-requires
ranks_from-requires c =
    ranks_among (labels_in c.args.n c.args.bits) c.gather_in.new.row c.in_ok-count.count c.ranks-among.result c.in_ok-count.ensures.1 c.ranks-among.ensures

pub returns : goal.returns
returns c =
    let labels = labels_in c.args.n c.args.bits in
    let ranks = ranks_among labels c.gather_in.new.row c.in_ok-count.count c.ranks-among.result c.in_ok-count.ensures.1 c.ranks-among.ensures in (
      labels,
      is_word c.args.n c.args.bits c.requires.at_most_six (c.fits.ensures.0 c.if-not-fits.false) c.in_ok-count.ensures.0,
      ordered_from_apart labels (subst AreApart (ranks_there labels c.ranks-among.result c.in_ok-count.count ranks) (c.are_apart.ensures.0 c.if-not-are_apart.false)),
      c.ranks_from.ensures,
    )
