use Rattle.std.proofs.Common.{◌≡◌, ap, sym, subst, ◌∙◌, length}
use Rattle.std.specs.Prelude.{bit_and}
use Rattle.ticket_core.specs.Tickets.{clear_ticket}
use Rattle.word_core.specs.Stamps.{cleared}
use Rattle.word_core.specs.Packed.{IsWordOf}
use Rattle.word_core.specs.Order.{IsOrdered}
use Rattle.word_core.specs.Agreement.{Agrees}
use Rattle.word_core.specs.prover.Packing.{labels_in}
use Rattle.word_core.proofs.Stamping.{agreement_law, cleared_are, cleared_in_order}
use Rattle.word_core.proofs.Views.{held_word, labels_read, word_self}
use Rattle.word_core.proofs.words.LabelWord.cleared.Goals as goal

-- the bits that are left are the word of the labels that are left
is : (c : goal.After-clear_mask) → IsWordOf c.n-n.result (bit_and c.self.inside.bits c.clear_mask.result) (cleared c.args.p c.args.self.now)
is c =
    let n = c.n-n.result in
    let labels = c.args.self.now in
    let old = held_word n c.self.inside.count c.self.inside.bits labels c.self.invariant.2 c.self.view_is c.n-n.ensures.count in
    record {
      are = cleared_are n c.args.p labels old.are;
      packs = sym (c.clear_mask.ensures n labels c.n-n.ensures.at_most_six old.are c.requires) ∙ ap (λ bits. bit_and bits c.clear_mask.result) old.packs;
    }

read : (c : goal.After-clear_mask) → labels_in c.n-n.result (bit_and c.self.inside.bits c.clear_mask.result) ≡ cleared c.args.p c.args.self.now
read c = labels_read c.n-n.result (bit_and c.self.inside.bits c.clear_mask.result) (cleared c.args.p c.args.self.now) c.n-n.ensures.at_most_six (is c)

pub invariant_of-result : goal.invariant_of-result
invariant_of-result c = (
  c.n-n.ensures.at_least_one,
  c.n-n.ensures.at_most_six,
  word_self c.n-n.result (bit_and c.self.inside.bits c.clear_mask.result) (cleared c.args.p c.args.self.now) c.n-n.ensures.at_most_six (is c),
)

pub returns-clause-cleared : goal.returns-clause-cleared
returns-clause-cleared c = read c

pub returns-clause-ordered : goal.returns-clause-ordered
returns-clause-ordered c = λ ordered. subst IsOrdered (sym (read c)) (cleared_in_order c.args.p c.args.self.now ordered)

pub returns-clause-agrees : goal.returns-clause-agrees
returns-clause-agrees c = λ tickets agrees.
    let n = length c.args.self.now in
    subst (Agrees n (clear_ticket c.args.p tickets)) (sym (read c)) (agreement_law.cleared n c.args.p tickets c.args.self.now agrees)
