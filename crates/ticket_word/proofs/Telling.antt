-- What the number that a call answers tells, for each fault.
use Rattle.std.proofs.Common.{ℕ, List, refl, sym, ◌∙◌, subst, arith}
use Rattle.word_core.specs.Stamps.{Labels}
use Rattle.word_core.specs.Packed.{IsWordOf}
use Rattle.word_core.specs.Order.{IsOrdered}
use Rattle.word_core.proofs.Offered.{distinct_law}
use Rattle.ticket_word.specs.Standing.{IsCount, IsTicketWord}
use Rattle.ticket_word.specs.Faults.{AreProcesses, Tells}
use Rattle.ticket_word.specs.prover.Asked.{IsAsked}

pub tells_nothing : (n bits : ℕ) (processes : List ℕ) → AreProcesses n processes → IsTicketWord n bits → Tells n bits processes 0
tells_nothing n bits processes are is = record {
  nothing = ((λ _. (are, is)), (λ _. refl));
  count = ((λ e. absurd (omega (arith, e))), (λ not_so. absurd (not_so is.stands.count)));
  process = ((λ e. absurd (omega (arith, e))), (λ both. absurd (both.1 are)));
  word = ((λ e. absurd (omega (arith, e))), (λ all. absurd (all.2 is)));
}

pub tells_count : (n bits : ℕ) (processes : List ℕ) → ¬ IsCount n → Tells n bits processes 1
tells_count n bits processes not_so = record {
  nothing = ((λ e. absurd (omega (arith, e))), (λ both. absurd (not_so both.1.stands.count)));
  count = ((λ _. not_so), (λ _. refl));
  process = ((λ e. absurd (omega (arith, e))), (λ both. absurd (not_so both.0)));
  word = ((λ e. absurd (omega (arith, e))), (λ all. absurd (not_so all.0)));
}

pub tells_process : (n bits : ℕ) (processes : List ℕ) → IsCount n → ¬ AreProcesses n processes → Tells n bits processes 2
tells_process n bits processes count not = record {
  nothing = ((λ e. absurd (omega (arith, e))), (λ both. absurd (not both.0)));
  count = ((λ e. absurd (omega (arith, e))), (λ not_so. absurd (not_so count)));
  process = ((λ _. (count, not)), (λ _. refl));
  word = ((λ e. absurd (omega (arith, e))), (λ all. absurd (not all.1)));
}

pub tells_word : (n bits : ℕ) (processes : List ℕ) → IsCount n → AreProcesses n processes → ¬ IsTicketWord n bits → Tells n bits processes 3
tells_word n bits processes count are none = record {
  nothing = ((λ e. absurd (omega (arith, e))), (λ both. absurd (none both.1)));
  count = ((λ e. absurd (omega (arith, e))), (λ not_so. absurd (not_so count)));
  process = ((λ e. absurd (omega (arith, e))), (λ both. absurd (both.1 are)));
  word = ((λ _. (count, are, none)), (λ _. refl));
}

-- ordered labels agree with the numbers that order them
pub ordered_word : (n bits : ℕ) (labels : Labels) → IsCount n → IsWordOf n bits labels → IsOrdered labels → IsTicketWord n bits
ordered_word n bits labels count is ordered = record {
  tickets = ordered.0;
  stands = record { count = count; labels = labels; is = is; agrees = record { are = is.are; by = ordered.1 } };
}

pub asked_word : (n bits : ℕ) (processes : List ℕ) (labels : Labels) → IsAsked n bits processes labels → IsTicketWord n bits
asked_word n bits processes labels asked = ordered_word n bits labels asked.count asked.is asked.ordered

-- the labels of a word that stands for tickets are ordered
pub stands_ordered : (n bits : ℕ) (labels : Labels) → IsWordOf n bits labels → IsTicketWord n bits → IsOrdered labels
stands_ordered n bits labels is known =
    let s = known.stands in
    subst IsOrdered (distinct_law n s.count.few s.labels labels s.is.are is.are (s.is.packs ∙ sym is.packs)) (known.tickets, s.agrees.by)
