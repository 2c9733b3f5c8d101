-- What labels tell of a word is what the tickets tell that it stands for.
use Rattle.std.proofs.Common.{◌≡◌, ℕ, ◌-◌, ◌<◌, ◌≤◌, ◌++◌, false, List, length, sym, ap, ◌∙◌, arith, replicate, ⊎_elim}
use Rattle.std.specs.Prelude.{◌↔◌, bit_and, nat_lt}
use Rattle.std.proofs.lemmas.Bool.{cases_lt, both_ways}
use Rattle.std.proofs.lemmas.List.{get_or_past}
use Rattle.ticket_core.specs.Tickets.{holds_ticket, ticket_ranks}
use Rattle.ticket_core.specs.declared.moves.Move.TheVariants.{Clear}
use Rattle.word_core.specs.Stamps.{Labels, cleared}
use Rattle.word_core.specs.Packed.{AreLabels, IsWordOf, word}
use Rattle.word_core.specs.Order.{label_ranks}
use Rattle.word_core.specs.Agreement.{StandsFor}
use Rattle.ticket_word.specs.Standing.{Stands, IsTicketWord, IsFirst}
use Rattle.ticket_word.specs.Changes.{Makes}
use Rattle.ticket_word.specs.prover.Asked.{IsFirstLabel}
use Rattle.ticket_word.proofs.Changing.{agrees_with, telling_law}

module _ (n bits : ℕ) (tickets : List ℕ) (labels : Labels) (stands : Stands n bits tickets) (is : IsWordOf n bits labels) where
  told : StandsFor n tickets labels
  told = telling_law n bits tickets stands labels is

  pub ranks_told : label_ranks labels ++ replicate (6 - length labels) 0 ≡ ticket_ranks tickets ++ replicate (6 - n) 0
  ranks_told = ap (λ ranks. ranks ++ replicate (6 - length labels) 0) told.ranks ∙ ap (λ k. ticket_ranks tickets ++ replicate (6 - k) 0) is.are.count

  past : (i : ℕ) → n ≤ i → holds_ticket tickets i ≡ false
  past i over =
      let agrees = agrees_with n bits tickets labels stands is in
      ap (λ ticket. nat_lt 0 ticket) (get_or_past tickets i 0 (omega (arith, over, agrees.by.count, is.are.count)))

  -- who is first by labels is first by tickets
  pub first_told : (p : ℕ) → p < n → IsFirstLabel labels p ↔ IsFirst tickets p
  first_told p inside = (
    (λ first. record {
      holds = sym (told.held p inside) ∙ first.holds;
      smallest = λ i holds older. ⊎_elim
          (λ below. first.smallest i (omega (arith, below, is.are.count)) (told.held i below ∙ holds) (told.older i p below inside ∙ older))
          (λ above. both_ways (holds_ticket tickets i) (past i above) holds)
          (cases_lt i n);
    }),
    (λ first. record {
      holds = told.held p inside ∙ first.holds;
      smallest = λ i below holds older.
          let in_i : i < n = omega (arith, below, is.are.count) in
          first.smallest i (sym (told.held i in_i) ∙ holds) (sym (told.older i p in_i inside) ∙ older);
    }),
  )

-- what is left of a word under the mask of a clear is the word after it
pub mask_makes : (n bits p mask : ℕ) → ((k : ℕ) (labels : Labels) → k ≤ 6 → AreLabels k labels → p < length labels → bit_and (word labels) mask ≡ word (cleared p labels))
    → p < n → IsTicketWord n bits → Makes n bits (Clear p) (bit_and bits mask)
mask_makes n bits p mask clears inside known =
    let s = known.stands in
    record {
      labels = s.labels;
      is = s.is;
      makes = sym (clears n s.labels s.count.few s.is.are (omega (arith, inside, s.is.are.count))) ∙ ap (λ w. bit_and w mask) s.is.packs;
    }
