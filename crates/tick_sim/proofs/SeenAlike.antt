-- Where labels agree with tickets, the labels tell of every process, also of one that there is not, what the tickets
-- tell. So of two states that match all see the same.
use Rattle.std.proofs.Common.{◌≡◌, ℕ, ◌≤◌, false, List, Option, Some, None, inl, inr, refl, ap, sym, ◌∙◌, arith}
use Rattle.std.specs.Prelude.{nat_lt, slice_index}
use Rattle.std.proofs.lemmas.Bool.{cases_lt, le-ltb}
use Rattle.std.proofs.lemmas.List.{get_or_past}
use Rattle.ticket_core.specs.Tickets.{holds_ticket, older_ticket}
use Rattle.word_core.specs.Agreement.{Agrees, StandsFor}
use Rattle.word_core.specs.Order.{above, older_label}
use Rattle.word_core.specs.Stamps.{Labels, is_present, label_at}
use Rattle.word_core.proofs.Offered.{agreement_law}
use Rattle.tick_source.specs.Source.{SourceProcess, SourceState}
use Rattle.language_properties.specs.Laws.{IsSeenAlike}
use Rattle.language_properties.specs.Seen.{seen_of}
use Rattle.code_machine.specs.Machine.{CodeProcess, CodeState}
use Rattle.tick_sim.specs.Properties.{seen_by_labels}
use Rattle.tick_sim.proofs.States.{MatchStates, seen_same}

none_smaller : (k : ℕ) → nat_lt k 0 ≡ false
none_smaller k = le-ltb k 0 (omega arith)

above_none : (label : Option (List ℕ)) → above label None ≡ is_present label
above_none None = refl
above_none (Some label) = refl

module _ (n : ℕ) (tickets : List ℕ) (labels : Labels) (agrees : Agrees n tickets labels) where
  stands : StandsFor n tickets labels
  stands = agreement_law.stands n tickets labels agrees

  -- a process that there is not has neither
  no_label : (p : ℕ) → n ≤ p → label_at labels p ≡ None
  no_label p past = get_or_past labels p None (let count = agrees.are.count in omega arith)

  no_ticket : (p : ℕ) → n ≤ p → slice_index tickets p ≡ 0
  no_ticket p past = get_or_past tickets p 0 (let count = agrees.by.count in let many = agrees.are.count in omega arith)

  pub held_alike : (p : ℕ) → is_present (label_at labels p) ≡ holds_ticket tickets p
  held_alike p = elim (cases_lt p n) [
    | inl inside ↦ stands.held p inside
    | inr past ↦ ap is_present (no_label p past) ∙ sym (ap (nat_lt 0) (no_ticket p past))
  ]

  pub older_alike : (i j : ℕ) → older_label labels i j ≡ older_ticket tickets i j
  older_alike i j = elim (cases_lt j n) [
    | inl inside ↦
        elim (cases_lt i n) [
          | inl within ↦ stands.older i j within inside
          | inr past ↦
              ap (above (label_at labels j)) (no_label i past)
              ∙ above_none (label_at labels j)
              ∙ held_alike j
              ∙ sym (ap (λ ticket. nat_lt ticket (slice_index tickets j)) (no_ticket i past))
        ]
    | inr past ↦
        ap (λ label. above label (label_at labels i)) (no_label j past)
        ∙ sym (ap (nat_lt (slice_index tickets i)) (no_ticket j past) ∙ none_smaller (slice_index tickets i))
  ]

-- of two states that match, with the same status of each process, all see the same
pub matching_alike : (n : ℕ) (R : ℕ → SourceProcess → CodeProcess → Type 0) (s : SourceState) (d : CodeState)
    → MatchStates n R s d → ((p : ℕ) (x : SourceProcess) (y : CodeProcess) → R p x y → x.status ≡ y.status)
    → IsSeenAlike (seen_by_labels d) (seen_of s)
matching_alike n R s d match same = record {
  held = held_alike n s.tickets d.labels match.agrees;
  older = older_alike n s.tickets d.labels match.agrees;
  rows = sym match.same_rows;
  statuses = ap (λ o. o.statuses) (seen_same n R s d match same);
}
