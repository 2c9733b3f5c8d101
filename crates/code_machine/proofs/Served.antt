-- What a step makes, from what became of its instruction.
use Rattle.std.proofs.Common.{◌≡◌, ◌⊎◌, ⊎_elim, ℕ, List, Option, Some, None, refl, ap, ◌∙◌, sym}
use Rattle.word_core.specs.Stamps.{Labels}
use Rattle.base.specs.declared.event.Event.{Event}
use Rattle.code_machine.specs.declared.ask.Ask.{Ask}
use Rattle.code_machine.specs.declared.ask.Reply.{Reply}
use Rattle.code_machine.specs.declared.ask.Advance.{Advance}
use Rattle.code_machine.specs.declared.ask.Advance.TheVariants as V
use Rattle.code_machine.specs.Machine.{CodeProcess, CodeStep, alone, asks, reply_in, labels_by, rows_by, made, labels_left, rows_left}
use Rattle.code_machine.specs.Process.{event_of, shown, advance_of, after_advance, answered_by}

shown_same : (a b : Option Event) → shown a ≡ shown b → a ≡ b
shown_same None None same = refl
shown_same None (Some e) same = absurd (cc)
shown_same (Some e) None same = absurd (cc)
shown_same (Some e) (Some f) same = (cc)

no_question : (event : Option Event) (ask : Ask) → shown event ≡ V.Ask ask → ⊥
no_question None ask same = (cc)
no_question (Some e) ask same = (cc)

no_end : (event : Option Event) → shown event ≡ V.Stopped → ⊥
no_end None same = (cc)
no_end (Some e) same = (cc)

question_event : (ask : Ask) (event : Option Event) → V.Ask ask ≡ shown event → ⊥
question_event ask event same = no_question event ask (sym same)

never_stopped : (me : ℕ) (d : CodeStep) → advance_of me d ≡ V.Stopped → ⊥
never_stopped me (alone m) same = no_end (event_of me m.act) same
never_stopped me (asks ask answered) same = (cc)

-- of `Silent` and `Stopped` it is the first
pub silent : (me : ℕ) (d : CodeStep) (answer : Advance) → answer ≡ advance_of me d → (answer ≡ V.Silent) ⊎ (answer ≡ V.Stopped) → advance_of me d ≡ shown None
silent me d answer is =
    ⊎_elim (λ quiet. sym is ∙ quiet) (λ stopped. absurd (never_stopped me d (sym is ∙ stopped)))

module _ (me p : ℕ) (labels : Labels) (rows : List (List ℕ)) (q : CodeProcess) where
  -- it is made alone, and this is what others see of process `p`
  pub record IsAlone (d : CodeStep) (event : Option Event) : Type 0 where
    pub shows : event ≡ event_of p (made labels rows d).act
    pub left : after_advance q d ≡ (made labels rows d).process
    pub labels_are : labels ≡ labels_left p d labels
    pub rows_are : rows ≡ rows_left p d rows

  pub made_alone : (d : CodeStep) (event : Option Event) → me ≡ p → advance_of me d ≡ shown event → IsAlone d event
  made_alone (alone m) event own same =
      record { shows = shown_same event (event_of me m.act) (sym same) ∙ ap (λ k. event_of k m.act) own; left = refl; labels_are = refl; rows_are = refl }
  made_alone (asks ask answered) event own same = absurd (question_event ask event same)

  -- it asks, and is made by the reply
  pub record IsAsked (d : CodeStep) (ask : Ask) (reply : Reply) : Type 0 where
    pub moved : answered_by q d reply ≡ made labels rows d
    pub waits : after_advance q d ≡ q
    pub labels_are : labels_by p ask labels ≡ labels_left p d labels
    pub rows_are : rows_by p ask rows ≡ rows_left p d rows

  pub made_asked : (d : CodeStep) (ask : Ask) (reply : Reply) → advance_of me d ≡ V.Ask ask → reply ≡ reply_in labels rows ask → IsAsked d ask reply
  made_asked (alone m) ask reply same is = absurd (no_question (event_of me m.act) ask same)
  made_asked (asks other answered) ask reply same is =
      let it : ask ≡ other = (cc) in
      record {
        moved = ap answered (is ∙ ap (reply_in labels rows) it);
        waits = refl;
        labels_are = ap (λ a. labels_by p a labels) it;
        rows_are = ap (λ a. rows_by p a rows) it;
      }
