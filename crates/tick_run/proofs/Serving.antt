-- A step on the table is what was asked for.
use Rattle.std.proofs.Common.{◌≡◌, ◌⊎◌, ⊎_elim, ℕ, ap, sym, subst, ◌∙◌}
use Rattle.std.specs.Prelude.{Some}
use Rattle.word_core.specs.Stamps.{Labels}
use Rattle.word_core.specs.Packed.{AreLabels, word}
use Rattle.word_core.specs.declared.history.SharedAct.{SharedAct}
use Rattle.word_core.specs.declared.history.SharedAct.TheVariants.{Load, Won, Lost, Read, Write, Clear}
use Rattle.word_core.proofs.OfferedHistory.{history_labels}
use Rattle.code_core.specs.Instructions.{StepCode}
use Rattle.code_machine.specs.declared.ask.Ask.{Ask}
use Rattle.code_machine.specs.declared.ask.Ask.TheVariants as Q
use Rattle.code_machine.specs.declared.ask.Reply.{Reply}
use Rattle.code_machine.specs.declared.ask.Reply.TheVariants as R
use Rattle.stamp_table.specs.Passes.{TableView, PassView, Holds, by, Appends, memory_seen}
use Rattle.stamp_table.proofs.Offered.{extends_own}
use Rattle.tick_merge.specs.Local.{act_of, TellsLabels}
use Rattle.tick_run.specs.prover.Turns.{IsFor, IsServed}

module _ (t : TableView) (c : StepCode) (p : ℕ) (ask : Ask) (old new : PassView) (fits_code : IsFor t c) (here : old.table ≡ t) (held : Holds old.held p) where
  served : (reply : Reply) (act : SharedAct) (found : ℕ) → Appends old (by p act) new → act_of found ask reply ≡ Some act
      → TellsLabels c.sizes.processes reply → IsServed c.sizes.processes p ask reply old.seen new.seen
  served reply act found appends fits labels = record {
    act = act;
    found = found;
    fits = fits;
    labels = labels;
    own = extends_own old.table.n old.table.rows old.held old.seen new.seen (by p act) held appends.extends;
  }

  -- the labels that the pass has seen
  pub seen_labels : (act : SharedAct) (labels : Labels) → Appends old (by p act) new → labels ≡ (memory_seen new).labels → AreLabels c.sizes.processes labels
  seen_labels act labels appends same =
      subst (AreLabels c.sizes.processes) (sym same)
      (subst (λ k. AreLabels k (memory_seen new).labels) (ap (λ (u : TableView). u.n) (appends.table ∙ here) ∙ fits_code.processes)
      (history_labels new.table.n new.table.rows new.seen))

  pub load_served : (labels : Labels) → (ask ≡ Q.LoadWord) ⊎ (ask ≡ Q.Scan) → Appends old (by p (Load (word labels))) new
      → labels ≡ (memory_seen new).labels → IsServed c.sizes.processes p ask (R.Word labels) old.seen new.seen
  load_served labels is appends same =
      served (R.Word labels) (Load (word labels)) 0 appends
      (⊎_elim (ap (λ a. act_of 0 a (R.Word labels))) (ap (λ a. act_of 0 a (R.Word labels))) is)
      (seen_labels (Load (word labels)) labels appends same)

  pub won_served : (before after : Labels) → ask ≡ Q.Exchange before after → Appends old (by p (Won (word before) (word after))) new
      → IsServed c.sizes.processes p ask R.Won old.seen new.seen
  won_served before after is appends = served R.Won (Won (word before) (word after)) 0 appends (ap (λ a. act_of 0 a R.Won) is) tt

  pub lost_served : (before after found : Labels) → ask ≡ Q.Exchange before after → Appends old (by p (Lost (word before) (word found))) new
      → found ≡ (memory_seen new).labels → IsServed c.sizes.processes p ask (R.Lost found) old.seen new.seen
  lost_served before after found is appends same =
      served (R.Lost found) (Lost (word before) (word found)) 0 appends (ap (λ a. act_of 0 a (R.Lost found)) is)
      (seen_labels (Lost (word before) (word found)) found appends same)

  pub read_served : (r i v : ℕ) → ask ≡ Q.Get r i → Appends old (by p (Read r i v)) new → IsServed c.sizes.processes p ask (R.Value v) old.seen new.seen
  read_served r i v is appends = served (R.Value v) (Read r i v) 0 appends (ap (λ a. act_of 0 a (R.Value v)) is) tt

  pub write_served : (r v : ℕ) → ask ≡ Q.Put r v → Appends old (by p (Write r v)) new → IsServed c.sizes.processes p ask R.Written old.seen new.seen
  write_served r v is appends = served R.Written (Write r v) 0 appends (ap (λ a. act_of 0 a R.Written) is) tt

  pub clear_served : (found : ℕ) → ask ≡ Q.Clear → Appends old (by p (Clear found)) new → IsServed c.sizes.processes p ask R.Cleared old.seen new.seen
  clear_served found is appends = served R.Cleared (Clear found) found appends (ap (λ a. act_of found a R.Cleared) is) tt
