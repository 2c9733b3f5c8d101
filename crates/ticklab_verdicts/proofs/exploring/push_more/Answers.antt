use Rattle.std.proofs.Common.{◌∙◌, ◌++◌, ℕ, List, ap, string_bytes}
use Rattle.std.specs.Prelude.{codes}
use Rattle.std.proofs.lemmas.List.{append_assoc}
use Rattle.ticklab_verdicts.specs.Lines.{states_text}
use Rattle.ticklab_verdicts.proofs.exploring.push_more.Goals as goal

pub returns : goal.returns
returns c =
    c.in_ok-push_states.ensures ∙ ap (λ (text : List ℕ). text ++ states_text c.args.is_merged c.args.states) c.in_ok-push_str.ensures.bytes
    ∙ append_assoc (string_bytes c.args.text.now) (codes "there are more than ") (states_text c.args.is_merged c.args.states)
