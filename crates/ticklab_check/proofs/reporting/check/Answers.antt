use Rattle.std.proofs.Common.{◌∙◌, ℕ, ap, length, subst}
use Rattle.std.specs.List.{AllZip}
use Rattle.searches_states.specs.declared.limits.Limits.{Limits}
use Rattle.ticklab_check.specs.Checking.{SourceComesTo}
use Rattle.ticklab_check.specs.Listening.{shared_limits}
use Rattle.ticklab_check.specs.Wording.{tally_of}
use Rattle.ticklab_check.proofs.reporting.check.Goals as goal

pub returns-clause-are : goal.returns-clause-are
returns-clause-are g c =
    let sources = c.args.sources.now in
    let each = c.shared_limits-each.ensures ∙ ap (λ (n : ℕ). shared_limits n (length sources) c.args.limits) c.at_once.ensures in
    record {
      come =
          subst (λ (limits : Limits). AllZip (λ source timed. SourceComesTo limits source timed.checked) sources c.in_ok-files.files.items) each
          c.in_ok-files.ensures.come;
      tally = c.tally_of-tally.ensures ∙ ap tally_of c.deref.ensures.value;
    }
