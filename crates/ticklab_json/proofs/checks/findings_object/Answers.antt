use Rattle.std.proofs.Common.{◌∙◌, List, ap}
use Rattle.serde_json.specs.Data.{Data, object}
use Rattle.serde_json.specs.Written.{has_float}
use Rattle.ticklab_check.specs.declared.checked.Timed.{Timed}
use Rattle.ticklab_json.specs.Checks.{file_list, findings_members}
use Rattle.ticklab_json.proofs.Exact.{findings_exact}
use Rattle.ticklab_json.proofs.checks.findings_object.Goals as goal

pub one_line-requires : goal.one_line-requires
one_line-requires c =
    let sources = c.args.sources.now in
    let findings = c.args.findings.now in
    ap has_float
    (c.in_ok-value.ensures
    ∙ ap (λ (files : List Data). object (findings_members files findings))
    (c.in_ok-files.ensures ∙ ap (λ (files : List Timed). file_list sources files) c.deref.ensures.value))
    ∙ findings_exact sources findings
