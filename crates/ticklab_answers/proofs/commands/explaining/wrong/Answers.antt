use Rattle.std.proofs.Common.{◌∙◌, ℕ, ap}
use Rattle.std.specs.Global.{Global}
use Rattle.std.specs.Prelude.{Vec}
use Rattle.ticklab_answers.specs.Explanations.{TellsFault}
use Rattle.ticklab_files.proofs.Responding.{gives_of}
use Rattle.ticklab_answers.proofs.commands.explaining.wrong.Goals as goal
use Rattle.ticklab_answers.proofs.commands.explaining.wrong.Goals.{in-Text+in_ok-out-in-Text, in-Json+in_ok-explanation-in-Json+in_ok-explanation_object-in-Json}

pub returns : goal.returns
returns c =
    let told : TellsFault c.args.form c.args.processes c.args.name.now c.args.text.now c.args.fault c.match-form.out.items = elim c.match-form.branch [
      | in-Text+in_ok-out-in-Text w ↦ rw (w.in-Text.is, w.out-is) w.in_ok-out-in-Text.ensures
      | in-Json+in_ok-explanation-in-Json+in_ok-explanation_object-in-Json w ↦ rw (w.in-Json.is, w.out-is) (
        w.in_ok-explanation-in-Json.explanation,
        w.in_ok-explanation-in-Json.ensures,
        ap (λ (bytes : Vec ℕ Global). bytes.items) w.into_bytes-out.ensures.value ∙ w.in_ok-explanation_object-in-Json.ensures,
      )
    ] in
    gives_of c.output.result c.match-form.out c.output.ensures.status c.output.ensures.told c.output.ensures.out told
